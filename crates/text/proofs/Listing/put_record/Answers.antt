use Rattle.std.proofs.Common.{◌≡◌, ◌+◌, ◌*◌, ℕ, List, Bor, refl, ap, arith, sym, ◌∙◌}
use Rattle.std.proofs.Math.Option.{some, none}
use Rattle.distance.specs.Fix.{fix_of}
use Rattle.record.proofs.Laws.Head.{accepted_head}
use Rattle.reading.specs.Reading.{yields}
use Rattle.reading.specs.declared.reading.Reader.{Reader}
use Rattle.text.proofs.Laws.Listing.{Within, begun, goes_on, room_in}
use Rattle.text.proofs.Laws.Text.{lines_onward, few_lines, reader_begins, line_there, yielded_is, yielded_moves, yielded_bounded, lines_ended, text_put}
use Rattle.text.proofs.Listing.put_record.Goals as goal
use Rattle.text.proofs.Listing.put_record.Goals.{At-loop-fix, In-Some}

-- the fix of this turn is the one on which the reader stands
yielded : (c : In-Some) → some (fix_of c.in-Some.fix) ≡ yields c.args.b.now c.loop-fix.fix-iterator.at
yielded c = rw c.loop-fix.invariant.bytes_are at c.in-Some.ensures.steps.yields_it

-- how far the opening and the lines so far go at most
to_line : (c : At-loop-fix) → Within (17 + 39 * c.loop-fix.fix-iterator.at) c.args.self.now c.loop-fix.self
to_line c =
    let opened : Within 17 c.args.self.now c.put_first_line.new.self = goes_on 17 begun c.put_first_line.ensures.text c.put_first_line.ensures.short in
    goes_on (39 * c.loop-fix.fix-iterator.at) opened c.loop-fix.invariant.put.stored c.loop-fix.invariant.put.not_past

pub count_at-requires : goal.count_at-requires
count_at-requires c = (accepted_head c.args.b.now c.requires.accepted).ten

pub mark_at-requires : goal.mark_at-requires
mark_at-requires c = (accepted_head c.args.b.now c.requires.accepted).ten

pub put_first_line-requires-clause-count : goal.put_first_line-requires-clause-count
put_first_line-requires-clause-count c = omega (arith, (accepted_head c.args.b.now c.requires.accepted).few_fixes, c.count_at.ensures.0)

pub loop-fix-init : goal.loop-fix-init
loop-fix-init c =
    let e = c.into_iter-fix-iterator.ensures.into_iter_gives in
    let s = c.put_first_line.new.self in
    let begun = reader_begins c.args.b.now c.requires.accepted s.out.now s.end (ap (λ (r : Reader). r.at) e ∙ c.requires.begun) in record {
      bytes_are = ap (λ (r : Reader). r.bytes.now) e ∙ c.requires.bytes;
      within = begun.0;
      put = begun.1;
      same_output = refl;
    }

pub put_fix_line-requires : goal.put_fix_line-requires
put_fix_line-requires c =
    let b = c.args.b.now in
    let a = c.requires.accepted in
    let at = goal.at-put_fix_line-requires c in
    let y = yielded at.In-Some in record {
      room = room_in 39 (to_line at.At-loop-fix) (omega (arith, c.requires.room, few_lines b, line_there b a _ _ y));
      place = yielded_bounded b a _ _ y;
    }

pub loop-fix-preserved : goal.loop-fix-preserved
loop-fix-preserved c =
    let b = c.args.b.now in
    let a = c.requires.accepted in
    let i = c.loop-fix.invariant in
    let s = c.in-Some.ensures.steps in
    let y = yielded (goal.at-loop-fix-preserved c).In-Some in
    let moved : c.next.new.self.at ≡ c.loop-fix.fix-iterator.at + 1 = rw i.bytes_are at s.moves_on ∙ yielded_moves b a _ _ y in record {
      bytes_are = ap (λ (b : Bor (List ℕ)). b.now) s.bytes_stay ∙ i.bytes_are;
      within = omega (arith, moved, line_there b a _ _ y);
      put = rw moved (lines_onward (some (fix_of c.in-Some.fix)) i.put (ap some (yielded_is b a _ _ y)) c.put_fix_line.ensures.text c.put_fix_line.ensures.short);
      same_output = c.put_fix_line.ensures.same_output ∙ i.same_output;
    }

pub put_word-requires : goal.put_word-requires
put_word-requires c =
    room_in 4 (to_line (goal.at-put_word-requires c).At-loop-fix) (omega (arith, c.requires.room, few_lines c.args.b.now, c.loop-fix.invariant.within))

pub returns : goal.returns
returns c =
    let b = c.args.b.now in
    let a = c.requires.accepted in
    let i = c.loop-fix.invariant in
    let all = lines_ended b a _ (rw i.bytes_are at c.in-None.ensures.steps.yields_it) i.within in
    let opened = rw (c.count_at.ensures.0, c.mark_at.ensures.0) at c.put_first_line.ensures.text in
    let far = to_line (goal.at-returns c).At-loop-fix in record {
      text = text_put b none (sym a) (rw a opened) (rw all at i.put) c.put_word.ensures.text;
      short = omega (arith, far.short, few_lines b, i.within, c.put_word.ensures.text.ends);
      same_output = c.put_word.ensures.same_output ∙ i.same_output ∙ c.put_first_line.ensures.same_output;
    }
