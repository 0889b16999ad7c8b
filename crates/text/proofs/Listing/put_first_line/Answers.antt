use Prim.Native.Nat.{◌≤◌}
use native.Mathlib.Omega.{arith}
use lib.ListN.{length}
use Rattle.text.specs.Text.{decimal}
use Rattle.text.proofs.Laws.Listing.{Within, begun, goes_on, room_in}
use Rattle.text.proofs.Laws.Text.{decimal_short, stored_then, first_line_is}
use Rattle.text.proofs.Listing.put_first_line.Goals as goal
use Rattle.text.proofs.Listing.put_first_line.Goals.{After-put_decimal, After-put_mark, After-put_word, After-put_word-2, Start}

-- a count has at most four digits
four : (s : Start) → length (decimal s.args.count) ≤ 4
four s = decimal_short 3 _ (omega (arith, s.requires.count))

-- how far each piece goes at most
to_count : (c : After-put_word) → Within 6 c.args.self.now c.put_word.new.self
to_count c = goes_on 6 begun c.put_word.ensures.text (omega (arith, c.put_word.ensures.text.ends))

to_gap : (c : After-put_decimal) → Within 10 c.args.self.now c.put_decimal.new.self
to_gap c =
    let at = goal.at-After-put_decimal c in
    goes_on 4 (to_count at.After-put_word) c.put_decimal.ensures.text (omega (arith, c.put_decimal.ensures.text.ends, four at.Start))

to_mark : (c : After-put_word-2) → Within 11 c.args.self.now c.put_word-2.new.self
to_mark c = goes_on 1 (to_gap (goal.at-After-put_word-2 c).After-put_decimal) c.put_word-2.ensures.text (omega (arith, c.put_word-2.ensures.text.ends))

to_end : (c : After-put_mark) → Within 16 c.args.self.now c.put_mark.new.self
to_end c = goes_on 5 (to_mark (goal.at-After-put_mark c).After-put_word-2) c.put_mark.ensures.text c.put_mark.ensures.short

pub put_decimal-requires : goal.put_decimal-requires
put_decimal-requires c =
    let at = goal.at-put_decimal-requires c in
    room_in _ (to_count at.After-put_word) (omega (arith, c.requires.room, four at.Start))

pub put_word-requires-2 : goal.put_word-requires-2
put_word-requires-2 c = room_in 1 (to_gap (goal.at-put_word-requires-2 c).After-put_decimal) (omega (arith, c.requires.room))

pub put_mark-requires-clause-room : goal.put_mark-requires-clause-room
put_mark-requires-clause-room c = room_in 5 (to_mark (goal.at-put_mark-requires-clause-room c).After-put_word-2) (omega (arith, c.requires.room))

pub put_word-requires-3 : goal.put_word-requires-3
put_word-requires-3 c = room_in 1 (to_end (goal.at-put_word-requires-3 c).After-put_mark) c.requires.room

pub returns-clause-text : goal.returns-clause-text
returns-clause-text c =
    rw (first_line_is c.args.count c.args.mark)
    (stored_then c.put_word.ensures.text
    (stored_then c.put_decimal.ensures.text
    (stored_then c.put_word-2.ensures.text (stored_then c.put_mark.ensures.text c.put_word-3.ensures.text))))

pub returns-clause-short : goal.returns-clause-short
returns-clause-short c = omega (arith, c.put_word-3.ensures.text.ends, (to_end (goal.at-returns-clause-short c).After-put_mark).short)
