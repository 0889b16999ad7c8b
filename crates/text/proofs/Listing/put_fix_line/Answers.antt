use Prim.Native.Nat.{◌≤◌}
use native.Mathlib.Omega.{arith}
use lib.ListN.{length}
use mir.Syntax.{w32}
use mir.Val.{Fits}
use Rattle.distance.specs.Fix.{fix_of}
use Rattle.text.specs.Text.{decimal, integer}
use Rattle.text.proofs.Laws.Listing.{Within, begun, goes_on, room_in}
use Rattle.text.proofs.Laws.Text.{stored_then, ten_digits, place_short, fix_line_is}
use borrow.Author.Rules.{rules}
use Rattle.text.proofs.Listing.put_fix_line.Goals as goal
use Rattle.text.proofs.Listing.put_fix_line.Goals.{After-put_decimal, After-put_integer, After-put_integer-2, After-put_silence, After-put_word, After-put_word-2, After-put_word-3, Start}

-- the time has at most ten digits
ten : (s : Start) → length (decimal s.args.fix.t.0) ≤ 10
ten s = let h : Fits w32 s.args.fix.t.0 = search rules in ten_digits _ h.fits

-- and each coordinate at most seven bytes
seven : (s : Start) → (length (integer s.args.fix.x.0) ≤ 7) × (length (integer s.args.fix.y.0) ≤ 7)
seven s = place_short s.requires.place

-- how far each piece goes at most
to_time : (c : After-put_word) → Within 4 c.args.self.now c.put_word.new.self
to_time c = goes_on 4 begun c.put_word.ensures.text (omega (arith, c.put_word.ensures.text.ends))

to_gap : (c : After-put_decimal) → Within 14 c.args.self.now c.put_decimal.new.self
to_gap c =
    let at = goal.at-After-put_decimal c in
    goes_on 10 (to_time at.After-put_word) c.put_decimal.ensures.text (omega (arith, c.put_decimal.ensures.text.ends, ten at.Start))

to_x : (c : After-put_word-2) → Within 15 c.args.self.now c.put_word-2.new.self
to_x c = goes_on 1 (to_gap (goal.at-After-put_word-2 c).After-put_decimal) c.put_word-2.ensures.text (omega (arith, c.put_word-2.ensures.text.ends))

to_second : (c : After-put_integer) → Within 22 c.args.self.now c.put_integer.new.self
to_second c =
    let at = goal.at-After-put_integer c in
    goes_on 7 (to_x at.After-put_word-2) c.put_integer.ensures.text (omega (arith, c.put_integer.ensures.text.ends, seven at.Start))

to_y : (c : After-put_word-3) → Within 23 c.args.self.now c.put_word-3.new.self
to_y c = goes_on 1 (to_second (goal.at-After-put_word-3 c).After-put_integer) c.put_word-3.ensures.text (omega (arith, c.put_word-3.ensures.text.ends))

to_place : (c : After-put_integer-2) → Within 30 c.args.self.now c.put_integer-2.new.self
to_place c =
    let at = goal.at-After-put_integer-2 c in
    goes_on 7 (to_y at.After-put_word-3) c.put_integer-2.ensures.text (omega (arith, c.put_integer-2.ensures.text.ends, seven at.Start))

to_end : (c : After-put_silence) → Within 38 c.args.self.now c.put_silence.new.self
to_end c = goes_on 8 (to_place (goal.at-After-put_silence c).After-put_integer-2) c.put_silence.ensures.text c.put_silence.ensures.short

pub put_decimal-requires : goal.put_decimal-requires
put_decimal-requires c =
    let at = goal.at-put_decimal-requires c in
    room_in _ (to_time at.After-put_word) (omega (arith, c.requires.room, ten at.Start))

pub put_word-requires-2 : goal.put_word-requires-2
put_word-requires-2 c = room_in 1 (to_gap (goal.at-put_word-requires-2 c).After-put_decimal) (omega (arith, c.requires.room))

pub put_integer-requires : goal.put_integer-requires
put_integer-requires c =
    let at = goal.at-put_integer-requires c in
    room_in _ (to_x at.After-put_word-2) (omega (arith, c.requires.room, seven at.Start))

pub put_word-requires-3 : goal.put_word-requires-3
put_word-requires-3 c = room_in 1 (to_second (goal.at-put_word-requires-3 c).After-put_integer) (omega (arith, c.requires.room))

pub put_integer-requires-2 : goal.put_integer-requires-2
put_integer-requires-2 c =
    let at = goal.at-put_integer-requires-2 c in
    room_in _ (to_y at.After-put_word-3) (omega (arith, c.requires.room, seven at.Start))

pub put_silence-requires : goal.put_silence-requires
put_silence-requires c = room_in 8 (to_place (goal.at-put_silence-requires c).After-put_integer-2) (omega (arith, c.requires.room))

pub put_word-requires-4 : goal.put_word-requires-4
put_word-requires-4 c = room_in 1 (to_end (goal.at-put_word-requires-4 c).After-put_silence) c.requires.room

pub returns-clause-text : goal.returns-clause-text
returns-clause-text c =
    rw (fix_line_is (fix_of c.args.fix))
    (stored_then c.put_word.ensures.text
    (stored_then c.put_decimal.ensures.text
    (stored_then c.put_word-2.ensures.text
    (stored_then c.put_integer.ensures.text
    (stored_then c.put_word-3.ensures.text
    (stored_then c.put_integer-2.ensures.text (stored_then c.put_silence.ensures.text c.put_word-4.ensures.text)))))))

pub returns-clause-short : goal.returns-clause-short
returns-clause-short c = omega (arith, c.put_word-4.ensures.text.ends, (to_end (goal.at-returns-clause-short c).After-put_silence).short)
