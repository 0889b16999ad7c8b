use Prim.Native.Nat.{◌≤◌}
use native.Mathlib.Omega.{arith}
use lib.ListN.{length}
use Rattle.text.specs.Text.{decimal}
use Rattle.text.proofs.Laws.Text.{five_digits, mark_never, mark_number}
use Rattle.text.proofs.Listing.put_mark.Goals as goal
use Rattle.text.proofs.Listing.put_mark.Goals.{Start}

five : (s : Start) → length (decimal s.args.mark) ≤ 5
five s = five_digits _ (omega (arith, s.requires.mark))

pub returns-then-mark-eq65535-clause-text : goal.returns-then-mark-eq65535-clause-text
returns-then-mark-eq65535-clause-text c = rw (mark_never c.args.mark c.if-mark-eq65535.true) c.put_word.ensures.text

pub put_decimal-requires : goal.put_decimal-requires
put_decimal-requires c = omega (arith, five (goal.at-put_decimal-requires c).Start, c.requires.room)

pub returns-else-mark-eq65535-clause-text : goal.returns-else-mark-eq65535-clause-text
returns-else-mark-eq65535-clause-text c = rw (mark_number c.args.mark c.if-mark-eq65535.false) c.put_decimal.ensures.text

pub returns-else-mark-eq65535-clause-short : goal.returns-else-mark-eq65535-clause-short
returns-else-mark-eq65535-clause-short c = omega (arith, c.put_decimal.ensures.text.ends, five (goal.at-returns-else-mark-eq65535-clause-short c).Start)
