use native.Mathlib.Omega.{arith}
use borrow.Author.Rules.{rules}
use borrow.Author.Tests.{eq-eqb, ne_eqb}
use Rattle.aging.specs.Aging.{new_mark}
use Rattle.aging.proofs.new_mark.Goals as goal

pub returns-then-mark-eq65535-clause-mark : goal.returns-then-mark-eq65535-clause-mark
unfolding new_mark
returns-then-mark-eq65535-clause-mark c = rw (eq-eqb _ _ c.if-mark-eq65535.true) (search rules)

pub returns-else-mark-eq65535-clause-mark : goal.returns-else-mark-eq65535-clause-mark
unfolding new_mark
returns-else-mark-eq65535-clause-mark c = rw (ne_eqb _ _ c.if-mark-eq65535.false) (omega arith)
