use Rattle.printing.specs.Fractions.{SameDivisors}
use Rattle.printing.proofs.common.Given as goal

abbrev pub invariant-loop-b : goal.invariant-loop-b
invariant-loop-b l = SameDivisors l.fn.n l.fn.d l.a l.b

abbrev pub decreases-loop-b : goal.decreases-loop-b
decreases-loop-b l = l.b
