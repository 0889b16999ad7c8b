use Rattle.worked.specs.Agings.{Going}
use Rattle.worked.proofs.age_all.Given as goal

abbrev pub invariant-loop-e : goal.invariant-loop-e
invariant-loop-e l = Going l.fn.b l.es l.b l.count l.e-index
