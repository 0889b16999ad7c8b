use Rattle.distance.specs.Fix.{fix_of}
use Rattle.distance.specs.Distance.{deviation}
use Rattle.format.specs.Fixes.{nth}
use Rattle.thinning.proofs.Laws.Search.{Searched}
use Rattle.thinning.proofs.Span.furthest.Given as goal

abbrev pub invariant-loop-k : goal.invariant-loop-k
invariant-loop-k g l =
    Searched (λ x. deviation (fix_of l.i) (nth l.self.fixes x) (fix_of l.j)) l.self.lo l.k l.at (g.S.SquaredSum.value l.value)
