use Rattle.distance.specs.Fix.{fix_of}
use Rattle.format.specs.Kinds.{layout}
use Rattle.moment.proofs.Laws.Walk.{Walk}
use Rattle.moment.proofs.place_on.Given as goal

abbrev pub invariant-loop-k : goal.invariant-loop-k
invariant-loop-k l = Walk (layout l.fixes.kind) l.fixes.bytes.now l.fixes.count l.u.0 (fix_of l.a) l.k
