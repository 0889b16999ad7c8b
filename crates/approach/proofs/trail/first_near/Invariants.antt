use Rattle.distance.specs.Fix.{fix_of}
use Rattle.format.specs.Kinds.{layout}
use Rattle.distance.specs.Place.{point_of}
use Rattle.approach.proofs.Laws.Search.{Seek}
use Rattle.approach.proofs.trail.first_near.Given as goal

abbrev pub invariant-loop-k : goal.invariant-loop-k
invariant-loop-k l = Seek (layout l.fixes.kind) l.fixes.bytes.now l.fixes.count (point_of l.c) l.r.0 (fix_of l.a) l.k
