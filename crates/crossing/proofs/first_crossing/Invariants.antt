use Rattle.format.specs.Kinds.{layout}
use Rattle.crossing.proofs.Laws.Search.{Seek}
use Rattle.crossing.proofs.first_crossing.Given as goal

abbrev pub invariant-loop-k : goal.invariant-loop-k
invariant-loop-k l = Seek (layout l.fixes.kind) l.fixes.bytes.now l.fixes.count l.f l.w.opens.0 l.w.closes.0 l.a l.k
