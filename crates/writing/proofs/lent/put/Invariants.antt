use Rattle.format.specs.Kinds.{layout}
use Rattle.format.proofs.Laws.Layout.{FixesPut}
use Rattle.writing.proofs.lent.put.Given as goal

abbrev pub invariant-loop-k : goal.invariant-loop-k
invariant-loop-k g l = FixesPut (layout (g.L.Lent.kind l.lent)) (g.L.Lent.fix l.lent) (g.L.Lent.count l.lent) l.initial.out l.k l.out
