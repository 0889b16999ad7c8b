use Rattle.std.proofs.Common.{◌-◌}
use Rattle.format.specs.Format.{each}
use Rattle.record.specs.Laws.Scan.{Scanned}
use Rattle.writing.proofs.lent.scan.Given as goal

abbrev pub invariant-loop-k : goal.invariant-loop-k
invariant-loop-k g l = Scanned l.limit (g.L.Lent.fix l.lent 0) (each (g.L.Lent.fix l.lent) 1 (l.k - 1)) l.s
