use Prim.Native.Nat.{◌-◌}
use Rattle.format.specs.Kinds.{layout}
use Rattle.format.specs.Format.{each}
use Rattle.format.specs.Fixes.{nth}
use Rattle.record.specs.Laws.Scan.{Scanned}
use Rattle.record.proofs.checking.scan_each.Given as goal

abbrev pub invariant-loop-k : goal.invariant-loop-k
invariant-loop-k l = Scanned (layout l.fixes.kind).limit (nth l.fixes 0) (each (nth l.fixes) 1 (l.k - 1)) l.s
