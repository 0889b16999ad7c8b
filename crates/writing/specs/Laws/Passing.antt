-- A pass of a writer over a lent list: what it is for, and what its scan has seen.
use mathlib.Core.List.{List, [], ◌∷◌}
use Prim.Native.Nat.{ℕ}
use Rattle.distance.specs.Fix.{Fix}
use Rattle.record.specs.declared.Scan.{Scan}
use Rattle.record.specs.Laws.Scan.{Scanned}

-- what a pass is for
pub data Task : Type 0 where
  checks : Task
  puts : Task
  turned : (k : ℕ) → Task

-- the scan of a list that isn't empty
abbrev pub Scans : (limit : ℕ) → List Fix → Scan → Type 0
Scans limit [] s = ⊥
Scans limit (a ∷ l) s = Scanned limit a l s
