-- Checks 7 to 9 and 20 in one pass over the fixes: what the passed ones have said so far.
use Rattle.std.specs.Prelude.{◌≡◌, ℕ, ◌<◌}
use mathlib.Core.List.{List, ◌∷◌}
use Rattle.distance.specs.Fix.{Fix, last_of}
use Rattle.distance.specs.Silence.{silent}
use Rattle.distance.specs.Laws.All.{All}
use Rattle.record.specs.declared.Scan.{Scan}
use Rattle.record.specs.Checks.{some_outside, some_early, some_other_silence}

-- a time is of 32 bits, which the code's type keeps
pub record Timed (f : Fix) : Type 0 where
  pub t32 : f.t < 4294967296

-- the pass has seen the fixes a ∷ l
pub record Scanned (limit : ℕ) (a : Fix) (l : List Fix) (s : Scan) : Type 0 where
  pub outside_is : s.outside ≡ some_outside limit (a ∷ l)
  pub early_is : s.early ≡ some_early (a ∷ l)
  pub other_is : s.other ≡ some_other_silence (a ∷ l)
  pub first_is : s.first.0 ≡ a.t
  pub last_is : s.last.0 ≡ (last_of a l).t
  pub silent_is : s.silent ≡ silent (last_of a l)
  pub timed : All Timed (a ∷ l)
