-- The fixes of a lent list by position.
use Rattle.std.specs.Prelude.{◌≡◌, ℕ, zero, suc, pos, get_or}
use Rattle.std.proofs.Math.Path.{refl}
use mathlib.Core.List.{List, [], ◌∷◌, map}
use Rattle.distance.specs.Fix.{Fix}

-- what a list has where it has no fix, which no contract reads
abbrev pub no_fix : Fix
no_fix = record { t = 0; x = pos 0; y = pos 0; silence = 0 }

-- the fix that the struct at a position says
abbrev pub nth : {A : Type 0} → (A → Fix) → List A → ℕ → Fix
nth says_fix l k = get_or (map says_fix l) k no_fix

-- no fix of a list says more of silence than its struct does
pub nth_silent : {A : Type 0} (says_fix : A → Fix) (l : List A) (k : ℕ) → ((a : A) → (says_fix a).silence ≡ 0) → (nth says_fix l k).silence ≡ 0
nth_silent says_fix [] k h = refl
nth_silent says_fix (a ∷ l) zero h = h a
nth_silent says_fix (a ∷ l) (suc k) h = nth_silent says_fix l k h
