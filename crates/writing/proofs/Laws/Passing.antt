-- A pass of a writer over a lent list, fix by fix: where its places stand and the room that is left.
use Rattle.std.specs.Prelude.{◌≡◌, ℕ, ◌+◌, ◌*◌, ◌≤◌, length, get_or}
use Rattle.std.proofs.Math.Path.{refl, ap}
use Rattle.std.proofs.Common.{◌∙◌, mul-zero, arith}
use mathlib.Core.List.{List, [], ◌∷◌, map}
use Rattle.distance.specs.Fix.{Fix}
use Rattle.format.specs.Kinds.{Kind}
use Rattle.format.specs.Format.{record_length, each}
use Rattle.format.proofs.Laws.Kinds.{IsKind}
use Rattle.format.proofs.Laws.Each.{each_shift}

-- an output of n bytes that has room for m + 1 fixes has room for m after the first of them
pub room_left : (K : Kind) (at m n output : ℕ) → n ≡ output → at + K.size * (m + 1) ≤ output → at + K.size + K.size * m ≤ n
room_left K at m n output e h = omega (arith, e, h)

-- a record without fixes ends with its head, so the first fix is put at 10
module _ (K : Kind) (is : IsKind K) (s : List Fix) (l : List ℕ) where
  start : record_length K 0 ≡ 10
  start = rw mul-zero refl

-- the fixes of a lent list whose structs say fixes, by position: `no_fix` is what it has where it has none, and no contract reads it there
module _ {A : Type 0} (says_fix : A → Fix) (no_fix : A) where
  abbrev pub at_position : List A → ℕ → Fix
  at_position fs k = says_fix (get_or fs k no_fix)

  lent_each : (fs : List A) → each (at_position fs) 0 (length fs) ≡ map says_fix fs
  unfolding each
  lent_each [] = refl
  lent_each (f ∷ fs) = ap (λ (l : List Fix). says_fix f ∷ l) (each_shift (at_position (f ∷ fs)) (at_position fs) 0 (length fs) (λ i. refl) ∙ lent_each fs)
