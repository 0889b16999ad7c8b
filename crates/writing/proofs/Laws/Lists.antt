-- The fixes of a lent list by position are those of the list.
use Rattle.std.specs.Prelude.{◌≡◌, length}
use Rattle.std.proofs.Math.Path.{refl, ap}
use Rattle.std.proofs.Common.{◌∙◌}
use mathlib.Core.List.{List, [], ◌∷◌, map}
use Rattle.distance.specs.Fix.{Fix}
use Rattle.format.specs.Format.{each}
use Rattle.format.proofs.Laws.Each.{each_shift}
use Rattle.writing.specs.Laws.Lists.{nth}

pub lent_each : {A : Type 0} (says_fix : A → Fix) (fs : List A) → each (nth says_fix fs) 0 (length fs) ≡ map says_fix fs
unfolding each
lent_each says_fix [] = refl
lent_each says_fix (f ∷ fs) =
    ap (λ (l : List Fix). says_fix f ∷ l) (each_shift (nth says_fix (f ∷ fs)) (nth says_fix fs) 0 (length fs) (λ i. refl) ∙ lent_each says_fix fs)
