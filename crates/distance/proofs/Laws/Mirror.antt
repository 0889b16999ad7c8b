-- A trail mirrored has the mirrored place at every time, and the mirrored rounded one; and its fixes deviate as much as before.
use Rattle.std.specs.Prelude.{◌≡◌, refl, Bool, true, false, List, [], ◌∷◌, map, ℕ, ℤ, neg_ℤ}
use Rattle.std.proofs.Common.{◌∙◌, ap}
use Rattle.distance.specs.Fix.{Fix}
use Rattle.distance.specs.Distance.{seconds, N, squared, deviation, allowance}
use Rattle.distance.specs.Place.{Time, place}
use Rattle.distance.specs.Rounding.{rounded}
use Rattle.distance.specs.Mirror.{Mirror, mirrored, mirrored_fix, mirrored_place}
use Rattle.distance.proofs.Laws.Axes.{AlongAxis, place_changed}
use Rattle.distance.proofs.Laws.Rounding.{rounded_opposite}
use Rattle.distance.specs.Integers.Differences.{nat_abs_neg}
use Rattle.distance.specs.Integers.Ring.{ring, quotes, vars}

-- ---- one axis
pub rounded_mirrored : (m : Bool) (n d : ℤ) → rounded (mirrored m n) d ≡ mirrored m (rounded n d)
rounded_mirrored true n d = rounded_opposite n d
rounded_mirrored false n d = refl

along_mirrored : (m : Bool) → AlongAxis (mirrored m)
along_mirrored true = record { of_zero = refl; between = (λ i j D s. vars (i ∷ j ∷ D ∷ s ∷ []) (λ ρ v. simp (v 0, v 1, v 2, v 3, quotes) (ring _ _ ρ tt))) }
along_mirrored false = record { of_zero = refl; between = (λ i j D s. refl) }

-- ---- a trail
pub place_mirrored : (m : Mirror) (u : Time) (l : List Fix) → place (map (mirrored_fix m) l) u ≡ mirrored_place m (place l u)
place_mirrored m u l = place_changed (mirrored m.in_x) (mirrored m.in_y) (along_mirrored m.in_x) (along_mirrored m.in_y) u l

-- ---- the distance
N_mirrored : (b : Bool) (i m j D s : ℤ) → squared (N (mirrored b i) (mirrored b m) (mirrored b j) D s) ≡ squared (N i m j D s)
N_mirrored true i m j D s =
    let e : N (neg_ℤ i) (neg_ℤ m) (neg_ℤ j) D s ≡ neg_ℤ (N i m j D s) = vars (i ∷ m ∷ j ∷ D ∷ s ∷ []) (λ ρ v. simp (v 0, v 1, v 2, v 3, v 4, quotes) (ring _ _ ρ tt)) in
    ap squared e ∙ rw (nat_abs_neg (N i m j D s)) refl
N_mirrored false i m j D s = refl

pub deviation_mirrored : (b : Mirror) (i m j : Fix) → deviation (mirrored_fix b i) (mirrored_fix b m) (mirrored_fix b j) ≡ deviation i m j
unfolding deviation
deviation_mirrored b i m j =
    rw (N_mirrored b.in_x i.x m.x j.x (seconds i j) (seconds i m), N_mirrored b.in_y i.y m.y j.y (seconds i j) (seconds i m)) refl

pub allowance_mirrored : (b : Mirror) (e : ℕ) (i j : Fix) → allowance e (mirrored_fix b i) (mirrored_fix b j) ≡ allowance e i j
unfolding allowance
allowance_mirrored b e i j = refl
