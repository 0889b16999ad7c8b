-- WHAT IS k TIMES AS FAR ON EACH AXIS: it measures k² as much, so that any two measures compare as before, and is k times as far at every time; it is in a box that
-- is k times as far exactly if it was in the box.
use Rattle.std.specs.Prelude.{◌≡◌, ◌↔◌, List, [], ◌∷◌, map, ℕ, ◌*◌, ◌≤◌, leb, ℤ, pos, neg_ℤ, ◌*ℤ◌, ◌≤ℤ◌}
use Rattle.std.proofs.Common.{mul-le-mul}
use native.Mathlib.Omega.{arith}
use Rattle.std.proofs.Math.IntN.{*ℤ-zero}
use Rattle.distance.specs.Fix.{Fix, Bounded}
use Rattle.distance.specs.Distance.{seconds, N, Nx, Ny, squared, deviation, allowance}
use Rattle.distance.specs.Place.{Place, Time, place}
use Rattle.distance.specs.Box.{Box, In}
use Rattle.distance.specs.Tenfold.{scaled_fix, scaled_place, scaled_box}
use Rattle.distance.proofs.Laws.Axes.{AlongAxis, place_changed}
use Rattle.distance.specs.Integers.Differences.{nat_abs_mul}
use Rattle.distance.specs.Integers.Ring.{ring, quotes, vars}
use Rattle.distance.specs.Integers.Order.{le_cancel, pos_le, le_times}
use Rattle.distance.specs.Integers.Tests.{leb_times}

-- ---- one axis
N_scaled : (k i m j D s : ℤ) → N (k *ℤ i) (k *ℤ m) (k *ℤ j) D s ≡ k *ℤ N i m j D s
N_scaled k i m j D s = vars (k ∷ i ∷ m ∷ j ∷ D ∷ s ∷ []) (λ ρ v. simp (v 0, v 1, v 2, v 3, v 4, v 5, quotes) (ring _ _ ρ tt))

along_scaled : (k : ℕ) → AlongAxis (◌*ℤ◌ (pos k))
along_scaled k = record { of_zero = *ℤ-zero (pos k); between = (λ i j D s. vars (pos k ∷ i ∷ j ∷ D ∷ s ∷ []) (λ ρ v. simp (v 0, v 1, v 2, v 3, v 4, quotes) (ring _ _ ρ tt))) }

squared_scaled : (k : ℕ) (z : ℤ) → squared (pos k *ℤ z) ≡ k * k * squared z
squared_scaled k z = rw (nat_abs_mul (pos k) z) (omega arith)

-- ---- the distance: k² times the measure, and as much of the allowance at k times the tolerance
module _ (k : ℕ) where
  pub deviation_scaled : (i m j : Fix) → deviation (scaled_fix k i) (scaled_fix k m) (scaled_fix k j) ≡ k * k * deviation i m j
  unfolding deviation
  deviation_scaled i m j =
      rw (N_scaled (pos k) i.x m.x j.x (seconds i j) (seconds i m), N_scaled (pos k) i.y m.y j.y (seconds i j) (seconds i m), squared_scaled k (Nx i m j), squared_scaled k (Ny i m j))
      (omega arith)

  pub allowance_scaled : (e : ℕ) (i j : Fix) → allowance (k * e) (scaled_fix k i) (scaled_fix k j) ≡ k * k * allowance e i j
  unfolding allowance
  allowance_scaled e i j = squares e (squared (seconds i j))
    where
      squares : (e n : ℕ) → k * e * (k * e) * n ≡ k * k * (e * e * n)
      squares e n = omega arith

  -- SO THE COMPARISONS ARE THE SAME: of two fixes, which is further, and of one, whether it is within the tolerance
  module _ (one : 1 ≤ k) where
    square_one : 1 ≤ k * k
    square_one = mul-le-mul one one

    pub further_scaled : (i m n j : Fix) → leb (deviation (scaled_fix k i) (scaled_fix k m) (scaled_fix k j)) (deviation (scaled_fix k i) (scaled_fix k n) (scaled_fix k j)) ≡ leb (deviation i m j) (deviation i n j)
    further_scaled i m n j = rw (deviation_scaled i m j, deviation_scaled i n j) (leb_times (k * k) (deviation i m j) (deviation i n j) square_one)

    pub within_scaled : (e : ℕ) (i m j : Fix) → leb (deviation (scaled_fix k i) (scaled_fix k m) (scaled_fix k j)) (allowance (k * e) (scaled_fix k i) (scaled_fix k j)) ≡ leb (deviation i m j) (allowance e i j)
    within_scaled e i m j = rw (deviation_scaled i m j, allowance_scaled e i j) (leb_times (k * k) (deviation i m j) (allowance e i j) square_one)

-- ---- a place within the limit is within k times the limit
pub minus_scaled : (k l : ℕ) → neg_ℤ (pos (k * l)) ≡ pos k *ℤ neg_ℤ (pos l)
minus_scaled k l = vars (pos k ∷ pos l ∷ []) (λ ρ v. simp (v 0, v 1, quotes) (ring _ _ ρ tt))

pub bounded_scaled : (k : ℕ) {limit : ℕ} {f : Fix} → Bounded limit f → Bounded (k * limit) (scaled_fix k f)
bounded_scaled k {limit} h = record { x_low = rw (minus_scaled k limit) (le_times k _ _ h.x_low); x_high = le_times k _ _ h.x_high; y_low = rw (minus_scaled k limit) (le_times k _ _ h.y_low); y_high = le_times k _ _ h.y_high }

-- ---- a trail's place at every time
pub place_scaled : (k : ℕ) (u : Time) (l : List Fix) → place (map (scaled_fix k) l) u ≡ scaled_place k (place l u)
place_scaled k u l = place_changed (◌*ℤ◌ (pos k)) (◌*ℤ◌ (pos k)) (along_scaled k) (along_scaled k) u l

-- ---- and the box that it is in
module _ (k : ℕ) (one : 1 ≤ k) (b : Box) (P : Place) where
  -- an edge over the place's denominator
  edge_scaled : (z d : ℤ) → pos k *ℤ z *ℤ d ≡ pos k *ℤ (z *ℤ d)
  edge_scaled z d = vars (pos k ∷ z ∷ d ∷ []) (λ ρ v. simp (v 0, v 1, v 2, quotes) (ring _ _ ρ tt))

  le_same : (x y : ℤ) → (pos k *ℤ x) ≤ℤ (pos k *ℤ y) → x ≤ℤ y
  le_same x y = le_cancel (pos k) x y ((pos_le 1 k).1 one)

  pub in_scaled : In (scaled_box k b) (scaled_place k P) ↔ In b P
  in_scaled = (
    (λ h. record {
      x_above = le_same _ _ (rw (edge_scaled b.x_low P.d) at h.x_above);
      x_below = le_same _ _ (rw (edge_scaled b.x_high P.d) at h.x_below);
      y_above = le_same _ _ (rw (edge_scaled b.y_low P.d) at h.y_above);
      y_below = le_same _ _ (rw (edge_scaled b.y_high P.d) at h.y_below);
    }),
    (λ h. record {
      x_above = rw (edge_scaled b.x_low P.d) (le_times k _ _ h.x_above);
      x_below = rw (edge_scaled b.x_high P.d) (le_times k _ _ h.x_below);
      y_above = rw (edge_scaled b.y_low P.d) (le_times k _ _ h.y_above);
      y_below = rw (edge_scaled b.y_high P.d) (le_times k _ _ h.y_below);
    }),
  )
