-- The distance is time-uniform: N is D times what the place of m differs by from the chord's place at that very time, on each axis.
-- So Within e i m j says that m's place and the chord's place at t_m are at most e apart (E_u of source document 003).
use Rattle.std.specs.Prelude.{◌≡◌, [], ◌∷◌, ℕ, ℤ, pos, ◌+ℤ◌, ◌-ℤ◌, ◌*ℤ◌, ◌≤ℤ◌}
use Rattle.distance.specs.Fix.{Fix}
use Rattle.distance.specs.Distance.{seconds, N, Nx, Ny, Within}
use Rattle.distance.specs.Place.{second, own, leg, interpolated, difference, dx, dy, Near}
use Rattle.distance.proofs.Laws.Deviation.{deviation_is, allowance_is}
use Rattle.distance.specs.Integers.Ring.{ring, quotes, lit, vars}
use Rattle.distance.specs.Integers.Order.{pos_le}

-- one axis; D and s are the chord's seconds and those gone at m
axis : (i m j D t a : ℤ) → difference m (pos 1) (interpolated i j (pos 1 *ℤ D) (t -ℤ pos 1 *ℤ a)) (pos 1 *ℤ D) ≡ N i m j D (t -ℤ a)
axis i m j D t a = vars (i ∷ m ∷ j ∷ D ∷ t ∷ a ∷ []) (λ ρ v. simp (v 0, v 1, v 2, v 3, v 4, v 5, quotes, lit ρ) (ring _ _ ρ tt))

one_one : (D : ℤ) → pos 1 *ℤ (pos 1 *ℤ D) ≡ D
one_one D = vars (D ∷ []) (λ ρ v. simp (v 0, quotes, lit ρ) (ring _ _ ρ tt))

module _ (i m j : Fix) where
  -- Within, written out: Nx² + Ny² ≤ e²·D²
  pub within_gives : {e : ℕ} → Within e i m j → (Nx i m j *ℤ Nx i m j +ℤ Ny i m j *ℤ Ny i m j) ≤ℤ (pos e *ℤ pos e *ℤ (seconds i j *ℤ seconds i j))
  within_gives {e} h = rw (← deviation_is i m j, ← allowance_is e i j) ((pos_le _ _).1 h.at_most)

  -- .. in the fixes' own numbers
  pub within_in_numbers : {e : ℕ} (D s : ℤ) → D ≡ pos j.t -ℤ pos i.t → s ≡ pos m.t -ℤ pos i.t → Within e i m j
      → ((((m.x -ℤ i.x) *ℤ D -ℤ (j.x -ℤ i.x) *ℤ s) *ℤ ((m.x -ℤ i.x) *ℤ D -ℤ (j.x -ℤ i.x) *ℤ s)
      +ℤ ((m.y -ℤ i.y) *ℤ D -ℤ (j.y -ℤ i.y) *ℤ s) *ℤ ((m.y -ℤ i.y) *ℤ D -ℤ (j.y -ℤ i.y) *ℤ s)) ≤ℤ (pos e *ℤ pos e *ℤ (D *ℤ D)))
  within_in_numbers {e} D s of_d of_s h = rw (of_d, of_s) (rw (← deviation_is i m j, ← allowance_is e i j) ((pos_le _ _).1 h.at_most))

  pub chord_x : dx (own m) (leg i j (second m.t)) ≡ Nx i m j
  unfolding own leg
  chord_x = axis i.x m.x j.x (seconds i j) (pos m.t) (pos i.t)

  pub chord_y : dy (own m) (leg i j (second m.t)) ≡ Ny i m j
  unfolding own leg
  chord_y = axis i.y m.y j.y (seconds i j) (pos m.t) (pos i.t)

  -- and the denominator of that difference is D
  pub chord_d : (own m).d *ℤ (leg i j (second m.t)).d ≡ seconds i j
  unfolding own leg
  chord_d = one_one (seconds i j)

  pub within_near : (e : ℕ) → Within e i m j → Near e (own m) (leg i j (second m.t))
  within_near e h = record { near = rw (chord_x, chord_y, chord_d, ← deviation_is i m j, ← allowance_is e i j) ((pos_le _ _).1 h.at_most) }

  pub near_within : (e : ℕ) → Near e (own m) (leg i j (second m.t)) → Within e i m j
  near_within e h = record { at_most = (pos_le _ _).0 (rw (chord_x, chord_y, chord_d, ← deviation_is i m j, ← allowance_is e i j) at h.near) }
