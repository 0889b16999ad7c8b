-- What two places that are at most E apart say of a box, at one moment: P is the original's place, Q the aged trail's.
use Rattle.std.specs.Prelude.{◌≡◌, refl, ◌⊎◌, ◌↔◌, [], ◌∷◌, ℕ, ℤ, pos, negsuc, neg_ℤ, ◌-ℤ◌, ◌*ℤ◌, ◌≤ℤ◌}
use Rattle.std.proofs.Common.{inl, inr}
use Rattle.distance.specs.Place.{Place, Proper, difference, dx, dy, Near, Same}
use Rattle.distance.specs.Box.{Box, In, NearBox, Differs, NearSide, x_low_side, x_high_side, y_low_side, y_high_side}
use Rattle.distance.specs.Integers.Ring.{ring, quotes, lit, lit_n, vars}
use Rattle.distance.specs.Integers.Order.{◌⊞◌, ◌⊠◌, square, gap, le_by, ≤ℤ-trans, zero_le, one_zero, le_cancel, one_mul_one, eq_by, root_le, Compared, at_most, at_least, compared}

-- ---- what the definitions give, taken apart: one more case of them, or one that says less, does not give it
-- in the box: at or above each low edge and at or below each high one
pub in_gives : {b : Box} {P : Place} → In b P
    → ((b.x_low *ℤ P.d) ≤ℤ P.x) × (P.x ≤ℤ (b.x_high *ℤ P.d)) × ((b.y_low *ℤ P.d) ≤ℤ P.y) × (P.y ≤ℤ (b.y_high *ℤ P.d))
in_gives i = (i.x_above, i.x_below, i.y_above, i.y_below)

-- .. and nothing else is asked
pub in_exactly : {b : Box} {P : Place} → In b P
    ↔ (((b.x_low *ℤ P.d) ≤ℤ P.x) × (P.x ≤ℤ (b.x_high *ℤ P.d)) × ((b.y_low *ℤ P.d) ≤ℤ P.y) × (P.y ≤ℤ (b.y_high *ℤ P.d)))
in_exactly = (λ i. (i.x_above, i.x_below, i.y_above, i.y_below), λ h. record { x_above = h.0; x_below = h.1; y_above = h.2; y_below = h.3 })

-- within E of the box: there is a place in it, at most E away
pub near_box_gives : {E : ℕ} {b : Box} {P : Place} → NearBox E b P → (Q : Place) × Proper Q × In b Q × Near E P Q
near_box_gives h = (h.spot, h.proper, h.inside, h.near)

-- n/d and the edge z: neither is more than E above the other
pub differs_gives : {E : ℕ} {n d z : ℤ} → Differs E n d z → ((n -ℤ z *ℤ d) ≤ℤ (pos E *ℤ d)) × ((z *ℤ d -ℤ n) ≤ℤ (pos E *ℤ d))
differs_gives h = (h.over, h.under)

-- at most E from a side: x from one of its two edges, or y from one of its two
pub near_side_gives : {E : ℕ} {b : Box} {P : Place} → NearSide E b P
    → Differs E P.x P.d b.x_low ⊎ Differs E P.x P.d b.x_high ⊎ Differs E P.y P.d b.y_low ⊎ Differs E P.y P.d b.y_high
near_side_gives (x_low_side h) = inl h
near_side_gives (x_high_side h) = inr (inl h)
near_side_gives (y_low_side h) = inr (inr (inl h))
near_side_gives (y_high_side h) = inr (inr (inr h))

-- TOLD: the aged trail is in the box, so the original is within E of it.
pub told : (E : ℕ) (b : Box) (P Q : Place) → Near E P Q → Proper Q → In b Q → NearBox E b P
told E b P Q h k i = record { spot = Q; proper = k; inside = i; near = h }

-- ---- one axis: n/d is at most E from m/c, and the edge z lies between them
module _ (E n d m c z : ℤ) (hE : pos 0 ≤ℤ E) (hd : pos 1 ≤ℤ d) (hc : pos 1 ≤ℤ c)
    (h : (difference n d m c *ℤ difference n d m c) ≤ℤ (E *ℤ E *ℤ (d *ℤ c *ℤ (d *ℤ c)))) where
  reach : pos 0 ≤ℤ (E *ℤ (d *ℤ c))
  reach = le_by (gap hE ⊠ gap (one_zero (one_mul_one hd hc))) (vars (E ∷ d ∷ c ∷ []) (λ ρ x. simp (x 0, x 1, x 2, quotes, lit ρ) (ring _ _ ρ tt)))

  squares : (E *ℤ E *ℤ (d *ℤ c *ℤ (d *ℤ c))) ≡ (E *ℤ (d *ℤ c)) *ℤ (E *ℤ (d *ℤ c))
  squares = vars (E ∷ d ∷ c ∷ []) (λ ρ x. simp (x 0, x 1, x 2, quotes) (ring _ _ ρ tt))

  above : difference n d m c ≤ℤ (E *ℤ (d *ℤ c))
  above = root_le _ _ reach (rw squares at h)

  below : neg_ℤ (difference n d m c) ≤ℤ (E *ℤ (d *ℤ c))
  below = root_le _ _ reach (rw (negated (difference n d m c)) (rw squares at h))
    where
      negated : (x : ℤ) → neg_ℤ x *ℤ neg_ℤ x ≡ x *ℤ x
      negated x = vars (x ∷ []) (λ ρ v. simp (v 0, quotes) (ring _ _ ρ tt))

  -- a number that isn't positive is at most what isn't negative
  small : (x : ℤ) → x ≤ℤ pos 0 → x ≤ℤ (E *ℤ d)
  small x hx = ≤ℤ-trans hx (le_by (gap hE ⊠ gap (one_zero hd)) (vars (E ∷ d ∷ []) (λ ρ v. simp (v 0, v 1, quotes, lit ρ) (ring _ _ ρ tt))))

  -- n/d is at or above the edge, m/c at or below it
  pub from_above : (z *ℤ d) ≤ℤ n → m ≤ℤ (z *ℤ c) → (n -ℤ z *ℤ d) ≤ℤ (E *ℤ d)
  from_above a b = le_cancel c _ _ hc
      (le_by (gap above ⊞ gap b ⊠ gap (one_zero hd)) (vars (E ∷ n ∷ d ∷ m ∷ c ∷ z ∷ []) (λ ρ x. simp (x 0, x 1, x 2, x 3, x 4, x 5, quotes, lit ρ) (ring _ _ ρ tt))))

  pub from_below : n ≤ℤ (z *ℤ d) → (z *ℤ c) ≤ℤ m → (z *ℤ d -ℤ n) ≤ℤ (E *ℤ d)
  from_below a b = le_cancel c _ _ hc
      (le_by (gap below ⊞ gap b ⊠ gap (one_zero hd)) (vars (E ∷ n ∷ d ∷ m ∷ c ∷ z ∷ []) (λ ρ x. simp (x 0, x 1, x 2, x 3, x 4, x 5, quotes, lit ρ) (ring _ _ ρ tt))))

  pub small_gap : {x y : ℤ} → x ≤ℤ y → (x -ℤ y) ≤ℤ (E *ℤ d)
  small_gap {x} {y} e = small _ (le_by (gap e) (vars (x ∷ y ∷ []) (λ ρ v. simp (v 0, v 1, quotes, lit ρ) (ring _ _ ρ tt))))

module _ {E : ℕ} {P Q : Place} (h : Near E P Q) (hp : Proper P) (hq : Proper Q) where
  near_x : (dx P Q *ℤ dx P Q) ≤ℤ (pos E *ℤ pos E *ℤ (P.d *ℤ Q.d *ℤ (P.d *ℤ Q.d)))
  near_x = ≤ℤ-trans (le_by (square (dy P Q)) refl) h.near

  near_y : (dy P Q *ℤ dy P Q) ≤ℤ (pos E *ℤ pos E *ℤ (P.d *ℤ Q.d *ℤ (P.d *ℤ Q.d)))
  near_y = ≤ℤ-trans (le_by (square (dx P Q)) (vars (dx P Q ∷ dy P Q ∷ []) (λ ρ x. simp (x 0, x 1, quotes) (ring _ _ ρ tt)))) h.near

  module _ (n m : ℤ) (k : (difference n P.d m Q.d *ℤ difference n P.d m Q.d) ≤ℤ (pos E *ℤ pos E *ℤ (P.d *ℤ Q.d *ℤ (P.d *ℤ Q.d)))) (z : ℤ) where
    -- the edge z is passed downwards, or upwards, from P to Q
    passed_down : (z *ℤ P.d) ≤ℤ n → m ≤ℤ (z *ℤ Q.d) → Differs E n P.d z
    passed_down a b = record {
      over = from_above (pos E) n P.d m Q.d z (zero_le E) hp.proper hq.proper k a b;
      under = small_gap (pos E) n P.d m Q.d z (zero_le E) hp.proper hq.proper k a;
    }

    passed_up : n ≤ℤ (z *ℤ P.d) → (z *ℤ Q.d) ≤ℤ m → Differs E n P.d z
    passed_up a b = record {
      over = small_gap (pos E) n P.d m Q.d z (zero_le E) hp.proper hq.proper k a;
      under = from_below (pos E) n P.d m Q.d z (zero_le E) hp.proper hq.proper k a b;
    }

  -- DENIED: the original is in the box and the aged trail is not, so the original is at most E from one of the box's sides.
  pub denied : (b : Box) → In b P → ¬ (In b Q) → NearSide E b P
  denied b i f = go (compared (b.x_low *ℤ Q.d) Q.x) (compared Q.x (b.x_high *ℤ Q.d)) (compared (b.y_low *ℤ Q.d) Q.y) (compared Q.y (b.y_high *ℤ Q.d))
    where
      go : Compared (b.x_low *ℤ Q.d) Q.x → Compared Q.x (b.x_high *ℤ Q.d) → Compared (b.y_low *ℤ Q.d) Q.y → Compared Q.y (b.y_high *ℤ Q.d) → NearSide E b P
      go (at_least e) r s t = x_low_side (passed_down P.x Q.x near_x b.x_low i.x_above e)
      go (at_most e) (at_least r) s t = x_high_side (passed_up P.x Q.x near_x b.x_high i.x_below r)
      go (at_most e) (at_most r) (at_least s) t = y_low_side (passed_down P.y Q.y near_y b.y_low i.y_above s)
      go (at_most e) (at_most r) (at_most s) (at_least t) = y_high_side (passed_up P.y Q.y near_y b.y_high i.y_below t)
      go (at_most e) (at_most r) (at_most s) (at_most t) = absurd (f (record { x_above = e; x_below = r; y_above = s; y_below = t }))

-- ---- whether a place is in the box does not hang on how its fractions are written
low_same : (z n d m c : ℤ) → n *ℤ c ≡ m *ℤ d → pos 1 ≤ℤ d → pos 1 ≤ℤ c → (z *ℤ d) ≤ℤ n → (z *ℤ c) ≤ℤ m
low_same z n d m c e k g h = le_cancel d _ _ k
    (le_by (gap (one_zero g) ⊠ gap h) (eq_by (negsuc 0) e (vars (z ∷ n ∷ d ∷ m ∷ c ∷ []) (λ ρ x. simp (x 0, x 1, x 2, x 3, x 4, quotes, lit ρ, lit_n ρ) (ring _ _ ρ tt)))))

high_same : (z n d m c : ℤ) → n *ℤ c ≡ m *ℤ d → pos 1 ≤ℤ d → pos 1 ≤ℤ c → n ≤ℤ (z *ℤ d) → m ≤ℤ (z *ℤ c)
high_same z n d m c e k g h = le_cancel d _ _ k
    (le_by (gap (one_zero g) ⊠ gap h) (eq_by (pos 1) e (vars (z ∷ n ∷ d ∷ m ∷ c ∷ []) (λ ρ x. simp (x 0, x 1, x 2, x 3, x 4, quotes, lit ρ) (ring _ _ ρ tt)))))

pub in_same : (b : Box) {P R : Place} → In b P → Same P R → Proper P → Proper R → In b R
in_same b {P} {R} i s p r = record {
  x_above = low_same b.x_low P.x P.d R.x R.d s.same_x p.proper r.proper i.x_above;
  x_below = high_same b.x_high P.x P.d R.x R.d s.same_x p.proper r.proper i.x_below;
  y_above = low_same b.y_low P.y P.d R.y R.d s.same_y p.proper r.proper i.y_above;
  y_below = high_same b.y_high P.y P.d R.y R.d s.same_y p.proper r.proper i.y_below;
}
