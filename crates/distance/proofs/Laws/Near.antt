-- Being at most E apart: of a place and itself, for any writing of the fractions, and by way of a third place; and being no further from a place than another.
use Rattle.std.proofs.Common.{sym, ◌∙◌}
use Rattle.std.specs.Prelude.{◌≡◌, refl, ◌↔◌, [], ◌∷◌, ℕ, ◌+◌, ℤ, pos, neg_ℤ, ◌+ℤ◌, ◌-ℤ◌, ◌*ℤ◌, ◌≤ℤ◌}
use Rattle.distance.specs.Place.{Place, Proper, difference, dx, dy, Near, NoFurther, Same}
use Rattle.distance.specs.Integers.Ring.{ring, quotes, lit, vars}
use Rattle.distance.specs.Integers.Order.{◌⊞◌, ◌⊠◌, nat, square, gap, le_by, le_cancel, one_mul_one, eq_by, root_le}

-- ---- what the definitions give, taken apart
pub proper_gives : {P : Place} → Proper P → pos 1 ≤ℤ P.d
proper_gives h = h.proper

pub near_gives : {E : ℕ} {P Q : Place} → Near E P Q → (dx P Q *ℤ dx P Q +ℤ dy P Q *ℤ dy P Q) ≤ℤ (pos E *ℤ pos E *ℤ (P.d *ℤ Q.d *ℤ (P.d *ℤ Q.d)))
near_gives h = h.near

pub same_gives : {P Q : Place} → Same P Q → (P.x *ℤ Q.d ≡ Q.x *ℤ P.d) × (P.y *ℤ Q.d ≡ Q.y *ℤ P.d)
same_gives h = (h.same_x, h.same_y)

pub no_further_gives : {C P Q : Place} → NoFurther C P Q → ((dx P C *ℤ dx P C +ℤ dy P C *ℤ dy P C) *ℤ (Q.d *ℤ Q.d)) ≤ℤ ((dx Q C *ℤ dx Q C +ℤ dy Q C *ℤ dy Q C) *ℤ (P.d *ℤ P.d))
no_further_gives h = h.no_further

-- .. in numbers alone, and both ways where they are asked as well as promised
pub near_exactly : {E : ℕ} {P Q : Place} → Near E P Q
    ↔ (((P.x *ℤ Q.d -ℤ Q.x *ℤ P.d) *ℤ (P.x *ℤ Q.d -ℤ Q.x *ℤ P.d) +ℤ (P.y *ℤ Q.d -ℤ Q.y *ℤ P.d) *ℤ (P.y *ℤ Q.d -ℤ Q.y *ℤ P.d))
    ≤ℤ (pos E *ℤ pos E *ℤ (P.d *ℤ Q.d *ℤ (P.d *ℤ Q.d))))
near_exactly = (λ h. h.near, λ h. record { near = h })

pub no_further_exactly : {C P Q : Place} → NoFurther C P Q
    ↔ ((((P.x *ℤ C.d -ℤ C.x *ℤ P.d) *ℤ (P.x *ℤ C.d -ℤ C.x *ℤ P.d) +ℤ (P.y *ℤ C.d -ℤ C.y *ℤ P.d) *ℤ (P.y *ℤ C.d -ℤ C.y *ℤ P.d)) *ℤ (Q.d *ℤ Q.d))
    ≤ℤ (((Q.x *ℤ C.d -ℤ C.x *ℤ Q.d) *ℤ (Q.x *ℤ C.d -ℤ C.x *ℤ Q.d) +ℤ (Q.y *ℤ C.d -ℤ C.y *ℤ Q.d) *ℤ (Q.y *ℤ C.d -ℤ C.y *ℤ Q.d)) *ℤ (P.d *ℤ P.d)))
no_further_exactly = (λ h. h.no_further, λ h. record { no_further = h })

-- ---- the same place
pub same_self : (P : Place) → Same P P
same_self P = record { same_x = refl; same_y = refl }

pub same_swap : {P Q : Place} → Same P Q → Same Q P
same_swap h = record { same_x = sym h.same_x; same_y = sym h.same_y }

-- ---- squares of two coordinates, with a factor k cancelled
pub cancel_squares : (k u v n : ℤ) → pos 1 ≤ℤ k → (k *ℤ u *ℤ (k *ℤ u) +ℤ k *ℤ v *ℤ (k *ℤ v)) ≤ℤ (k *ℤ k *ℤ n) → (u *ℤ u +ℤ v *ℤ v) ≤ℤ n
cancel_squares k u v n h e =
    le_cancel (k *ℤ k) _ n (one_mul_one h h)
    (le_by (gap e) (vars (k ∷ u ∷ v ∷ n ∷ []) (λ ρ x. simp (x 0, x 1, x 2, x 3, quotes) (ring _ _ ρ tt))))

pub near_self : (E : ℕ) (P : Place) → Near E P P
near_self E P = record {
  near = le_by (square (pos E *ℤ (P.d *ℤ P.d)))
      (vars (pos E ∷ P.x ∷ P.y ∷ P.d ∷ []) (λ ρ x. simp (x 0, x 1, x 2, x 3, quotes) (ring _ _ ρ tt)));
}

-- from the one as from the other, and what is at most e apart is at most anything greater apart
pub near_swap : {E : ℕ} {P Q : Place} → Near E P Q → Near E Q P
near_swap {E} {P} {Q} h = record {
  near = le_by (gap h.near) (vars (pos E ∷ P.x ∷ P.y ∷ P.d ∷ Q.x ∷ Q.y ∷ Q.d ∷ []) (λ ρ x. simp (x 0, x 1, x 2, x 3, x 4, x 5, x 6, quotes) (ring _ _ ρ tt)));
}

pub near_more : {P Q : Place} (e k : ℕ) → Near e P Q → Near (e + k) P Q
near_more {P} {Q} e k h = record {
  near = wider (dx P Q *ℤ dx P Q +ℤ dy P Q *ℤ dy P Q) (P.d *ℤ Q.d) h.near;
}
  where
    wider : (x t : ℤ) → x ≤ℤ (pos e *ℤ pos e *ℤ (t *ℤ t)) → x ≤ℤ (pos (e + k) *ℤ pos (e + k) *ℤ (t *ℤ t))
    wider x t g = le_by (gap g ⊞ (nat 2 ⊠ nat e ⊠ nat k ⊞ nat k ⊠ nat k) ⊠ square t) (vars (x ∷ t ∷ pos e ∷ pos k ∷ []) (λ ρ v. simp (v 0, v 1, v 2, v 3, quotes, lit ρ) (ring _ _ ρ tt)))

-- ---- any writing: n/d and z/f are one number, and m/c another
rescaled : (n d z f m c : ℤ) → n *ℤ f ≡ z *ℤ d → d *ℤ difference z f m c ≡ f *ℤ difference n d m c
rescaled n d z f m c h =
    eq_by (neg_ℤ c) h (vars (n ∷ d ∷ z ∷ f ∷ m ∷ c ∷ []) (λ ρ x. simp (x 0, x 1, x 2, x 3, x 4, x 5, quotes) (ring _ _ ρ tt)))

pub near_same : (E : ℕ) {P Q R : Place} → Near E P Q → Same P R → Proper P → Near E R Q
near_same E {P} {Q} {R} h s k = record {
  near = cancel_squares P.d (dx R Q) (dy R Q) _ k.proper
      (rw (rescaled P.x P.d R.x R.d Q.x Q.d s.same_x, rescaled P.y P.d R.y R.d Q.y Q.d s.same_y)
      (scaled (pos E) P.d Q.d R.d (dx P Q) (dy P Q) h.near));
}
  where
    scaled : (e d c f a b : ℤ) → (a *ℤ a +ℤ b *ℤ b) ≤ℤ (e *ℤ e *ℤ (d *ℤ c *ℤ (d *ℤ c)))
        → (f *ℤ a *ℤ (f *ℤ a) +ℤ f *ℤ b *ℤ (f *ℤ b)) ≤ℤ (d *ℤ d *ℤ (e *ℤ e *ℤ (f *ℤ c *ℤ (f *ℤ c))))
    scaled e d c f a b g = le_by (square f ⊠ gap g) (vars (e ∷ d ∷ c ∷ f ∷ a ∷ b ∷ []) (λ ρ x. simp (x 0, x 1, x 2, x 3, x 4, x 5, quotes) (ring _ _ ρ tt)))

-- ---- by way of a third place: at most e from P to Q and at most f from Q to R are at most e + f from P to R
-- the product of two vectors, of lengths at most e·t and f·t
product_of : (e f : ℕ) (t x y u v : ℤ) → (x *ℤ x +ℤ y *ℤ y) ≤ℤ (pos e *ℤ pos e *ℤ (t *ℤ t)) → (u *ℤ u +ℤ v *ℤ v) ≤ℤ (pos f *ℤ pos f *ℤ (t *ℤ t)) → (x *ℤ u +ℤ y *ℤ v) ≤ℤ (pos e *ℤ pos f *ℤ (t *ℤ t))
product_of e f t x y u v h k = root_le _ _ (le_by (nat e ⊠ nat f ⊠ square t) (vars (pos e ∷ pos f ∷ t ∷ []) (λ ρ z. simp (z 0, z 1, z 2, quotes, lit ρ) (ring _ _ ρ tt))))
    (le_by (square (pos e *ℤ t) ⊠ gap k ⊞ (square u ⊞ square v) ⊠ gap h ⊞ square (x *ℤ v -ℤ y *ℤ u))
    (vars (pos e ∷ pos f ∷ t ∷ x ∷ y ∷ u ∷ v ∷ []) (λ ρ z. simp (z 0, z 1, z 2, z 3, z 4, z 5, z 6, quotes) (ring _ _ ρ tt))))

sum_of : (e f : ℕ) (t x y u v : ℤ) → (x *ℤ x +ℤ y *ℤ y) ≤ℤ (pos e *ℤ pos e *ℤ (t *ℤ t)) → (u *ℤ u +ℤ v *ℤ v) ≤ℤ (pos f *ℤ pos f *ℤ (t *ℤ t))
    → ((x +ℤ u) *ℤ (x +ℤ u) +ℤ (y +ℤ v) *ℤ (y +ℤ v)) ≤ℤ (pos (e + f) *ℤ pos (e + f) *ℤ (t *ℤ t))
sum_of e f t x y u v h k = le_by (gap h ⊞ gap k ⊞ nat 2 ⊠ gap (product_of e f t x y u v h k))
    (vars (pos e ∷ pos f ∷ t ∷ x ∷ y ∷ u ∷ v ∷ []) (λ ρ z. simp (z 0, z 1, z 2, z 3, z 4, z 5, z 6, quotes, lit ρ) (ring _ _ ρ tt)))

pub near_through : {e f : ℕ} {P Q R : Place} → Near e P Q → Near f Q R → Proper Q → Near (e + f) P R
near_through {e} {f} {P} {Q} {R} h k q = record {
  near = cancel_squares Q.d (dx P R) (dy P R) _ q.proper
      (rw (joined P.x P.d Q.x Q.d R.x R.d, joined P.y P.d Q.y Q.d R.y R.d, over (pos (e + f)) P.d Q.d R.d)
      (sum_of e f (P.d *ℤ Q.d *ℤ R.d) (R.d *ℤ dx P Q) (R.d *ℤ dy P Q) (P.d *ℤ dx Q R) (P.d *ℤ dy Q R)
      (times_square (pos e) (P.d *ℤ Q.d) R.d (dx P Q) (dy P Q) h.near) (square_times (pos f) P.d Q.d R.d (dx Q R) (dy Q R) k.near)));
}
  where
    joined : (n d m c z f : ℤ) → c *ℤ difference n d z f ≡ f *ℤ difference n d m c +ℤ d *ℤ difference m c z f
    joined n d m c z f = vars (n ∷ d ∷ m ∷ c ∷ z ∷ f ∷ []) (λ ρ x. simp (x 0, x 1, x 2, x 3, x 4, x 5, quotes) (ring _ _ ρ tt))

    over : (g d c f : ℤ) → c *ℤ c *ℤ (g *ℤ g *ℤ (d *ℤ f *ℤ (d *ℤ f))) ≡ g *ℤ g *ℤ (d *ℤ c *ℤ f *ℤ (d *ℤ c *ℤ f))
    over g d c f = vars (g ∷ d ∷ c ∷ f ∷ []) (λ ρ x. simp (x 0, x 1, x 2, x 3, quotes) (ring _ _ ρ tt))

    times_square : (e t f a b : ℤ) → (a *ℤ a +ℤ b *ℤ b) ≤ℤ (e *ℤ e *ℤ (t *ℤ t)) → (f *ℤ a *ℤ (f *ℤ a) +ℤ f *ℤ b *ℤ (f *ℤ b)) ≤ℤ (e *ℤ e *ℤ (t *ℤ f *ℤ (t *ℤ f)))
    times_square e t f a b g = le_by (square f ⊠ gap g) (vars (e ∷ t ∷ f ∷ a ∷ b ∷ []) (λ ρ x. simp (x 0, x 1, x 2, x 3, x 4, quotes) (ring _ _ ρ tt)))

    square_times : (e d c f a b : ℤ) → (a *ℤ a +ℤ b *ℤ b) ≤ℤ (e *ℤ e *ℤ (c *ℤ f *ℤ (c *ℤ f))) → (d *ℤ a *ℤ (d *ℤ a) +ℤ d *ℤ b *ℤ (d *ℤ b)) ≤ℤ (e *ℤ e *ℤ (d *ℤ c *ℤ f *ℤ (d *ℤ c *ℤ f)))
    square_times e d c f a b g = le_by (square d ⊠ gap g) (vars (e ∷ d ∷ c ∷ f ∷ a ∷ b ∷ []) (λ ρ x. simp (x 0, x 1, x 2, x 3, x 4, x 5, quotes) (ring _ _ ρ tt)))

-- ---- no further than another: for any writing of the two, ..
abbrev apart : Place → Place → ℤ
apart P C = dx P C *ℤ dx P C +ℤ dy P C *ℤ dy P C

apart_same : {P R : Place} (C : Place) → Same P R → apart R C *ℤ (P.d *ℤ P.d) ≡ apart P C *ℤ (R.d *ℤ R.d)
apart_same {P} {R} C s =
    squares (dx R C) (dy R C) P.d
    ∙ rw (rescaled P.x P.d R.x R.d C.x C.d s.same_x, rescaled P.y P.d R.y R.d C.y C.d s.same_y) (sym (squares (dx P C) (dy P C) R.d))
  where
    squares : (a b d : ℤ) → (a *ℤ a +ℤ b *ℤ b) *ℤ (d *ℤ d) ≡ d *ℤ a *ℤ (d *ℤ a) +ℤ d *ℤ b *ℤ (d *ℤ b)
    squares a b d = vars (a ∷ b ∷ d ∷ []) (λ ρ x. simp (x 0, x 1, x 2, quotes) (ring _ _ ρ tt))

left_same : (x y z p q r : ℤ) → pos 1 ≤ℤ p → z *ℤ (p *ℤ p) ≡ x *ℤ (r *ℤ r) → (x *ℤ (q *ℤ q)) ≤ℤ (y *ℤ (p *ℤ p)) → (z *ℤ (q *ℤ q)) ≤ℤ (y *ℤ (r *ℤ r))
left_same x y z p q r k e h = le_cancel (p *ℤ p) _ _ (one_mul_one k k)
    (le_by (square r ⊠ gap h) (eq_by (neg_ℤ (q *ℤ q)) e (vars (x ∷ y ∷ z ∷ p ∷ q ∷ r ∷ []) (λ ρ v. simp (v 0, v 1, v 2, v 3, v 4, v 5, quotes) (ring _ _ ρ tt)))))

right_same : (x y z p q r : ℤ) → pos 1 ≤ℤ p → z *ℤ (p *ℤ p) ≡ x *ℤ (r *ℤ r) → (y *ℤ (p *ℤ p)) ≤ℤ (x *ℤ (q *ℤ q)) → (y *ℤ (r *ℤ r)) ≤ℤ (z *ℤ (q *ℤ q))
right_same x y z p q r k e h = le_cancel (p *ℤ p) _ _ (one_mul_one k k)
    (le_by (square r ⊠ gap h) (eq_by (q *ℤ q) e (vars (x ∷ y ∷ z ∷ p ∷ q ∷ r ∷ []) (λ ρ v. simp (v 0, v 1, v 2, v 3, v 4, v 5, quotes) (ring _ _ ρ tt)))))

pub no_further_same : {C P Q R S : Place} → NoFurther C P Q → Same P R → Same Q S → Proper P → Proper Q → NoFurther C R S
no_further_same {C} {P} {Q} {R} {S} h s t p q = record {
  no_further = right_same (apart Q C) (apart R C) (apart S C) Q.d R.d S.d q.proper (apart_same C t)
      (left_same (apart P C) (apart Q C) (apart R C) P.d Q.d R.d p.proper (apart_same C s) h.no_further);
}

-- .. and what is no further than a place within r is within r
pub no_further_near : {r : ℕ} {C P Q : Place} → NoFurther C P Q → Near r Q C → Proper Q → Near r P C
no_further_near {r} {C} {P} {Q} h k q = record { near = le_cancel (Q.d *ℤ Q.d) _ _ (one_mul_one q.proper q.proper) (chain (pos r) P.d Q.d C.d (apart P C) (apart Q C) h.no_further k.near) }
  where
    chain : (e d c f x y : ℤ) → (x *ℤ (c *ℤ c)) ≤ℤ (y *ℤ (d *ℤ d)) → y ≤ℤ (e *ℤ e *ℤ (c *ℤ f *ℤ (c *ℤ f))) → (c *ℤ c *ℤ x) ≤ℤ (c *ℤ c *ℤ (e *ℤ e *ℤ (d *ℤ f *ℤ (d *ℤ f))))
    chain e d c f x y h k = le_by (gap h ⊞ square d ⊠ gap k) (vars (e ∷ d ∷ c ∷ f ∷ x ∷ y ∷ []) (λ ρ v. simp (v 0, v 1, v 2, v 3, v 4, v 5, quotes) (ring _ _ ρ tt)))
