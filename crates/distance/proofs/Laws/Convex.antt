-- Convexity: two carts on two legs that are at most E apart at both of two seconds are so at every fractional time between them.
use Rattle.std.specs.Prelude.{◌≡◌, [], ◌∷◌, ℕ, ◌<◌, ℤ, pos, ◌+ℤ◌, ◌-ℤ◌, ◌*ℤ◌, ◌≤ℤ◌}
use Rattle.std.proofs.Common.{arith}
use Rattle.distance.specs.Fix.{Fix}
use Rattle.distance.specs.Distance.{seconds}
use Rattle.distance.specs.Place.{Time, From, Until, second, leg, interpolated, difference, dx, dy, Near}
use Rattle.distance.proofs.Laws.Near.{cancel_squares}
use Rattle.distance.specs.Integers.Differences.{diffs}
use Rattle.distance.specs.Integers.Ring.{ring, quotes, lit, vars}
use Rattle.distance.specs.Integers.Order.{NonNegative, ◌⊞◌, ◌⊠◌, square, gap, le_by, pos_le}

-- the weighted mean of two vectors is no longer than the longer one
mean : {r w : ℤ} (x y u v M : ℤ) → NonNegative r → NonNegative w → (x *ℤ x +ℤ y *ℤ y) ≤ℤ M → (u *ℤ u +ℤ v *ℤ v) ≤ℤ M
    → ((r *ℤ x +ℤ w *ℤ u) *ℤ (r *ℤ x +ℤ w *ℤ u) +ℤ (r *ℤ y +ℤ w *ℤ v) *ℤ (r *ℤ y +ℤ w *ℤ v)) ≤ℤ ((r +ℤ w) *ℤ (r +ℤ w) *ℤ M)
mean {r} {w} x y u v M nr nw h k =
    le_by (nr ⊠ (nr ⊞ nw) ⊠ gap h ⊞ nw ⊠ (nr ⊞ nw) ⊠ gap k ⊞ nr ⊠ nw ⊠ (square (x -ℤ u) ⊞ square (y -ℤ v)))
    (vars (r ∷ w ∷ x ∷ y ∷ u ∷ v ∷ M ∷ []) (λ ρ z. simp (z 0, z 1, z 2, z 3, z 4, z 5, z 6, quotes) (ring _ _ ρ tt)))

-- one axis of a leg at p/q, which starts at a with i and goes to j in D seconds
abbrev at_time : (i j D a p q : ℤ) → ℤ
at_time i j D a p q = interpolated i j (q *ℤ D) (p -ℤ q *ℤ a)

-- the difference of two legs at p/q is the mean of those at s and at t, as p/q lies between them
between : (i j D a k l C b s t p q : ℤ)
    → (t -ℤ s) *ℤ difference (at_time i j D a p q) (q *ℤ D) (at_time k l C b p q) (q *ℤ C)
    ≡ q *ℤ ((q *ℤ t -ℤ p) *ℤ difference (at_time i j D a s (pos 1)) (pos 1 *ℤ D) (at_time k l C b s (pos 1)) (pos 1 *ℤ C)
    +ℤ (p -ℤ q *ℤ s) *ℤ difference (at_time i j D a t (pos 1)) (pos 1 *ℤ D) (at_time k l C b t (pos 1)) (pos 1 *ℤ C))
between i j D a k l C b s t p q =
    vars (i ∷ j ∷ D ∷ a ∷ k ∷ l ∷ C ∷ b ∷ s ∷ t ∷ p ∷ q ∷ [])
    (λ ρ v. simp (v 0, v 1, v 2, v 3, v 4, v 5, v 6, v 7, v 8, v 9, v 10, v 11, quotes, lit ρ) (ring _ _ ρ tt))

-- the same sums with the denominators of the two seconds and of p/q
assembled : (e q r w T D C x y u v : ℤ) → NonNegative r → NonNegative w → q *ℤ T ≡ r +ℤ w
    → (x *ℤ x +ℤ y *ℤ y) ≤ℤ (e *ℤ e *ℤ (pos 1 *ℤ D *ℤ (pos 1 *ℤ C) *ℤ (pos 1 *ℤ D *ℤ (pos 1 *ℤ C))))
    → (u *ℤ u +ℤ v *ℤ v) ≤ℤ (e *ℤ e *ℤ (pos 1 *ℤ D *ℤ (pos 1 *ℤ C) *ℤ (pos 1 *ℤ D *ℤ (pos 1 *ℤ C))))
    → (q *ℤ (r *ℤ x +ℤ w *ℤ u) *ℤ (q *ℤ (r *ℤ x +ℤ w *ℤ u)) +ℤ q *ℤ (r *ℤ y +ℤ w *ℤ v) *ℤ (q *ℤ (r *ℤ y +ℤ w *ℤ v)))
    ≤ℤ (T *ℤ T *ℤ (e *ℤ e *ℤ (q *ℤ D *ℤ (q *ℤ C) *ℤ (q *ℤ D *ℤ (q *ℤ C)))))
assembled e q r w T D C x y u v nr nw s h k =
    let M = e *ℤ e *ℤ (pos 1 *ℤ D *ℤ (pos 1 *ℤ C) *ℤ (pos 1 *ℤ D *ℤ (pos 1 *ℤ C))) in
    let g = mean x y u v M nr nw h k in
    le_by (square q ⊠ gap (rw (← s) at g))
    (vars (e ∷ q ∷ r ∷ w ∷ T ∷ D ∷ C ∷ x ∷ y ∷ u ∷ v ∷ [])
    (λ ρ z. simp (z 0, z 1, z 2, z 3, z 4, z 5, z 6, z 7, z 8, z 9, z 10, quotes, lit ρ) (ring _ _ ρ tt)))

pub convex : (E : ℕ) (a b c d : Fix) (s t : ℕ) → s < t → Near E (leg a b (second s)) (leg c d (second s)) → Near E (leg a b (second t)) (leg c d (second t))
    → (u : Time) → From s u → Until t u → Near E (leg a b u) (leg c d u)
unfolding leg
convex E a b c d s t st h k u f l =
    let D = seconds a b in
    let C = seconds c d in
    let p = pos u.p in
    let q = pos u.q in
    let T = pos t -ℤ pos s in
    let r : NonNegative (q *ℤ pos t -ℤ p) = gap ((pos_le _ _).1 l.until) in
    let w : NonNegative (p -ℤ q *ℤ pos s) = gap ((pos_le _ _).1 f.from) in
    let sum : q *ℤ T ≡ (q *ℤ pos t -ℤ p) +ℤ (p -ℤ q *ℤ pos s) = vars (pos s ∷ pos t ∷ p ∷ q ∷ []) (λ ρ v. simp (v 0, v 1, v 2, v 3, quotes) (ring _ _ ρ tt)) in
    let one : pos 1 ≤ℤ T = simp diffs (omega arith) in
    record {
      near = cancel_squares T (dx (leg a b u) (leg c d u)) (dy (leg a b u) (leg c d u)) _ one
          (rw (between a.x b.x D (pos a.t) c.x d.x C (pos c.t) (pos s) (pos t) p q, between a.y b.y D (pos a.t) c.y d.y C (pos c.t) (pos s) (pos t) p q)
          (assembled (pos E) q _ _ T D C (dx (leg a b (second s)) (leg c d (second s))) (dy (leg a b (second s)) (leg c d (second s)))
          (dx (leg a b (second t)) (leg c d (second t))) (dy (leg a b (second t)) (leg c d (second t))) r w sum h.near k.near));
    }
