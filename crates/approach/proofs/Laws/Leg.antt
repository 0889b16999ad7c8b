-- ONE LEG AT FRACTIONAL TIMES: at the time of its closest part it is no further from the point than at any other time that counts, and no earlier time is as close.
use Rattle.std.specs.Prelude.{◌≡◌, Bool, true, false, ◌&&◌, List, [], ◌∷◌, ◌++◌, ℕ, ◌+◌, ◌*◌, ◌-◌, ◌≤◌, ◌<◌, ltb, ℤ, ◌+ℤ◌, ◌-ℤ◌, ◌*ℤ◌, ◌≤ℤ◌}
use Rattle.std.proofs.Math.Path.{refl}
use Rattle.std.proofs.Common.{◌∙◌, ap, inl, inr, ⊎_elim, mul-le-mul_right, arith, le-ltb, eqb-true}
use Rattle.std.proofs.Math.Bool.{and-false}
use Rattle.std.proofs.Math.IntN.{pos}
use Rattle.distance.specs.Fix.{Fix, Rising}
use Rattle.distance.specs.Distance.{seconds}
use Rattle.distance.specs.Place.{Time, From, Until, Point, point_place, leg, interpolated, difference, dx, dy, Near, NoFurther}
use Rattle.distance.specs.Silence.{silent, strictly_between}
use Rattle.distance.proofs.Laws.Deviation.{seconds_in_order}
use Rattle.distance.proofs.Laws.Silence.{outside_gives, silence_on_leg}
use Rattle.distance.specs.Integers.Differences.{diffs}
use Rattle.distance.specs.Integers.Ring.{ring, quotes, lit, vars}
use Rattle.distance.specs.Integers.Order.{◌⊠◌, square, gap, le_by, le_cancel, one_mul_one, pos_le}
use Rattle.approach.specs.declared.Vector.{Vector}
use Rattle.approach.specs.declared.Part.{Part}
use Rattle.approach.specs.Approach.{OnLeg, toward, along}
use Rattle.approach.proofs.Laws.Parts.{far, Counts, IsClosest}

-- ---- how much of the leg from a to b is gone at p/q: gone/whole
abbrev pub gone : Fix → Time → ℤ
gone a u = pos u.p -ℤ pos u.q *ℤ pos a.t

abbrev pub whole : Fix → Fix → Time → ℤ
whole a b u = pos u.q *ℤ seconds a b

-- the time of a part of the leg
abbrev pub told_time : Fix → Fix → (s : Part) → 1 ≤ s.den → Time
told_time a b s h = record { p = s.den * a.t + s.num * (b.t - a.t); q = s.den; whole = h }

axis_square : (i j c W g : ℤ) → difference (interpolated i j W g) W c (pos 1) *ℤ difference (interpolated i j W g) W c (pos 1) ≡ (W *ℤ (c -ℤ i) -ℤ g *ℤ (j -ℤ i)) *ℤ (W *ℤ (c -ℤ i) -ℤ g *ℤ (j -ℤ i))
axis_square i j c W g = vars (i ∷ j ∷ c ∷ W ∷ g ∷ []) (λ ρ v. simp (v 0, v 1, v 2, v 3, v 4, quotes, lit ρ) (ring _ _ ρ tt))

module _ (a b : Fix) (c : Point) where
  abbrev P : Vector
  P = toward a c

  abbrev M : Vector
  M = along a b

  -- the square of the distance
  leg_apart : (u : Time) → dx (leg a b u) (point_place c) *ℤ dx (leg a b u) (point_place c) +ℤ dy (leg a b u) (point_place c) *ℤ dy (leg a b u) (point_place c) ≡ far P M (gone a u) (whole a b u)
  unfolding leg
  leg_apart u = rw (axis_square a.x b.x c.x (whole a b u) (gone a u), axis_square a.y b.y c.y (whole a b u) (gone a u)) refl

  module _ (rises : a.t < b.t) (s : Part) (some : 1 ≤ s.den) where
    abbrev D : ℕ
    D = b.t - a.t

    abbrev K : ℤ
    K = pos s.den

    abbrev F : ℤ
    F = far P M (pos s.num) K

    abbrev T : Time
    T = told_time a b s some

    in_seconds : seconds a b ≡ pos D
    in_seconds = seconds_in_order a b (omega arith)

    one_second : pos 1 ≤ℤ pos D
    one_second = (pos_le 1 D).1 (omega arith)

    told_gone : gone a T ≡ pos s.num *ℤ pos D
    told_gone = vars (pos s.den ∷ pos s.num ∷ pos a.t ∷ pos D ∷ []) (λ ρ v. simp (v 0, v 1, v 2, v 3, quotes) (ring _ _ ρ tt))

    told_whole : whole a b T ≡ K *ℤ pos D
    told_whole = ap (λ (z : ℤ). K *ℤ z) in_seconds

    far_scaled : (p m : Vector) (n k d : ℤ) → far p m (n *ℤ d) (k *ℤ d) ≡ d *ℤ d *ℤ far p m n k
    far_scaled p m n k d = vars (p.x ∷ p.y ∷ m.x ∷ m.y ∷ n ∷ k ∷ d ∷ []) (λ ρ v. simp (v 0, v 1, v 2, v 3, v 4, v 5, v 6, quotes) (ring _ _ ρ tt))

    told_apart : dx (leg a b T) (point_place c) *ℤ dx (leg a b T) (point_place c) +ℤ dy (leg a b T) (point_place c) *ℤ dy (leg a b T) (point_place c) ≡ pos D *ℤ pos D *ℤ F
    told_apart = leg_apart T ∙ rw (told_gone, told_whole) (far_scaled P M (pos s.num) K (pos D))

    told_denominator : (leg a b T).d ≡ K *ℤ pos D
    unfolding leg
    told_denominator = told_whole

    -- within the radius there exactly if the part is
    pub near_if_part : (r : ℕ) → F ≤ℤ pos (r * r * (s.den * s.den)) → Near r (leg a b T) (point_place c)
    near_if_part r h = record { near = rw (told_apart, told_denominator) (times (pos D) F (pos r) K h) }
      where
        times : (d f e k : ℤ) → f ≤ℤ (e *ℤ e *ℤ (k *ℤ k)) → (d *ℤ d *ℤ f) ≤ℤ (e *ℤ e *ℤ (k *ℤ d *ℤ pos 1 *ℤ (k *ℤ d *ℤ pos 1)))
        times d f e k h = le_by (square d ⊠ gap h) (vars (d ∷ f ∷ e ∷ k ∷ []) (λ ρ v. simp (v 0, v 1, v 2, v 3, quotes, lit ρ) (ring _ _ ρ tt)))

    pub part_if_near : (r : ℕ) → Near r (leg a b T) (point_place c) → F ≤ℤ pos (r * r * (s.den * s.den))
    part_if_near r h = cancelled (pos D) F (pos r) K one_second (rw (told_apart, told_denominator) at h.near)
      where
        cancelled : (d f e k : ℤ) → pos 1 ≤ℤ d → (d *ℤ d *ℤ f) ≤ℤ (e *ℤ e *ℤ (k *ℤ d *ℤ pos 1 *ℤ (k *ℤ d *ℤ pos 1))) → f ≤ℤ (e *ℤ e *ℤ (k *ℤ k))
        cancelled d f e k one h = le_cancel (d *ℤ d) f _ (one_mul_one one one) (le_by (gap h) (vars (d ∷ f ∷ e ∷ k ∷ []) (λ ρ v. simp (v 0, v 1, v 2, v 3, quotes, lit ρ) (ring _ _ ρ tt))))

    module _ {t : Bool} (closest : IsClosest P M t s) (u : Time) (counts : Counts t (gone a u) (whole a b u)) where
      -- no time that counts is closer
      pub leg_no_further : NoFurther (point_place c) (leg a b T) (leg a b u)
      unfolding leg
      leg_no_further = record { no_further = rw (told_apart, leg_apart u, told_whole) (times (pos D) F (far P M (gone a u) (whole a b u)) K (whole a b u) (closest.closest (gone a u) (whole a b u) counts)) }
        where
          times : (d f g k w : ℤ) → (f *ℤ (w *ℤ w)) ≤ℤ (g *ℤ (k *ℤ k)) → (d *ℤ d *ℤ f *ℤ (w *ℤ w)) ≤ℤ (g *ℤ (k *ℤ d *ℤ (k *ℤ d)))
          times d f g k w h = le_by (square d ⊠ gap h) (vars (d ∷ f ∷ g ∷ k ∷ w ∷ []) (λ ρ v. simp (v 0, v 1, v 2, v 3, v 4, quotes) (ring _ _ ρ tt)))

      -- and none that is as close is earlier
      pub leg_earliest : NoFurther (point_place c) (leg a b u) (leg a b T) → T.p * u.q ≤ u.p * s.den
      unfolding leg
      leg_earliest g =
          let h = cancelled (pos D) F (far P M (gone a u) (whole a b u)) K (whole a b u) one_second (rw (told_apart, leg_apart u, told_whole) at g.no_further) in
          let e = closest.earliest (gone a u) (whole a b u) (rw in_seconds (one_mul_one ((pos_le 1 u.q).1 u.whole) one_second)) counts h in
          (pos_le (T.p * u.q) (u.p * s.den)).0 (on_clock (pos s.num) K (pos a.t) (pos D) (pos u.p) (pos u.q) (rw in_seconds at e))
        where
          cancelled : (d f g k w : ℤ) → pos 1 ≤ℤ d → (g *ℤ (k *ℤ d *ℤ (k *ℤ d))) ≤ℤ (d *ℤ d *ℤ f *ℤ (w *ℤ w)) → (g *ℤ (k *ℤ k)) ≤ℤ (f *ℤ (w *ℤ w))
          cancelled d f g k w one h = le_cancel (d *ℤ d) _ _ (one_mul_one one one) (le_by (gap h) (vars (d ∷ f ∷ g ∷ k ∷ w ∷ []) (λ ρ v. simp (v 0, v 1, v 2, v 3, v 4, quotes) (ring _ _ ρ tt))))

          on_clock : (n k t d p q : ℤ) → (n *ℤ (q *ℤ d)) ≤ℤ ((p -ℤ q *ℤ t) *ℤ k) → ((k *ℤ t +ℤ n *ℤ d) *ℤ q) ≤ℤ (p *ℤ k)
          on_clock n k t d p q h = le_by (gap h) (vars (n ∷ k ∷ t ∷ d ∷ p ∷ q ∷ []) (λ ρ v. simp (v 0, v 1, v 2, v 3, v 4, v 5, quotes) (ring _ _ ρ tt)))

-- ---- the times that count are those of the leg outside silences
module _ (f : List Fix) (a b : Fix) (r : List Fix) (rises : a.t < b.t) where
  abbrev l : List Fix
  l = f ++ a ∷ b ∷ r

  started : (u : Time) → From a.t u → pos 0 ≤ℤ gone a u
  started u h = le_by (gap ((pos_le _ _).1 h.from)) (vars (pos u.p ∷ pos u.q ∷ pos a.t ∷ []) (λ ρ v. simp (v 0, v 1, v 2, quotes, lit ρ) (ring _ _ ρ tt)))

  not_over : (u : Time) → Until b.t u → gone a u ≤ℤ whole a b u
  not_over u h = le_by (gap ((pos_le _ _).1 h.until)) (vars (pos u.p ∷ pos u.q ∷ pos a.t ∷ pos b.t ∷ []) (λ ρ v. simp (v 0, v 1, v 2, v 3, quotes) (ring _ _ ρ tt)))

  pub leg_counts : (u : Time) → OnLeg l a b u → Counts (silent a) (gone a u) (whole a b u)
  leg_counts u h = go (silent a) refl
    where
      at_start : u.p ≤ u.q * a.t → gone a u ≡ pos 0
      at_start k = let e : u.p ≡ u.q * a.t = omega (arith, h.from.from) in rw e (vars (pos u.q ∷ pos a.t ∷ []) (λ ρ v. simp (v 0, v 1, quotes, lit ρ) (ring _ _ ρ tt)))

      at_end : u.q * b.t ≤ u.p → gone a u ≡ whole a b u
      at_end k = let e : u.p ≡ u.q * b.t = omega (arith, h.until.until) in rw e (vars (pos u.q ∷ pos a.t ∷ pos b.t ∷ []) (λ ρ v. simp (v 0, v 1, v 2, quotes) (ring _ _ ρ tt)))

      go : (t : Bool) → silent a ≡ t → Counts t (gone a u) (whole a b u)
      go false e = (started u h.from, not_over u h.until)
      go true e = ⊎_elim (λ k. inl (at_start k)) (λ k. inr (at_end k)) (outside_gives u f a b r h.heard (eqb-true a.silence 1 e))

  module _ (s : Part) (some : 1 ≤ s.den) (on : s.num ≤ s.den) where
    told_from : From a.t (told_time a b s some)
    told_from = record { from = omega arith }

    told_until : Until b.t (told_time a b s some)
    told_until =
        let e : b.t ≡ a.t + (b.t - a.t) = omega arith in
        record { until = omega (arith, mul-le-mul_right {m = s.num} {n = s.den} (b.t - a.t) on, ap (λ (t : ℕ). s.den * t) e) }

    -- the time of a part that counts is outside silences
    pub told_counts : Rising l → Counts (silent a) (pos s.num) (pos s.den) → OnLeg l a b (told_time a b s some)
    told_counts up h = record { from = told_from; until = told_until; heard = record { outside_silences = silence_on_leg T f a b r up told_from told_until ∙ go (silent a) h } }
      where
        T : Time
        T = told_time a b s some

        go : (t : Bool) → Counts t (pos s.num) (pos s.den) → t && strictly_between a b (told_time a b s some) ≡ false
        go false h = refl
        go true (inl e) =
            let n : s.num ≡ 0 = omega (arith, simp diffs at e) in
            rw (le-ltb (s.den * a.t) (s.den * a.t + s.num * (b.t - a.t)) (rw n (omega arith))) refl
        go true (inr e) =
            let n : s.num ≡ s.den = omega (arith, simp diffs at e) in
            let d : b.t ≡ a.t + (b.t - a.t) = omega arith in
            rw (le-ltb (s.den * a.t + s.num * (b.t - a.t)) (s.den * b.t) (omega (arith, ap (λ (t : ℕ). s.den * t) d, ap (λ (t : ℕ). t * (b.t - a.t)) n)), and-false (ltb (s.den * a.t) (s.den * a.t + s.num * (b.t - a.t)))) refl
