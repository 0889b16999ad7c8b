-- What the functions ask of their callers and of the code's widths, one list of facts for each function, proved once.
use Rattle.std.specs.Prelude.{◌≡◌, [], ◌∷◌, ℕ, ◌+◌, ◌*◌, ◌-◌, ◌≤◌, ℤ, pos, nat_abs, neg_ℤ, ◌-ℤ◌, ◌*ℤ◌, ◌≤ℤ◌, Bool, true, false, ◌&&◌, ltb}
use Rattle.std.proofs.Math.Path.{refl}
use Rattle.std.proofs.Common.{arith, Fits, SFits, to_z, to_z-of_z, sym, ◌∙◌}
use Rattle.std.specs.Int.{w32, w64}
use Rattle.distance.specs.Fix.{Fix, widest}
use Rattle.distance.specs.Distance.{seconds}
use Rattle.distance.specs.Place.{instant, leg, interpolated}
use Rattle.distance.specs.Rounding.{rounded}
use Rattle.distance.specs.Span.{Roundable}
use Rattle.distance.specs.Integers.Differences.{diffs}
use Rattle.distance.specs.Integers.Order.{gap, nat, le_by, ◌⊞◌, ◌⊠◌, pos_le}
use Rattle.distance.specs.Integers.Ring.{ring, quotes, lit, vars}
use Rattle.distance.specs.Integers.Bounds.{abs_bound, Bound, ◌⊕◌, ◌⊝◌, ◌⊛◌, of_width, fits}
use Rattle.moment.specs.Moment.{Standing, beside}
use Rattle.moment.specs.Laws.Ranges.{OnLeg, unless_silent}
use Rattle.distance.specs.Silence.{silent, strictly_between}
use Rattle.record.specs.Answers.{gives, turns_away}

-- a moment strictly inside a silent leg that begins at s thousandths and ends at e is refused, and at any other the leg gives the place
module _ (a b : Fix) (u : ℕ) {s e : ℕ} {q : Bool} (p : q ≡ silent a) (r : s ≡ 1000 * a.t + 0) (t : e ≡ 1000 * b.t + 0) where
  heard_test : q && (ltb s u && ltb u e) ≡ silent a && strictly_between a b (instant u)
  heard_test = let m : 1000 * a.t + 0 ≡ 1000 * a.t = omega arith in let n : 1000 * b.t + 0 ≡ 1000 * b.t = omega arith in rw (p, r, t, m, n) refl

  pub leg_silent : q && (ltb s u && ltb u e) ≡ true → turns_away 21 ≡ unless_silent (silent a && strictly_between a b (instant u)) (leg a b (instant u))
  leg_silent h = rw (sym heard_test ∙ h) refl

  pub leg_heard : q && (ltb s u && ltb u e) ≡ false → gives (beside (leg a b (instant u))) ≡ unless_silent (silent a && strictly_between a b (instant u)) (leg a b (instant u))
  leg_heard h = rw (sym heard_test ∙ h) refl

-- ---- one axis of a place: i·d + (j − i)·s, of places within the widest limit and times of 32 bits
pub record NumeratorFits (i j : ℤ) (d s : ℕ) : Type 0 where
  pub i32 : SFits w32 i
  pub j32 : SFits w32 j
  pub i64 : SFits w64 i
  pub j64 : SFits w64 j
  pub d64 : to_z w64 d ≡ pos d
  pub s64 : to_z w64 s ≡ pos s
  pub i_d : SFits w64 (i *ℤ pos d)
  pub j_i : SFits w64 (j -ℤ i)
  pub j_i_s : SFits w64 ((j -ℤ i) *ℤ pos s)
  pub all : SFits w64 (interpolated i j (pos d) (pos s))

abbrev of_32 : (n : ℕ) → Fits w32 n → Bound (pos n)
of_32 n f = record { top = 4294967295; holds = omega (arith, f.fits) }

pub numerator_fits : {i j : ℤ} {d s : ℕ} → nat_abs i ≤ widest → nat_abs j ≤ widest → Fits w32 d → Fits w32 s → NumeratorFits i j d s
numerator_fits {i} {j} {d} {s} hi hj fd fs =
    let bi : Bound i = record { top = widest; holds = hi } in
    let bj : Bound j = record { top = widest; holds = hj } in
    let bd = of_32 d fd in
    let bs = of_32 s fs in
    record {
      i32 = fits w32 bi tt;
      j32 = fits w32 bj tt;
      i64 = fits w64 bi tt;
      j64 = fits w64 bj tt;
      d64 = to_z-of_z {w = w64} {z = pos d} (fits w64 bd tt);
      s64 = to_z-of_z {w = w64} {z = pos s} (fits w64 bs tt);
      i_d = fits w64 (bi ⊛ bd) tt;
      j_i = fits w64 (bj ⊝ bi) tt;
      j_i_s = fits w64 ((bj ⊝ bi) ⊛ bs) tt;
      all = fits w64 (bi ⊛ bd ⊕ (bj ⊝ bi) ⊛ bs) tt;
    }

-- ---- a place on a leg is within the limit: it is i·(d − s) + j·s over d
high_axis : (l i j : ℤ) (d s : ℕ) → i ≤ℤ l → j ≤ℤ l → s ≤ d → interpolated i j (pos d) (pos s) ≤ℤ (l *ℤ pos d)
high_axis l i j d s h k m = le_by (gap h ⊠ gap ((pos_le s d).1 m) ⊞ gap k ⊠ nat s) (vars (l ∷ i ∷ j ∷ pos d ∷ pos s ∷ []) (λ ρ v. simp (v 0, v 1, v 2, v 3, v 4, quotes, lit ρ) (ring _ _ ρ tt)))

low_axis : (l i j : ℤ) (d s : ℕ) → l ≤ℤ i → l ≤ℤ j → s ≤ d → (l *ℤ pos d) ≤ℤ interpolated i j (pos d) (pos s)
low_axis l i j d s h k m = le_by (gap h ⊠ gap ((pos_le s d).1 m) ⊞ gap k ⊠ nat s) (vars (l ∷ i ∷ j ∷ pos d ∷ pos s ∷ []) (λ ρ v. simp (v 0, v 1, v 2, v 3, v 4, quotes, lit ρ) (ring _ _ ρ tt)))

-- so its numerator is at most the limit times d
pub axis_within : (limit : ℕ) (i j : ℤ) (d s : ℕ) → neg_ℤ (pos limit) ≤ℤ i → i ≤ℤ pos limit → neg_ℤ (pos limit) ≤ℤ j → j ≤ℤ pos limit → s ≤ d → nat_abs (interpolated i j (pos d) (pos s)) ≤ limit * d
axis_within limit i j d s a b c e m =
    let low : neg_ℤ (pos limit) *ℤ pos d ≡ neg_ℤ (pos (limit * d)) = simp diffs (omega arith) in
    abs_bound _ (limit * d) (high_axis (pos limit) i j d s b e m) (rw low at (low_axis (neg_ℤ (pos limit)) i j d s a c m))

-- ---- the parts of a place on a leg: its seconds in thousandths, and those gone
-- the ends of a leg are within the widest limit
pub x_within : {a b : Fix} {u : ℕ} → OnLeg a b u → (nat_abs a.x ≤ widest) × (nat_abs b.x ≤ widest)
x_within {a} {b} h = let p = h.leg.bounded_a in let q = h.leg.bounded_b in (abs_bound a.x widest p.x_high p.x_low, abs_bound b.x widest q.x_high q.x_low)

pub y_within : {a b : Fix} {u : ℕ} → OnLeg a b u → (nat_abs a.y ≤ widest) × (nat_abs b.y ≤ widest)
y_within {a} {b} h = let p = h.leg.bounded_a in let q = h.leg.bounded_b in (abs_bound a.y widest p.y_high p.y_low, abs_bound b.y widest q.y_high q.y_low)

module _ {a b : Fix} {u : ℕ} (h : OnLeg a b u) (over gone : ℕ) (over_is : over ≡ 1000 * b.t + 0 - (1000 * a.t + 0)) (gone_is : gone ≡ u - (1000 * a.t + 0)) where
  gone_within : gone ≤ over
  gone_within = omega (arith, h.until, h.from)

  over_some : 1 ≤ over
  over_some = omega (arith, h.leg.rises)

  axis_roundable : (i j : ℤ) → neg_ℤ (pos widest) ≤ℤ i → i ≤ℤ pos widest → neg_ℤ (pos widest) ≤ℤ j → j ≤ℤ pos widest → Roundable (interpolated i j (pos over) (pos gone)) over
  axis_roundable i j a b c e = record { some = over_some; below = omega (arith, axis_within widest i j over gone a b c e gone_within) }

  pub roundable_x : (x : ℤ) → x ≡ interpolated a.x b.x (pos over) (pos gone) → Roundable x over
  roundable_x x e = rw e (axis_roundable a.x b.x h.leg.bounded_a.x_low h.leg.bounded_a.x_high h.leg.bounded_b.x_low h.leg.bounded_b.x_high)

  pub roundable_y : (y : ℤ) → y ≡ interpolated a.y b.y (pos over) (pos gone) → Roundable y over
  roundable_y y e = rw e (axis_roundable a.y b.y h.leg.bounded_a.y_low h.leg.bounded_a.y_high h.leg.bounded_b.y_low h.leg.bounded_b.y_high)

  over_same : pos over ≡ pos 1000 *ℤ seconds a b
  over_same = let r = h.leg.rises in rw over_is (simp diffs (omega arith))

  gone_same : pos gone ≡ pos u -ℤ pos 1000 *ℤ pos a.t
  gone_same = let r = h.from in rw gone_is (simp diffs (omega arith))

  pub leg_standing : (x y rx ry : ℤ) → x ≡ interpolated a.x b.x (pos over) (pos gone) → y ≡ interpolated a.y b.y (pos over) (pos gone) → rx ≡ rounded x (pos over) → ry ≡ rounded y (pos over)
      → ◌≡◌ {A = Standing} (record { exact = record { x = x; y = y; d = pos over }; rounded_x = rx; rounded_y = ry }) (beside (leg a b (instant u)))
  unfolding leg
  leg_standing x y rx ry p q s t = rw (s, t, p, q, over_same, gone_same) refl

-- ---- a fix's own place
pub record AloneFits (z : ℤ) : Type 0 where
  pub z32 : SFits w32 z
  pub z64 : SFits w64 z

pub alone_fits : {z : ℤ} → SFits w32 z → AloneFits z
alone_fits f = record { z32 = f; z64 = fits w64 (of_width w32 f) tt }
