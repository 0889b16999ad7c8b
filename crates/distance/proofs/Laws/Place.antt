-- What a trail's place is: a proper fraction, the fix's own at each fix, the interpolated one on each leg, and one for every writing of a time.
use Rattle.std.specs.Prelude.{◌≡◌, ◌↔◌, Bool, cond, ℕ, ◌*◌, ◌<◌, ◌≤◌, ℤ, pos, ◌-ℤ◌, ◌*ℤ◌}
use Rattle.std.proofs.Math.Path.{refl}
use Rattle.std.proofs.Common.{◌∙◌, ap, le_of_lt, le-leb}
use mathlib.Core.List.{List, [], ◌∷◌, ◌++◌}
use Rattle.std.proofs.Math.Nat.{mul-le-mul_left, mul-lt-mul_of_pos_left}
use native.Mathlib.Omega.{arith}
use Rattle.std.proofs.lemmas.Bool.{lt-leb}
use Rattle.std.specs.Int.Signed.{le_z_yes}
use Rattle.distance.specs.Fix.{Fix, After, none_after, later, Rising, no_fix, rising, last_of}
use Rattle.distance.specs.Distance.{seconds}
use Rattle.distance.specs.Place.{Place, Proper, Time, From, Until, AskedOf, own, leg, place_from, place, interpolated, Same}
use Rattle.distance.proofs.Laws.Near.{same_self}
use Rattle.distance.specs.Integers.Differences.{diffs}
use Rattle.distance.specs.Integers.Ring.{ring, quotes, lit, vars}
use Rattle.distance.specs.Integers.Order.{one_mul_one, eq_by, pos_le}
use Rattle.distance.specs.Integers.Tests.{Test, holds, fails, test}

-- ---- what the definitions give, taken apart: p/q is not before, or not after, the second s
pub from_gives : {s : ℕ} {u : Time} → From s u → u.q * s ≤ u.p
from_gives h = h.from

pub until_gives : {s : ℕ} {u : Time} → Until s u → u.p ≤ u.q * s
until_gives h = h.until

-- .. in numbers alone, and both ways, since they are asked as well as promised. "A fractional time is p/q seconds, p and q
-- whole, q at least 1.": every such p and q is one, so that what is said at every time is said at each of them
pub every_time : (p q : ℕ) → 1 ≤ q → (u : Time) × (u.p ≡ p) × (u.q ≡ q)
every_time p q h = (record { p = p; q = q; whole = h }, refl, refl)

module _ {u : Time} where
  -- p/q is not before, and not after, the second s
  pub from_exactly : {s : ℕ} → From s u ↔ (u.q * s ≤ u.p)
  from_exactly = (λ h. h.from, λ h. record { from = h })

  pub until_exactly : {s : ℕ} → Until s u ↔ (u.p ≤ u.q * s)
  until_exactly = (λ h. h.until, λ h. record { until = h })

  -- it is neither before the first fix nor after the last
  pub asked_exactly : (a : Fix) (l : List Fix) → AskedOf (a ∷ l) u ↔ ((u.q * a.t ≤ u.p) × (u.p ≤ u.q * (last_of a l).t))
  asked_exactly a l = (λ h. (h.0.from, h.1.until), λ h. (record { from = h.0 }, record { until = h.1 }))

-- ---- times that rise
module _ (b : Fix) (r : List Fix) where
  pub after_last : {t : ℕ} (l : List Fix) → After t (l ++ b ∷ r) → t < b.t
  after_last [] (later h k) = h
  after_last (n ∷ l) (later h k) = omega (arith, after_last l k)

  pub after_rest : {t : ℕ} (l : List Fix) → After t (l ++ b ∷ r) → After b.t r
  after_rest [] (later h k) = k
  after_rest (n ∷ l) (later h k) = after_rest l k

-- ---- 1. the denominator is at least 1
pub leg_proper : (a b : Fix) (u : Time) → a.t < b.t → Proper (leg a b u)
unfolding leg
leg_proper a b u h = record { proper = one_mul_one {y = seconds a b} ((pos_le 1 _).1 u.whole) (simp diffs (omega arith)) }

pub own_proper : (a : Fix) → Proper (own a)
unfolding own
own_proper a = record { proper = le_z_yes tt }

from_proper : (u : Time) (a : Fix) {l : List Fix} → After a.t l → Proper (place_from a l u)
unfolding place_from
from_proper u a none_after = own_proper a
from_proper u a (later {a = b} {l} g k) = go (test u.p (u.q * b.t)) (from_proper u b k)
  where
    go : {t : Bool} → Test u.p (u.q * b.t) t → Proper (place_from b l u) → Proper (cond t (leg a b u) (place_from b l u))
    go (holds e) rest = leg_proper a b u g
    go (fails e) rest = rest

pub place_proper : (u : Time) {l : List Fix} → Rising l → Proper (place l u)
unfolding place
place_proper u no_fix = record { proper = le_z_yes tt }
place_proper u (rising {a} k) = from_proper u a k

-- ---- 2. a lone fix has its own, and a leg has its fixes' at its ends
pub place_alone : (a : Fix) (u : Time) → place (a ∷ []) u ≡ own a
unfolding place place_from
place_alone a u = refl

-- the time p/q is the whole second s
abbrev pub AtSecond : ℕ → Time → Type 0
AtSecond s u = u.p ≡ u.q * s

first_axis : (i j D q a : ℤ) → interpolated i j (q *ℤ D) (q *ℤ a -ℤ q *ℤ a) *ℤ pos 1 ≡ i *ℤ (q *ℤ D)
first_axis i j D q a = vars (i ∷ j ∷ D ∷ q ∷ a ∷ []) (λ ρ v. simp (v 0, v 1, v 2, v 3, v 4, quotes, lit ρ) (ring _ _ ρ tt))

last_axis : (i j q a b : ℤ) → interpolated i j (q *ℤ (b -ℤ a)) (q *ℤ b -ℤ q *ℤ a) *ℤ pos 1 ≡ j *ℤ (q *ℤ (b -ℤ a))
last_axis i j q a b = vars (i ∷ j ∷ q ∷ a ∷ b ∷ []) (λ ρ v. simp (v 0, v 1, v 2, v 3, v 4, quotes, lit ρ) (ring _ _ ρ tt))

pub leg_first : (a b : Fix) (u : Time) → AtSecond a.t u → Same (leg a b u) (own a)
unfolding leg own
leg_first a b u h = rw h (record {
  same_x = first_axis a.x b.x (seconds a b) (pos u.q) (pos a.t);
  same_y = first_axis a.y b.y (seconds a b) (pos u.q) (pos a.t);
})

pub leg_last : (a b : Fix) (u : Time) → AtSecond b.t u → Same (leg a b u) (own b)
unfolding leg own
leg_last a b u h = rw h (record {
  same_x = last_axis a.x b.x (pos u.q) (pos a.t) (pos b.t);
  same_y = last_axis a.y b.y (pos u.q) (pos a.t) (pos b.t);
})

-- ---- 3. past a fix b, what stands before b is passed over
module _ (b : Fix) (r : List Fix) where
  pub place_past : (u : Time) (a : Fix) (l : List Fix) → After a.t (l ++ b ∷ r) → u.q * b.t < u.p → place_from a (l ++ b ∷ r) u ≡ place_from b r u
  unfolding place_from
  place_past u a [] (later g k) h = rw (lt-leb _ _ h) refl
  place_past u a (n ∷ l) (later g k) h =
      let e : u.q * n.t < u.p = omega (arith, mul-le-mul_left u.q (le_of_lt (after_last b r l k))) in
      rw (lt-leb _ _ e) (place_past u n l k h)

  -- at a fix the place is the fix's own
  from_fix : (u : Time) (a : Fix) (l : List Fix) → After a.t (l ++ b ∷ r) → AtSecond b.t u → Same (place_from a (l ++ b ∷ r) u) (own b)
  unfolding place_from
  from_fix u a [] (later g k) h = let e : u.p ≤ u.q * b.t = omega arith in rw (le-leb _ _ e) (leg_last a b u h)
  from_fix u a (n ∷ l) (later g k) h =
      let f : u.q * n.t < u.q * b.t = mul-lt-mul_of_pos_left (after_last b r l k) u.whole in
      let e : u.q * n.t < u.p = omega arith in
      rw (lt-leb _ _ e) (from_fix u n l k h)

pub place_fix : (u : Time) (l : List Fix) (a : Fix) (r : List Fix) → Rising (l ++ a ∷ r) → AtSecond a.t u → Same (place (l ++ a ∷ r) u) (own a)
unfolding place place_from
place_fix u [] a [] k h = same_self (own a)
place_fix u [] a (b ∷ r) (rising (later g k)) h =
    let e : u.p ≤ u.q * b.t = omega (arith, mul-le-mul_left u.q (le_of_lt g)) in
    rw (le-leb _ _ e) (leg_first a b u h)
place_fix u (n ∷ l) a r (rising k) h = from_fix a r u n l k h

-- ---- 4. on every leg it is the interpolated one
same_own_axis : (n d m c z : ℤ) → n *ℤ pos 1 ≡ z *ℤ d → m *ℤ pos 1 ≡ z *ℤ c → n *ℤ c ≡ m *ℤ d
same_own_axis n d m c z h g =
    let one : (u : ℤ) → u ≡ u *ℤ pos 1 = λ u. vars (u ∷ []) (λ ρ x. simp (x 0, quotes, lit ρ) (ring _ _ ρ tt)) in
    rw (one n ∙ h, one m ∙ g) (vars (z ∷ c ∷ d ∷ []) (λ ρ x. simp (x 0, x 1, x 2, quotes) (ring _ _ ρ tt)))

same_own : {P Q : Place} (a : Fix) → Same P (own a) → Same Q (own a) → Same P Q
unfolding own
same_own {P} {Q} a h g = record {
  same_x = same_own_axis P.x P.d Q.x Q.d a.x h.same_x g.same_x;
  same_y = same_own_axis P.y P.d Q.y Q.d a.y h.same_y g.same_y;
}

pub place_leg : (u : Time) (l : List Fix) (a b : Fix) (r : List Fix) → Rising (l ++ a ∷ b ∷ r) → From a.t u → Until b.t u
    → Same (place (l ++ a ∷ b ∷ r) u) (leg a b u)
unfolding place place_from
place_leg u [] a b r k s t = rw (le-leb _ _ t.until) (same_self (leg a b u))
place_leg u (n ∷ l) a b r (rising k) s t = go (test u.p (u.q * a.t))
  where
    go : {c : Bool} → Test u.p (u.q * a.t) c → Same (place_from n (l ++ a ∷ b ∷ r) u) (leg a b u)
    go (holds g) = let e : u.p ≡ u.q * a.t = omega (arith, s.from) in same_own a (from_fix a (b ∷ r) u n l k e) (leg_first a b u e)
    go (fails g) = rw (place_past a (b ∷ r) u n l k g, le-leb _ _ t.until) (same_self (leg a b u))

-- ---- 5. it is one for every writing p/q of a time
module _ (u v : Time) (same : u.p * v.q ≡ v.p * u.q) where
  axis_time : (t : ℕ) (i j D : ℤ) → interpolated i j (pos u.q *ℤ D) (pos u.p -ℤ pos u.q *ℤ pos t) *ℤ (pos v.q *ℤ D)
      ≡ interpolated i j (pos v.q *ℤ D) (pos v.p -ℤ pos v.q *ℤ pos t) *ℤ (pos u.q *ℤ D)
  axis_time t i j D =
      let e : pos u.p *ℤ pos v.q ≡ pos v.p *ℤ pos u.q = ap pos same in
      eq_by ((j -ℤ i) *ℤ D) e
      (vars (i ∷ j ∷ D ∷ pos t ∷ pos u.p ∷ pos u.q ∷ pos v.p ∷ pos v.q ∷ []) (λ ρ x. simp (x 0, x 1, x 2, x 3, x 4, x 5, x 6, x 7, quotes) (ring _ _ ρ tt)))

  leg_time : (a b : Fix) → Same (leg a b u) (leg a b v)
  unfolding leg
  leg_time a b = record { same_x = axis_time a.t a.x b.x (seconds a b); same_y = axis_time a.t a.y b.y (seconds a b) }

  from_time : (a : Fix) (l : List Fix) → Same (place_from a l u) (place_from a l v)
  unfolding place_from
  from_time a [] = same_self (own a)
  from_time a (b ∷ l) = go (test u.p (u.q * b.t)) (test v.p (v.q * b.t)) (from_time b l)
    where
      go : {c d : Bool} → Test u.p (u.q * b.t) c → Test v.p (v.q * b.t) d → Same (place_from b l u) (place_from b l v)
          → Same (cond c (leg a b u) (place_from b l u)) (cond d (leg a b v) (place_from b l v))
      go (holds g) (holds h) rest = leg_time a b
      go (holds g) (fails h) rest = absurd (omega (arith, mul-le-mul_left v.q g, mul-lt-mul_of_pos_left h u.whole))
      go (fails g) (holds h) rest = absurd (omega (arith, mul-le-mul_left u.q h, mul-lt-mul_of_pos_left g v.whole))
      go (fails g) (fails h) rest = rest

  pub place_time : (l : List Fix) → Same (place l u) (place l v)
  unfolding place
  place_time [] = same_self _
  place_time (a ∷ l) = from_time a l
