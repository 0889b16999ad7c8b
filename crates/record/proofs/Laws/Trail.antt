-- A checked trail from one of its fixes on: places within the limit, times that rise, a short span.
use Rattle.std.specs.Prelude.{◌≡◌, refl, Bool, List, [], ◌∷◌, ℕ, zero, suc, ◌+◌, ◌-◌, ◌<◌, ◌≤◌, length}
use Rattle.std.proofs.Common.{◌∙◌, arith}
use Rattle.distance.specs.Fix.{Fix, Bounded, widest, After, none_after, later, Rising, rising, last_of}
use Rattle.distance.specs.Laws.All.{All, all_more}
use Rattle.distance.proofs.Laws.All.{all_map, last_more}
use Rattle.distance.proofs.Laws.Deviation.{bounded_wider}
use Rattle.format.specs.Kinds.{Kind}
use Rattle.format.specs.Format.{kind_of, record_length, fix_at, each, count_field, fixes}
use Rattle.format.proofs.Laws.Kinds.{kind_of_is, longer}
use Rattle.record.specs.Checks.{IsAccepted, of_ends}
use Rattle.format.proofs.Laws.Each.{each_first, each_more}
use Rattle.record.proofs.Laws.Accepted.{GoodFixes, accepted_good, places_good, times_good, span_good}
use Rattle.record.specs.Laws.Trail.{Leg, Lent, fix_in, from}

pub record CheckedTrail (limit : ℕ) (a : Fix) (l : List Fix) : Type 0 where
  pub after : After a.t l
  pub bounded : All (Bounded limit) (a ∷ l)
  pub short : (last_of a l).t ≤ a.t + 65535

pub last_after : (a : Fix) (l : List Fix) → After a.t l → a.t ≤ (last_of a l).t
unfolding last_of
last_after a [] none_after = omega arith
last_after a (b ∷ l) (later h k) = omega (arith, last_after b l k)

pub next : {limit : ℕ} (a b : Fix) (l : List Fix) → CheckedTrail limit a (b ∷ l) → CheckedTrail limit b l
unfolding last_of
next {limit} a b l c = go c.after c.bounded
  where
    go : After a.t (b ∷ l) → All (Bounded limit) (a ∷ b ∷ l) → CheckedTrail limit b l
    go (later h k) (all_more p q) = record { after = k; bounded = q; short = omega (arith, c.short) }

pub leg_of : {limit : ℕ} (a b : Fix) (l : List Fix) → CheckedTrail limit a (b ∷ l) → Leg limit a b
unfolding last_of
leg_of {limit} a b l c = go c.after c.bounded
  where
    go : After a.t (b ∷ l) → All (Bounded limit) (a ∷ b ∷ l) → Leg limit a b
    go (later h k) (all_more p (all_more q r)) = record { rises = h; short = omega (arith, c.short, last_after b l k); bounded_a = p; bounded_b = q }

pub first_bounded : {limit : ℕ} (a : Fix) (l : List Fix) → CheckedTrail limit a l → Bounded limit a
first_bounded {limit} a l c = go c.bounded
  where
    go : All (Bounded limit) (a ∷ l) → Bounded limit a
    go (all_more p q) = p

-- ---- the fixes of an accepted record
rises_after : (a : Fix) (l : List Fix) → Rising (a ∷ l) → After a.t l
rises_after a l (rising k) = k

checked_fixes : (limit : ℕ) (a : Fix) (l : List Fix) → GoodFixes limit (a ∷ l) → CheckedTrail limit a l
checked_fixes limit a l g = record { after = rises_after a l (times_good (a ∷ l) g.ordered); bounded = places_good limit (a ∷ l) g.inside; short = span_good a l g.short }

pub from_next : (f : ℕ → Fix) (k n : ℕ) → k < n → from f k n ≡ f k ∷ from f (k + 1) n
from_next f k n h =
    let e : n - k - 1 ≡ n - (k + 1) = omega arith in
    let g : suc k ≡ k + 1 = omega arith in
    each_first f k (n - k) (omega arith) ∙ rw (e, g) refl

pub from_end : (f : ℕ → Fix) (n : ℕ) → from f n n ≡ []
unfolding each
from_end f n = let e : n - n ≡ 0 = omega arith in rw e refl

pub fixes_from : (b : List ℕ) → 1 ≤ count_field b → fixes b ≡ fix_in b 0 ∷ from (fix_in b) 1 (count_field b)
fixes_from b h = each_first (fix_in b) 0 (count_field b) h

pub accepted_checked : (b : List ℕ) → IsAccepted b → CheckedTrail (kind_of b).limit (fix_in b 0) (from (fix_in b) 1 (count_field b))
accepted_checked b h = let g = accepted_good b h in checked_fixes _ _ _ (rw (fixes_from b g.head.some_fix) at g.trail_good)

-- ---- a wider limit: of a record of any kind no place is further from 0 than the widest
pub checked_widest : {limit : ℕ} {a : Fix} {l : List Fix} → limit ≤ widest → CheckedTrail limit a l → CheckedTrail widest a l
checked_widest h c = record { after = c.after; bounded = all_map (λ f p. bounded_wider p h) c.bounded; short = c.short }

pub accepted_widest : (b : List ℕ) → IsAccepted b → CheckedTrail widest (fix_in b 0) (from (fix_in b) 1 (count_field b))
accepted_widest b h = checked_widest (kind_of_is b).within_widest (accepted_checked b h)

-- ---- the first and the last fix
last_each : (f : ℕ → Fix) (n : ℕ) → last_of (f 0) (each f 1 n) ≡ f n
unfolding last_of each
last_each f zero = refl
last_each f (suc n) = let e : 1 + n ≡ suc n = omega arith in rw (each_more f 1 n, e) (last_more (f 0) (each f 1 n) (f (suc n)))

pub last_is : (f : ℕ → Fix) (n : ℕ) → last_of (f 0) (from f 1 n) ≡ f (n - 1)
last_is f n = last_each f (n - 1)

pub ends_are : (b : List ℕ) (test : Fix → Fix → Bool) → 1 ≤ count_field b → of_ends test (fixes b) ≡ test (fix_in b 0) (fix_in b (count_field b - 1))
unfolding of_ends
ends_are b test h = rw (fixes_from b h, last_is (fix_in b) (count_field b)) refl

abbrev pub first_second : List ℕ → ℕ
first_second b = (fix_in b 0).t

abbrev pub last_second : List ℕ → ℕ
last_second b = (fix_in b (count_field b - 1)).t

pub span_is : (b : List ℕ) → IsAccepted b → last_second b ≤ first_second b + 65535
span_is b h = let c = accepted_checked b h in rw (last_is (fix_in b) (count_field b)) at c.short

pub lent : {K : Kind} {b : List ℕ} {n : ℕ} → IsAccepted b → K ≡ kind_of b → n ≡ count_field b → Lent K b n
lent {b} h k e = let g = (accepted_good b h).head in rw (k, e) (record { some = g.some_fix; few = g.few_fixes; whole = g.whole })

-- .. and each of its fixes has its bytes
pub reaches : {K : Kind} {b : List ℕ} {n : ℕ} (k : ℕ) → Lent K b n → k < n → record_length K (suc k) ≤ length b
reaches {K} {n} k l h = omega (arith, l.whole, longer K (suc k) n h)

-- ---- A WALK along the fixes of an accepted record of n, leg by leg: the leg that ends with fix k is next
pub record Walk (K : Kind) (b : List ℕ) (n k : ℕ) : Type 0 where
  pub some_leg : 1 ≤ k
  pub few : k ≤ n
  pub short : n ≤ 4096
  pub checked : CheckedTrail widest (fix_at K b (k - 1)) (from (fix_at K b) k n)
  pub base : (fix_at K b 0).t ≤ (fix_at K b (k - 1)).t
  pub last : (last_of (fix_at K b (k - 1)) (from (fix_at K b) k n)).t ≤ (fix_at K b 0).t + 65535

pub walk_start : {K : Kind} {b : List ℕ} {n : ℕ} → IsAccepted b → K ≡ kind_of b → n ≡ count_field b → Walk K b n 1
walk_start {K} {b} {n} a k e =
    let l = lent a k e in
    let c : CheckedTrail widest (fix_at K b 0) (from (fix_at K b) 1 n) = rw (k, e) (accepted_widest b a) in
    record { some_leg = omega arith; few = l.some; short = l.few; checked = c; base = omega arith; last = c.short }

module _ {K : Kind} {b : List ℕ} {n k : ℕ} (x : Walk K b n k) where
  abbrev fix : ℕ → Fix
  fix = fix_at K b

  -- the fix before, with which the next leg begins
  pub walk_bounded : Bounded widest (fix_at K b (k - 1))
  walk_bounded = first_bounded (fix (k - 1)) (from fix k n) x.checked

  module _ (h : k < n) where
    ahead : CheckedTrail widest (fix (k - 1)) (fix k ∷ from fix (k + 1) n)
    ahead = rw (from_next fix k n h) at x.checked

    last_ahead : (last_of (fix k) (from fix (k + 1) n)).t ≤ (fix 0).t + 65535
    unfolding last_of
    last_ahead = rw (from_next fix k n h) at x.last

    pub walk_leg : Leg widest (fix_at K b (k - 1)) (fix_at K b k)
    walk_leg = leg_of _ _ _ ahead

    pub walk_within : ((fix_at K b 0).t ≤ (fix_at K b k).t) × ((fix_at K b k).t ≤ (fix_at K b 0).t + 65535)
    walk_within = (omega (arith, walk_leg.rises, x.base), omega (arith, last_ahead, last_after (fix k) (from fix (k + 1) n) (next _ _ _ ahead).after))

    pub walk_next : Walk K b n (k + 1)
    walk_next =
        let i : k + 1 - 1 ≡ k = omega arith in
        record { some_leg = omega arith; few = omega arith; short = x.short; checked = rw i (next _ _ _ ahead); base = rw i walk_within.0; last = rw i last_ahead }
