-- THE COMPUTED ANSWER MEANS what the question means: told, with the first leg that comes near and the earliest time of closest approach on it, or denied.
use Rattle.std.specs.Prelude.{◌≡◌, ◌↔◌, Bool, ℕ, suc, ◌+◌, ◌*◌, ◌-◌, ◌≤◌, ◌<◌, length, pos, ◌+ℤ◌, ◌*ℤ◌, ◌≤ℤ◌}
use Rattle.std.proofs.Math.Path.{refl, ap}
use Rattle.std.proofs.Common.{sym, subst, mul-le-mul_left, le_of_lt, le_refl}
use mathlib.Core.List.{List, [], ◌∷◌, ◌++◌}
use Rattle.std.proofs.Math.Option.{Option, some, none, IsSome}
use native.Mathlib.Omega.{arith}
use Rattle.std.specs.Int.Signed.{≤ℤ_refl}
use Rattle.distance.specs.Fix.{Fix, After, later, Rising, rising, last_of}
use Rattle.distance.specs.Place.{Time, From, Until, after_first, Point, point_place, own, leg, place_from, place, Near, NoFurther, Same, dx, dy}
use Rattle.distance.specs.Silence.{silent, silence_from, in_silence}
use Rattle.distance.proofs.Laws.Near.{near_same, same_swap, no_further_same, no_further_near}
use Rattle.distance.proofs.Laws.Place.{leg_proper, place_proper, place_leg}
use Rattle.record.proofs.Laws.Trail.{last_after}
use Rattle.distance.specs.Integers.Ring.{ring, quotes, lit, vars}
use Rattle.distance.specs.Integers.Tests.{Test, holds, fails, test}
use Rattle.record.specs.Answers.{or_else}
use Rattle.approach.specs.declared.Part.{Part}
use Rattle.approach.specs.declared.Approach.{Approach}
use Rattle.approach.specs.Approach.{Comes, IsLeg, lone, here, further, OnLeg, ToldNear, MeansNear, toward, along, start_part, closest_part, near_part, leg_near, approach_of, told_on, near_from, first_near}
use Rattle.approach.proofs.Laws.Parts.{far, Counts, IsClosest, leg_closest, rest_start, NearPart, is_near, is_far, near_part_says}
use Rattle.approach.proofs.Laws.Leg.{gone, whole, told_time, near_if_part, part_if_near, leg_no_further, leg_earliest, leg_counts, told_counts}

-- ---- legs of a trail
pub record Parted (l : List Fix) (a b : Fix) : Type 0 where
  pub front : List Fix
  pub rest : List Fix
  pub parted : l ≡ front ++ a ∷ b ∷ rest

leg_parted : {x y : Fix} {l : List Fix} {i : ℕ} {a b : Fix} → IsLeg (x ∷ y ∷ l) i a b → Parted (x ∷ y ∷ l) a b
leg_parted (here {l}) = record { front = []; rest = l; parted = refl }
leg_parted (further {a = x} h) = let k = leg_parted h in record { front = x ∷ k.front; rest = k.rest; parted = ap (λ (z : List Fix). x ∷ z) k.parted }

leg_rises : {x y : Fix} {l : List Fix} {i : ℕ} {a b : Fix} → IsLeg (x ∷ y ∷ l) i a b → After x.t (y ∷ l) → a.t < b.t
leg_rises here (later g k) = g
leg_rises (further h) (later g k) = leg_rises h k

leg_base : {x y : Fix} {l : List Fix} {i : ℕ} {a b : Fix} → IsLeg (x ∷ y ∷ l) i a b → After x.t (y ∷ l) → x.t ≤ a.t
leg_base here (later g k) = le_refl _
leg_base (further h) (later g k) = omega (arith, leg_base h k)

-- every time of a trail is on a leg
record SomeLeg (l : List Fix) (u : Time) : Type 0 where
  i : ℕ
  a : Fix
  b : Fix
  is_leg : IsLeg l i a b
  from : From a.t u
  until : Until b.t u

some_leg : (u : Time) (a b : Fix) (l : List Fix) → From a.t u → Until (last_of b l).t u → SomeLeg (a ∷ b ∷ l) u
unfolding last_of
some_leg u a b [] h f = record { i = 0; a = a; b = b; is_leg = here; from = h; until = f }
some_leg u a b (c ∷ l) h f = go (test u.p (u.q * b.t)) (λ g. some_leg u b c l (record { from = le_of_lt g }) f)
  where
    go : {t : Bool} → Test u.p (u.q * b.t) t → (u.q * b.t < u.p → SomeLeg (b ∷ c ∷ l) u) → SomeLeg (a ∷ b ∷ c ∷ l) u
    go (holds g) rest = record { i = 0; a = a; b = b; is_leg = here; from = h; until = record { until = g } }
    go (fails g) rest = let k = rest g in record { i = suc k.i; a = k.a; b = k.b; is_leg = further k.is_leg; from = k.from; until = k.until }

-- ---- one leg's test
abbrev IsNear : Fix → Fix → Point → (r : ℕ) → Type 0
IsNear a b c r = let s = closest_part a b c in far (toward a c) (along a b) (pos s.num) (pos s.den) ≤ℤ pos (r * r * (s.den * s.den))

leg_says : (a b : Fix) (c : Point) (r : ℕ) → NearPart (closest_part a b c) (toward a c) (along a b) r (leg_near a b c r)
unfolding leg_near
leg_says a b c r = near_part_says (closest_part a b c) (toward a c) (along a b) r

-- ---- the legs one after the other, by their tests alone
data Outcome (first : ℕ) (l : List Fix) (c : Point) (r i : ℕ) : Option Approach → Type 0 where
  none_near : ((j : ℕ) (a b : Fix) → IsLeg l j a b → IsNear a b c r → ⊥) → Outcome first l c r i none
  first_is : (k j : ℕ) (a b : Fix) → k ≡ i + j → IsLeg l j a b → IsNear a b c r → ((m : ℕ) (d e : Fix) → IsLeg l m d e → m < j → IsNear d e c r → ⊥)
      → Outcome first l c r i (some (approach_of first k a b (closest_part a b c)))

module _ (first : ℕ) (c : Point) (r : ℕ) where
  outcome : (i : ℕ) (a b : Fix) (l : List Fix) → Outcome first (a ∷ b ∷ l) c r i (near_from first i a (b ∷ l) c r)
  unfolding near_from
  outcome i a b [] = go (leg_says a b c r)
    where
      only : (IsNear a b c r → ⊥) → (j : ℕ) (d e : Fix) → IsLeg (a ∷ b ∷ []) j d e → IsNear d e c r → ⊥
      only f j d e here n = f n

      go : {o : Option Part} → NearPart (closest_part a b c) (toward a c) (along a b) r o → Outcome first (a ∷ b ∷ []) c r i (or_else (told_on first i a b o) none)
      go (is_near h) = first_is i 0 a b (omega arith) here h (λ m d e k g. absurd (omega arith))
      go (is_far f) = none_near (only f)
  outcome i a b (x ∷ l) = go (leg_says a b c r) (outcome (suc i) b x l)
    where
      none_of : (IsNear a b c r → ⊥) → ((j : ℕ) (d e : Fix) → IsLeg (b ∷ x ∷ l) j d e → IsNear d e c r → ⊥) → (j : ℕ) (d e : Fix) → IsLeg (a ∷ b ∷ x ∷ l) j d e → IsNear d e c r → ⊥
      none_of f g j d e here n = f n
      none_of f g j d e (further {i = m} h) n = g m d e h n

      none_before : (k : ℕ) → (IsNear a b c r → ⊥) → ((j : ℕ) (d e : Fix) → IsLeg (b ∷ x ∷ l) j d e → j < k → IsNear d e c r → ⊥)
          → (j : ℕ) (d e : Fix) → IsLeg (a ∷ b ∷ x ∷ l) j d e → j < suc k → IsNear d e c r → ⊥
      none_before k f g j d e here s n = f n
      none_before k f g j d e (further {i = m} h) s n = g m d e h (omega arith) n

      go : {o : Option Part} → NearPart (closest_part a b c) (toward a c) (along a b) r o → {q : Option Approach} → Outcome first (b ∷ x ∷ l) c r (suc i) q → Outcome first (a ∷ b ∷ x ∷ l) c r i (or_else (told_on first i a b o) q)
      go (is_near h) q = first_is i 0 a b (omega arith) here h (λ m d e k g. absurd (omega arith))
      go (is_far f) (none_near g) = none_near (none_of f g)
      go (is_far f) (first_is k j d e s h n g) = first_is k (suc j) d e (omega arith) (further h) n (none_before j f g)

-- ---- what it means of a trail of two fixes or more
module _ (c : Point) (r : ℕ) {x y : Fix} {l : List Fix} (up : Rising (x ∷ y ∷ l)) where
  abbrev m : List Fix
  m = x ∷ y ∷ l

  rest_rises : After x.t (y ∷ l)
  rest_rises = go up
    where
      go : Rising (x ∷ y ∷ l) → After x.t (y ∷ l)
      go (rising k) = k

  module _ {i : ℕ} {a b : Fix} (h : IsLeg m i a b) where
    abbrev s : Part
    s = closest_part a b c

    closest_is : IsClosest (toward a c) (along a b) (silent a) s
    closest_is = leg_closest a b c

    rise : a.t < b.t
    rise = leg_rises h rest_rises

    abbrev T : Time
    T = told_time a b s closest_is.some

    -- on the leg the place is the interpolated one
    on_it : (u : Time) → From a.t u → Until b.t u → Same (place m u) (leg a b u)
    on_it u f t = let k = leg_parted h in subst (λ (z : List Fix). Same (place z u) (leg a b u)) (sym k.parted) (place_leg u k.front a b k.rest (subst Rising k.parted up) f t)

    counts : (u : Time) → OnLeg m a b u → Counts (silent a) (gone a u) (whole a b u)
    counts u o = let k = leg_parted h in leg_counts k.front a b k.rest rise u (subst (λ (z : List Fix). OnLeg z a b u) k.parted o)

    told_on_leg : OnLeg m a b T
    told_on_leg = let k = leg_parted h in subst (λ (z : List Fix). OnLeg z a b T) (sym k.parted) (told_counts k.front a b k.rest rise s closest_is.some closest_is.on_leg (subst Rising k.parted up) closest_is.counts)

    no_closer : (u : Time) → OnLeg m a b u → NoFurther (point_place c) (leg a b T) (leg a b u)
    no_closer u o = leg_no_further a b c rise s closest_is.some closest_is u (counts u o)

    -- a leg whose closest part isn't near is never near
    never_near : (IsNear a b c r → ⊥) → (u : Time) → OnLeg m a b u → Near r (place m u) (point_place c) → ⊥
    never_near f u o n =
        let n' = near_same r n (on_it u o.from o.until) (place_proper u up) in
        f (part_if_near a b c rise s closest_is.some r (no_further_near (no_closer u o) n' (leg_proper a b u rise)))

    -- and one whose closest part is near is told with the time of that part
    told_then : (n : IsNear a b c r) → ((j : ℕ) (d e : Fix) → IsLeg m j d e → j < i → (u : Time) → OnLeg m d e u → Near r (place m u) (point_place c) → ⊥)
        → ToldNear m c r i (approach_of x.t i a b s).num s.den
    told_then n first =
        let o = told_on_leg in
        let at = same_swap (on_it T o.from o.until) in
        let proper-here = leg_proper a b T rise in
        record {
          start = a;
          end = b;
          leg = h;
          some_denominator = closest_is.some;
          on_leg = rw clock o;
          near = rw clock (near_same r (near_if_part a b c rise s closest_is.some r n) at proper-here);
          first = first;
          closest = (λ u v. rw clock (no_further_same (no_closer u v) at (same_swap (on_it u v.from v.until)) proper-here (leg_proper a b u rise)));
          earliest = (λ u v g. rw clock (leg_earliest a b c rise s closest_is.some closest_is u (counts u v)
              (no_further_same (rw clock at g) (on_it u v.from v.until) (same_swap at) (place_proper u up) (place_proper T up))));
        }
      where
        clock : s.den * x.t + (s.den * (a.t - x.t) + s.num * (b.t - a.t)) ≡ s.den * a.t + s.num * (b.t - a.t)
        clock = let e : a.t ≡ x.t + (a.t - x.t) = omega (arith, leg_base h rest_rises) in omega (arith, ap (λ (t : ℕ). s.den * t) e)

  trail_means : {o : Option Approach} → Outcome x.t m c r 0 o → MeansNear m c r o
  unfolding last_of
  trail_means (none_near f) = λ u h. let k = some_leg u x y l h.asked.0 h.asked.1 in
      never_near k.is_leg (f _ _ _ k.is_leg) u (record { from = k.from; until = k.until; heard = h.heard }) h.near
  trail_means (first_is k j a b e h n f) = let g : k ≡ j = omega arith in rw g (told_then h n (λ i d w q z. never_near q (f i d w q z)))

-- ---- a lone fix
module _ (a : Fix) (c : Point) (r : ℕ) where
  own_apart : dx (own a) (point_place c) *ℤ dx (own a) (point_place c) +ℤ dy (own a) (point_place c) *ℤ dy (own a) (point_place c) ≡ far (toward a c) (along a a) (pos 0) (pos 1)
  unfolding own
  own_apart = vars (a.x ∷ a.y ∷ c.x ∷ c.y ∷ []) (λ ρ v. simp (v 0, v 1, v 2, v 3, quotes, lit ρ) (ring _ _ ρ tt))

  over_one : (z : ℕ) → pos z *ℤ pos z *ℤ (pos 1 *ℤ pos 1 *ℤ (pos 1 *ℤ pos 1)) ≡ pos (z * z * (1 * 1))
  over_one z = vars (pos z ∷ []) (λ ρ v. simp (v 0, quotes, lit ρ) (ring _ _ ρ tt))

  own_near : far (toward a c) (along a a) (pos 0) (pos 1) ≤ℤ pos (r * r * (1 * 1)) → Near r (own a) (point_place c)
  unfolding own
  own_near h = record { near = rw (own_apart, over_one r) h }

  near_own : Near r (own a) (point_place c) → far (toward a c) (along a a) (pos 0) (pos 1) ≤ℤ pos (r * r * (1 * 1))
  unfolding own
  near_own h = rw (own_apart, over_one r) at h.near

  -- it is a leg at rest
  pub lone_is : first_near (a ∷ []) c r ≡ told_on a.t 0 a a (near_part start_part (toward a c) (along a a) r)
  unfolding first_near leg_near
  lone_is = ap (λ (s : Part). told_on a.t 0 a a (near_part s (toward a c) (along a a) r)) (rest_start a c)

  lone_means : {o : Option Part} → NearPart start_part (toward a c) (along a a) r o → MeansNear (a ∷ []) c r (told_on a.t 0 a a o)
  unfolding place place_from in_silence silence_from
  lone_means (is_far f) = λ u h. f (near_own h.near)
  lone_means (is_near h) = record {
    start = a;
    end = a;
    leg = lone;
    some_denominator = omega arith;
    on_leg = record { from = record { from = omega arith }; until = record { until = omega arith }; heard = record { outside_silences = refl } };
    near = own_near h;
    first = (λ j d e k s. absurd (omega arith));
    closest = (λ u v. record { no_further = ≤ℤ_refl _ });
    earliest = (λ u v g. not_before a.t u.q u.p v.from.from);
  }
    where
      not_before : (t q p : ℕ) → q * t ≤ p → (1 * t + (1 * (t - t) + 0 * (t - t))) * q ≤ p * 1
      not_before t q p h = let e : 1 * t + (1 * (t - t) + 0 * (t - t)) ≡ t = omega arith in rw e (omega arith)

-- THE COMPUTED ANSWER MEANS IT, of every trail whose times rise
pub near_means : (a : Fix) (l : List Fix) (c : Point) (r : ℕ) → Rising (a ∷ l) → MeansNear (a ∷ l) c r (first_near (a ∷ l) c r)
unfolding first_near
near_means a [] c r up = subst (MeansNear (a ∷ []) c r) (sym (lone_is a c r)) (lone_means a c r (near_part_says start_part (toward a c) (along a a) r))
near_means a (b ∷ l) c r up = trail_means c r up (outcome a.t c r 0 a b l)

-- ---- YES EXACTLY IF AT SOME FRACTIONAL TIME OF THE TRAIL the place is within the radius
leg_last : {x : Fix} {l : List Fix} {i : ℕ} {a b : Fix} → IsLeg (x ∷ l) i a b → After x.t l → (x.t ≤ a.t) × (b.t ≤ (last_of x l).t)
unfolding last_of
leg_last lone k = (le_refl _, le_refl _)
leg_last (here {b = b} {l}) (later g k) = (le_refl _, last_after b l k)
leg_last (further h) (later g k) = let e = leg_last h k in (omega (arith, e.0), e.1)

leg_has_fix : {l : List Fix} {i : ℕ} {a b : Fix} → IsLeg l i a b → 1 ≤ length l
leg_has_fix lone = omega arith
leg_has_fix here = omega arith
leg_has_fix (further h) = omega arith

pub trail_comes : (l : List Fix) (c : Point) (r i n d : ℕ) → Rising l → (t : ToldNear l c r i n d) → Comes l c r (after_first l n d t.some_denominator)
trail_comes [] c r i n d up t = absurd (omega (arith, leg_has_fix t.leg))
trail_comes (a ∷ l) c r i n d (rising k) t =
    let e = leg_last t.leg k in
    record {
      asked = (record { from = omega arith }, record { until = omega (arith, t.on_leg.until.until, mul-le-mul_left d e.1) });
      heard = t.on_leg.heard;
      near = t.near;
    }

pub yes_exactly : (a : Fix) (l : List Fix) (c : Point) (r : ℕ) → Rising (a ∷ l) → IsSome (first_near (a ∷ l) c r) ↔ (u : Time) × Comes (a ∷ l) c r u
yes_exactly a l c r up = go (first_near (a ∷ l) c r) (near_means a l c r up)
  where
    go : (o : Option Approach) → MeansNear (a ∷ l) c r o → IsSome o ↔ (u : Time) × Comes (a ∷ l) c r u
    go (some A) t = ((λ h. (_, trail_comes (a ∷ l) c r A.leg A.num A.den up t)), (λ h. tt))
    go none f = ((λ h. absurd h), (λ h. f h.0 h.1))

-- ---- THE MEANING FIXES THE ANSWER: two that mean the same name the same leg, and times of the same value
leg_one : {l : List Fix} {i : ℕ} {a b d e : Fix} → IsLeg l i a b → IsLeg l i d e → (a ≡ d) × (b ≡ e)
leg_one lone lone = (refl, refl)
leg_one here here = (refl, refl)
leg_one (further h) (further g) = leg_one h g

module _ {l : List Fix} {c : Point} {r i j n m d e : ℕ} (s : ToldNear l c r i n d) (t : ToldNear l c r j m e) where
  pub told_leg : i ≡ j
  told_leg = go (test i j) (test j i)
    where
      go : {u v : Bool} → Test i j u → Test j i v → i ≡ j
      go (holds f) (holds g) = omega arith
      go (fails f) g = absurd (s.first j t.start t.end t.leg f _ t.on_leg t.near)
      go (holds f) (fails g) = absurd (t.first i s.start s.end s.leg g _ s.on_leg s.near)

pub told_value : {l : List Fix} {c : Point} {r i n m d e : ℕ} → ToldNear l c r i n d → ToldNear l c r i m e → n * e ≡ m * d
told_value {l} {c} {r} {i} {n} {m} {d} {e} s t =
    let o = leg_one t.leg s.leg in
    let there : OnLeg l s.start s.end (after_first l m e t.some_denominator) = rw (o.0, o.1) at t.on_leg in
    let here : OnLeg l t.start t.end (after_first l n d s.some_denominator) = rw (← o.0, ← o.1) at s.on_leg in
    let p = s.earliest _ there (t.closest _ here) in
    let q = t.earliest _ here (s.closest _ there) in
    omega arith
