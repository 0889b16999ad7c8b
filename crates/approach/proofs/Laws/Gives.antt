-- WHAT AN ANSWER MEANS, TAKEN APART in names of the layers below: a part less of what is promised, or a part more of what is asked, isn't given here.
use Rattle.std.specs.Prelude.{◌≡◌, refl, ◌⊎◌, ◌↔◌, ℕ, suc, ◌+◌, ◌*◌, ◌≤◌, ◌<◌, length}
use Rattle.std.proofs.Common.{ap, inl, inr, arith, length-append}
use mathlib.Core.List.{List, [], ◌∷◌, ◌++◌, cons≢nil, tail-eq_of_cons-eq}
use Rattle.std.proofs.Math.Option.{some, none}
use Rattle.distance.specs.Fix.{Fix}
use Rattle.distance.specs.Place.{Time, From, Until, AskedOf, first_time, after_first, place, Point, point_place, Near, NoFurther}
use Rattle.distance.specs.Silence.{OutsideSilences}
use Rattle.format.specs.Format.{kind_of, fixes}
use Rattle.record.specs.Checks.{few_bytes, other_kind, bad_count, bad_length, short_record, bad_mark, misplaced, unordered, long_span, bad_silence, bad_point, sentence, asked_of, FirstHolds}
use Rattle.record.specs.Answers.{gives, turns_away}
use Rattle.approach.specs.declared.Approach.{Approach}
use Rattle.approach.specs.Approach.{Comes, IsLeg, lone, here, further, OnLeg, ToldNear, DeniedNear, asked_near, NearMeans}

-- ---- a leg, both ways: "counted from 0, or 0 for a one-fix trail"
one_more : (a : Fix) (l : List Fix) {i : ℕ} {d e : Fix} → 2 ≤ length l → IsLeg l i d e → IsLeg (a ∷ l) (suc i) d e
one_more a [] h g = absurd (omega (arith, h))
one_more a (b ∷ []) h g = absurd (omega (arith, h))
one_more a (b ∷ c ∷ l) h g = further g

leg_after : (before : List Fix) (a b : Fix) (after : List Fix) → IsLeg (before ++ a ∷ b ∷ after) (length before) a b
leg_after [] a b after = here
leg_after (c ∷ before) a b after = one_more c (before ++ a ∷ b ∷ after) (omega (arith, length-append before (a ∷ b ∷ after))) (leg_after before a b after)

-- leg i goes from a, which has i fixes before it, to the next one; or it is the only fix's
abbrev Stands : List Fix → ℕ → Fix → Fix → Type 0
Stands l i a b = ((l ≡ a ∷ []) × (i ≡ 0) × (b ≡ a)) ⊎ ((before : List Fix) × (after : List Fix) × (l ≡ before ++ a ∷ b ∷ after) × (length before ≡ i))

stands : {l : List Fix} {i : ℕ} {a b : Fix} → IsLeg l i a b → Stands l i a b
stands lone = inl (refl, refl, refl)
stands (here {l}) = inr ([], l, refl, refl)
stands (further {a} {b} {c} {l} {i} {d} {e} g) = go (stands g)
  where
    go : Stands (b ∷ c ∷ l) i d e → Stands (a ∷ b ∷ c ∷ l) (suc i) d e
    go (inl h) = absurd (cons≢nil (tail-eq_of_cons-eq h.0))
    go (inr h) = inr (a ∷ h.0, h.1, ap (λ (m : List Fix). a ∷ m) h.2, ap suc h.3)

stood : (l : List Fix) (i : ℕ) (a b : Fix) → Stands l i a b → IsLeg l i a b
stood l i a b (inl h) = rw (h.0, h.1, h.2) lone
stood l i a b (inr h) = rw (h.2, ← h.3) (leg_after h.0 a b h.1)

pub leg_exactly : (l : List Fix) (i : ℕ) (a b : Fix) → IsLeg l i a b
    ↔ (((l ≡ a ∷ []) × (i ≡ 0) × (b ≡ a)) ⊎ ((before : List Fix) × (after : List Fix) × (l ≡ before ++ a ∷ b ∷ after) × (length before ≡ i)))
leg_exactly l i a b = (stands, stood l i a b)

-- a time of a leg, and one that comes near, both ways
pub on_leg_exactly : (l : List Fix) (a b : Fix) (u : Time) → OnLeg l a b u ↔ (From a.t u × Until b.t u × OutsideSilences l u)
on_leg_exactly l a b u = (λ h. (h.from, h.until, h.heard), λ h. record { from = h.0; until = h.1; heard = h.2 })

pub comes_exactly : (l : List Fix) (c : Point) (r : ℕ) (u : Time) → Comes l c r u ↔ (AskedOf l u × OutsideSilences l u × Near r (place l u) (point_place c))
comes_exactly l c r u = (λ h. (h.asked, h.heard, h.near), λ h. record { asked = h.0; heard = h.1; near = h.2 })

module _ (l : List Fix) (c : Point) (r : ℕ) where
  -- yes: the leg and a time of it at which it is near; no leg before comes that close; no time of the leg is closer, and none that is as close is earlier
  pub told_near_gives : (i n d : ℕ) → ToldNear l c r i n d
      → (a : Fix) × (b : Fix) × (h : 1 ≤ d) × IsLeg l i a b × OnLeg l a b (after_first l n d h) × Near r (place l (after_first l n d h)) (point_place c)
      × ((j : ℕ) (f g : Fix) → IsLeg l j f g → j < i → (u : Time) → OnLeg l f g u → Near r (place l u) (point_place c) → ⊥)
      × ((u : Time) → OnLeg l a b u → NoFurther (point_place c) (place l (after_first l n d h)) (place l u))
      × ((u : Time) → OnLeg l a b u → NoFurther (point_place c) (place l u) (place l (after_first l n d h)) → (d * first_time l + n) * u.q ≤ u.p * d)
  told_near_gives i n d t = (t.start, t.end, t.some_denominator, t.leg, t.on_leg, t.near, t.first, t.closest, t.earliest)

  -- no: at no time of the trail outside silences
  pub denied_near_gives : DeniedNear l c r → (u : Time) → AskedOf l u → OutsideSilences l u → Near r (place l u) (point_place c) → ⊥
  denied_near_gives never u a h n = never u (record { asked = a; heard = h; near = n })

-- ---- THE ANSWER, case by case: what a yes, a no and a refusal of lent bytes mean
module _ (b : List ℕ) (c : Point) (r : ℕ) where
  pub means_told : (A : Approach) → NearMeans b c r (gives (some A)) → ToldNear (fixes b) c r A.leg A.num A.den
  means_told A t = t

  pub means_denied : NearMeans b c r (gives none) → DeniedNear (fixes b) c r
  means_denied d = d

  pub means_refused : (k : ℕ) → NearMeans b c r (turns_away k)
      → FirstHolds (sentence (kind_of b) (asked_of b (asked_near c r))) k
      (few_bytes ∷ other_kind ∷ bad_count ∷ bad_length ∷ short_record ∷ bad_mark ∷ misplaced ∷ unordered ∷ long_span ∷ bad_silence ∷ bad_point ∷ [])
  means_refused k h = h
