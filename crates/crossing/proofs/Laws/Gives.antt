-- WHAT AN ANSWER MEANS, TAKEN APART in names of the layers below: a part less of what is promised, or a part more of what is asked, isn't given here.
use Rattle.std.specs.Prelude.{◌≡◌, refl, ◌↔◌, ◌⊎◌, List, [], ◌∷◌, ℕ, ◌+◌, ◌*◌, ◌≤◌}
use Rattle.std.proofs.Common.{inl, inr}
use Rattle.std.proofs.Math.Option.{Option, some, none}
use Rattle.distance.specs.Fix.{Fix}
use Rattle.distance.specs.Place.{Time, From, Until, first_time, after_first, place}
use Rattle.distance.specs.Silence.{OutsideSilences}
use Rattle.distance.specs.Box.{Box, In}
use Rattle.format.specs.Kinds.{Kind}
use Rattle.format.specs.Format.{kind_of, fixes}
use Rattle.record.specs.Checks.{few_bytes, other_kind, bad_count, bad_length, short_record, bad_mark, misplaced, unordered, long_span, bad_silence, bad_window, bad_box, sentence, asked_of, FirstHolds}
use Rattle.record.specs.Answers.{gives, turns_away}
use Rattle.legs.specs.declared.Fraction.{Fraction}
use Rattle.crossing.specs.Crossing.{Crosses, Told, Denied, asked_crossing, CrossMeans, SameCrossing}

module _ (l : List Fix) (box : Box) (s e : ℕ) where
  -- a time that crosses, both ways: of the window and outside silences, and the place then is in the box
  pub crosses_exactly : (u : Time) → Crosses l box s e u ↔ (From s u × Until e u × OutsideSilences l u × In box (place l u))
  crosses_exactly u = (λ h. (h.opened, h.closed, h.heard, h.inside), λ h. record { opened = h.0; closed = h.1; heard = h.2; inside = h.3 })

  -- yes: the told time crosses, over a denominator from 1 to twice the limit, and no earlier time does
  pub told_gives : {limit n d : ℕ} → Told limit l box s e n d
      → (h : 1 ≤ d) × (d ≤ 2 * limit) × From s (after_first l n d h) × Until e (after_first l n d h) × OutsideSilences l (after_first l n d h) × In box (place l (after_first l n d h))
      × ((u : Time) → From s u → Until e u → OutsideSilences l u → In box (place l u) → (d * first_time l + n) * u.q ≤ u.p * d)
  told_gives t = (
    t.some_denominator,
    t.small_denominator,
    t.crosses.opened,
    t.crosses.closed,
    t.crosses.heard,
    t.crosses.inside,
    λ u f g h i. t.earliest u (record { opened = f; closed = g; heard = h; inside = i }),
  )

  -- no: at no time of the window outside silences is the place in the box
  pub denied_gives : Denied l box s e → (u : Time) → From s u → Until e u → OutsideSilences l u → In box (place l u) → ⊥
  denied_gives never u f g h i = never u (record { opened = f; closed = g; heard = h; inside = i })

-- ---- THE ANSWER, case by case: what a yes, a no and a refusal of lent bytes mean
module _ (b : List ℕ) (s e : ℕ) (box : Box) where
  pub means_told : (f : Fraction) → CrossMeans b s e box (gives (some f)) → Told (kind_of b).limit (fixes b) box s e f.num f.den
  means_told f t = t

  pub means_denied : CrossMeans b s e box (gives none) → Denied (fixes b) box s e
  means_denied d = d

  pub means_refused : (k : ℕ) → CrossMeans b s e box (turns_away k)
      → FirstHolds (sentence (kind_of b) (asked_of b (asked_crossing s e box))) k
      (few_bytes ∷ other_kind ∷ bad_count ∷ bad_length ∷ short_record ∷ bad_mark ∷ misplaced ∷ unordered ∷ long_span ∷ bad_silence ∷ bad_window ∷ bad_box ∷ [])
  means_refused k h = h

-- ---- WHAT THE TYPES SAY, without their names: two crossings that say the same are both no, or both yes, and then n/d and m/e are the same number
pub same_crossing_gives : (K : Kind) (o r : Option Fraction) → SameCrossing K o r → ((o ≡ none) × (r ≡ none))
    ⊎ ((f : Fraction) × (g : Fraction) × (o ≡ some f) × (r ≡ some g) × (f.num * g.den ≡ g.num * f.den) × (1 ≤ f.den) × (f.den ≤ 2 * K.limit))
same_crossing_gives K none none h = inl (refl, refl)
same_crossing_gives K (some f) (some g) h = inr (f, g, refl, refl, h.same_value, h.at_least, h.at_most)
same_crossing_gives K none (some g) h = absurd h
same_crossing_gives K (some f) none h = absurd h
