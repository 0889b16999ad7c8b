-- The place question's checks, and what it gives when none of them turns the call away.
use Rattle.std.specs.Prelude.{◌≡◌, Bool, true, false, List, [], ◌∷◌, ◌++◌, ℕ, ◌+◌, ◌*◌, ◌-◌, ◌<◌, ◌≤◌, ℤ, pos, negsuc, nat_abs, ◌-ℤ◌, ◌*ℤ◌, ◌≤ℤ◌}
use Rattle.std.proofs.Math.Path.{refl}
use Rattle.std.proofs.Common.{sym, ◌∙◌, arith}
use Rattle.std.proofs.Math.Option.{Option, some, none}
use borrow.Author.Tests.{lt-ltb, le-ltb}
use Rattle.distance.specs.Fix.{Fix}
use Rattle.distance.specs.Place.{moment, Place, Proper, place}
use Rattle.distance.specs.Silence.{in_silence, OutsideSilences}
use Rattle.distance.specs.Rounding.{rounded, Nearest}
use Rattle.distance.proofs.Laws.Place.{place_proper}
use Rattle.distance.proofs.Laws.Rounding.{rounded_nearest}
use Rattle.distance.specs.Integers.Order.{pos_le}
use Rattle.format.specs.Format.{count_field, fixes}
use Rattle.record.specs.Checks.{Check, bad_thousandths, bad_moment, moment_in_silence, first, sentence, head_checks, fix_checks, read_refusal, IsAccepted, refusal_of, placing, moment_outside}
use Rattle.record.specs.Answers.{gives, turns_away, answer}
use Rattle.record.proofs.Laws.First.{stops, passes, first_none, some_first, none_first, none_front, reading_alone, NoneHolds, no_check, and_not, none_holds}
use Rattle.record.proofs.Laws.Head.{asks}
use Rattle.record.proofs.Laws.Accepted.{accepted_good, times_good}
use Rattle.moment.specs.Moment.{asked_moment, at_moment, beside, place_answer, Standing}
use Rattle.moment.proofs.Laws.Moment.{moment_is}
use Rattle.record.specs.Laws.Trail.{fix_in}
use Rattle.record.proofs.Laws.Trail.{ends_are}
use Rattle.moment.specs.Laws.Ranges.{unless_silent}

-- those of the question itself
abbrev pub own_checks : List Check
own_checks = bad_thousandths ∷ bad_moment ∷ moment_in_silence ∷ []

module _ (b : List ℕ) (s m : ℕ) where
  abbrev pub asks_moment : Check → Bool
  asks_moment = asks b (asked_moment s m)

  -- one of the reader's checks turns the bytes away
  pub place_refused : (k : ℕ) → read_refusal b ≡ some k → place_answer b s m ≡ turns_away k
  place_refused k h = rw (some_first asks_moment (head_checks ++ fix_checks) own_checks k (reading_alone b (asked_moment s m) ∙ h)) refl

  -- if no check does, the record is accepted
  pub none_accepted : refusal_of placing b (asked_moment s m) ≡ none → IsAccepted b
  none_accepted h = record { accepted = sym (reading_alone b (asked_moment s m)) ∙ none_front asks_moment (head_checks ++ fix_checks) own_checks h }

  module _ (accepted : IsAccepted b) where
    left : first asks_moment ((head_checks ++ fix_checks) ++ own_checks) ≡ first asks_moment own_checks
    left = none_first asks_moment (head_checks ++ fix_checks) own_checks (reading_alone b (asked_moment s m) ∙ accepted.accepted)

    high : 999 < m → asks_moment bad_thousandths ≡ true
    unfolding sentence
    high h = lt-ltb 999 m h

    not_high : m ≤ 999 → asks_moment bad_thousandths ≡ false
    unfolding sentence
    not_high h = le-ltb 999 m h

    abbrev first_fix : Fix
    first_fix = fix_in b 0

    abbrev final_fix : Fix
    final_fix = fix_in b (count_field b - 1)

    moment_says : asks_moment bad_moment ≡ moment_outside s m first_fix final_fix
    unfolding sentence
    moment_says = ends_are b (moment_outside s m) (accepted_good b accepted).head.some_fix

    pub place_11 : 999 < m → place_answer b s m ≡ turns_away 11
    place_11 h = rw (left, stops asks_moment bad_thousandths (bad_moment ∷ moment_in_silence ∷ []) (high h)) refl

    pub place_early : m ≤ 999 → 1000 * s + m < 1000 * first_fix.t → place_answer b s m ≡ turns_away 12
    place_early h k =
        let e : asks_moment bad_moment ≡ true = moment_says ∙ rw (lt-ltb _ _ k) refl in
        rw (left, passes asks_moment bad_thousandths (bad_moment ∷ moment_in_silence ∷ []) (not_high h), stops asks_moment bad_moment (moment_in_silence ∷ []) e) refl

    pub place_late : m ≤ 999 → 1000 * first_fix.t ≤ 1000 * s + m → 1000 * final_fix.t < 1000 * s + m → place_answer b s m ≡ turns_away 12
    place_late h k l =
        let e : asks_moment bad_moment ≡ true = moment_says ∙ rw (le-ltb _ _ k, lt-ltb _ _ l) refl in
        rw (left, passes asks_moment bad_thousandths (bad_moment ∷ moment_in_silence ∷ []) (not_high h), stops asks_moment bad_moment (moment_in_silence ∷ []) e) refl

    silence_says : asks_moment moment_in_silence ≡ in_silence (fixes b) (moment s m)
    unfolding sentence
    silence_says = refl

    -- the moment is of the trail's times: 21 is left
    pub place_heard : m ≤ 999 → 1000 * first_fix.t ≤ 1000 * s + m → 1000 * s + m ≤ 1000 * final_fix.t
        → place_answer b s m ≡ unless_silent (in_silence (fixes b) (moment s m)) (place (fixes b) (moment s m))
    place_heard h k l =
        let e : asks_moment bad_moment ≡ false = moment_says ∙ rw (le-ltb _ _ k, le-ltb _ _ l) refl in
        rw (left, passes asks_moment bad_thousandths (bad_moment ∷ moment_in_silence ∷ []) (not_high h), passes asks_moment bad_moment (moment_in_silence ∷ []) e, moment_is (fixes b) s m)
        (go (in_silence (fixes b) (moment s m)) silence_says)
      where
        go : (t : Bool) → asks_moment moment_in_silence ≡ t
            → answer (first asks_moment (moment_in_silence ∷ [])) (beside (place (fixes b) (moment s m))) ≡ unless_silent t (place (fixes b) (moment s m))
        go true e = rw (stops asks_moment moment_in_silence [] e) refl
        go false e = rw (passes asks_moment moment_in_silence [] e, first_none asks_moment) refl

-- ---- THE ANSWER ON LENT BYTES MEANS IT: the moment is outside silences, the fraction is the trail's interpolated place then, and the rounded place the nearest
-- whole one
pub record Stands (l : List Fix) (s m : ℕ) (a : Standing) : Type 0 where
  pub outside : OutsideSilences l (moment s m)
  pub is_place : a.exact ≡ place l (moment s m)
  pub proper : Proper a.exact
  pub x_nearest : Nearest a.exact.x a.exact.d a.rounded_x
  pub y_nearest : Nearest a.exact.y a.exact.d a.rounded_y

nearest : (n d : ℤ) → pos 1 ≤ℤ d → Nearest n d (rounded n d)
nearest n (pos d) h = rounded_nearest n d ((pos_le 1 d).0 h)
nearest n (negsuc d) h = absurd h.le

pub place_means : (b : List ℕ) (s m : ℕ) (a : Standing) → place_answer b s m ≡ gives a → Stands (fixes b) s m a
unfolding sentence
place_means b s m a h = go (refusal_of placing b (asked_moment s m)) refl h
  where
    given_is : {x y : Standing} → gives x ≡ gives y → x ≡ y
    given_is {x} {y} q = let z : x ≡ y = cc in z

    last_of_three : NoneHolds (asks_moment b s m) own_checks → in_silence (fixes b) (moment s m) ≡ false
    last_of_three (and_not h (and_not g (and_not k no_check))) = k

    never_given : {k : ℕ} {x : Standing} → turns_away k ≡ gives x → ⊥
    never_given q = let z : ◌≡◌ {A = ℕ} 0 1 = cc in omega arith

    heard : refusal_of placing b (asked_moment s m) ≡ none → OutsideSilences (fixes b) (moment s m)
    heard n =
        let left = none_first (asks_moment b s m) (head_checks ++ fix_checks) own_checks (none_front (asks_moment b s m) (head_checks ++ fix_checks) own_checks n) in
        record { outside_silences = last_of_three (none_holds (asks_moment b s m) own_checks (sym left ∙ n)) }

    stands : (P : Place) → OutsideSilences (fixes b) (moment s m) → Proper P → P ≡ place (fixes b) (moment s m) → Stands (fixes b) s m (beside P)
    stands P o p e = record { outside = o; is_place = e; proper = p; x_nearest = nearest P.x P.d p.proper; y_nearest = nearest P.y P.d p.proper }

    go : (r : Option ℕ) → refusal_of placing b (asked_moment s m) ≡ r → answer r (beside (at_moment (fixes b) s m)) ≡ gives a → Stands (fixes b) s m a
    go (some k) n q = absurd (never_given q)
    go none n q =
        let good = accepted_good b (none_accepted b s m n) in
        let rises = times_good (fixes b) good.trail_good.ordered in
        let e = moment_is (fixes b) s m in
        rw (← given_is q) (stands (at_moment (fixes b) s m) (heard n) (rw e (place_proper (moment s m) rises)) e)

-- .. in numbers: on each axis no whole number z is nearer to n/d than the rounded one, and of two that are as near it is the one further from 0
pub place_gives : (l : List Fix) (s m : ℕ) (a : Standing) → Stands l s m a
    → (in_silence l (moment s m) ≡ false)
    × (a.exact ≡ place l (moment s m))
    × (pos 1 ≤ℤ a.exact.d)
    × ((z : ℤ) → nat_abs (a.rounded_x *ℤ a.exact.d -ℤ a.exact.x) ≤ nat_abs (z *ℤ a.exact.d -ℤ a.exact.x))
    × ((z : ℤ) → nat_abs (z *ℤ a.exact.d -ℤ a.exact.x) ≡ nat_abs (a.rounded_x *ℤ a.exact.d -ℤ a.exact.x) → nat_abs z ≤ nat_abs a.rounded_x)
    × ((z : ℤ) → nat_abs (a.rounded_y *ℤ a.exact.d -ℤ a.exact.y) ≤ nat_abs (z *ℤ a.exact.d -ℤ a.exact.y))
    × ((z : ℤ) → nat_abs (z *ℤ a.exact.d -ℤ a.exact.y) ≡ nat_abs (a.rounded_y *ℤ a.exact.d -ℤ a.exact.y) → nat_abs z ≤ nat_abs a.rounded_y)
place_gives l s m a t =
    (t.outside.outside_silences, t.is_place, t.proper.proper, t.x_nearest.nearest, t.x_nearest.further, t.y_nearest.nearest, t.y_nearest.further)
