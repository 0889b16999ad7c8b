-- THE CLAIM holds of every list of agings.
use Rattle.std.specs.Prelude.{◌≡◌, refl, Bool, false, ◌||◌, List, [], ◌∷◌, ℕ, ◌+◌, ◌-◌, ◌≤◌, ltb, length}
use Rattle.std.proofs.Common.{sym, ◌∙◌, ap, mul-le-mul_left, arith}
use Rattle.std.proofs.Math.Option.{Option, some, none}
use Rattle.distance.specs.Fix.{Fix, Rising, last_of}
use Rattle.distance.specs.Place.{Time, From, Until, AskedOf, after_first, Point, place, Near}
use Rattle.distance.specs.Silence.{in_silence, OutsideSilences}
use Rattle.distance.specs.Box.{Box, In, NearBox, NearSide}
use Rattle.distance.proofs.Laws.Box.{told, denied}
use Rattle.distance.proofs.Laws.Near.{near_swap, near_more, near_through}
use Rattle.distance.proofs.Laws.Place.{place_proper}
use Rattle.format.specs.Format.{kind_of, never, mark_field, count_field, fixes, fix_at}
use Rattle.format.proofs.Laws.Each.{length_each}
use Rattle.record.specs.Checks.{FirstHolds, Asked, IsAccepted, bad_window, bad_box, bad_point, sentence, asked_of, refusal, crossing, of_ends, second_outside}
use Rattle.record.specs.Answers.{gives, turns_away, answer}
use Rattle.record.proofs.Laws.First.{first_exactly, NoneHolds, and_not, none_holds}
use Rattle.format.proofs.Laws.RoundTrip.{AreBytes}
use Rattle.record.proofs.Laws.Accepted.{accepted_good, times_good}
use Rattle.aging.specs.Aging.{Call}
use Rattle.legs.specs.declared.Fraction.{Fraction}
use Rattle.crossing.specs.Crossing.{Told, Denied, Means, asked_crossing, cross_answer, first_crossing}
use Rattle.questions.specs.Agings.{new_book, run, kept_at, counts_as}
use Rattle.approach.specs.declared.Approach.{Approach}
use Rattle.approach.specs.Approach.{Comes, ToldNear, DeniedNear, MeansNear, asked_near, near_refusal, near_answer, first_near}
use Rattle.approach.proofs.Laws.Checking.{asks_near, own_check, one_left, accepted_comes, given_means as given_near}
use Rattle.questions.specs.Claim.{CrossingSays, says_refused, says_told, says_denied, NearSays, says_outside, says_near, says_far, book, bound_after, Claim}
use Rattle.questions.proofs.Laws.Asked.{crossing_after, near_after}
use Rattle.questions.proofs.Laws.Kept.{kept_rises, kept_silences, asked_original, near_then, proper_then, heard_then, heard_still}
use Rattle.questions.proofs.Laws.Agings.{agings, kept_near, original_stays}
use Rattle.crossing.proofs.Laws.Crossing.{GoodWindow}
use Rattle.crossing.proofs.Laws.Checking.{window_good, two_left, given_means}

-- ---- the window's sentence, of a list of fixes
abbrev window_bad : List Fix → (s e : ℕ) → Bool
window_bad l s e = ltb e s || (of_ends (second_outside s) l || of_ends (second_outside e) l)

window_says : (c : List ℕ) (s e : ℕ) (box : Box) → sentence (kind_of c) (asked_of c (asked_crossing s e box)) bad_window ≡ false → window_bad (fixes c) s e ≡ false
unfolding sentence
window_says c s e box h = h

window_asked : (a : Fix) (l : List Fix) (s e : ℕ) → window_bad (a ∷ l) s e ≡ false → GoodWindow s e a.t (last_of a l).t
unfolding of_ends
window_asked a l s e h = window_good s e a.t (last_of a l).t h

-- a time of a window that passes is one of the trail
window_times : (a : Fix) (l : List Fix) (s e : ℕ) → window_bad (a ∷ l) s e ≡ false → (u : Time) → From s u → Until e u → AskedOf (a ∷ l) u
window_times a l s e w u f t =
    let q = window_asked a l s e w in
    (record { from = omega (arith, mul-le-mul_left u.q q.from, f.from) }, record { until = omega (arith, mul-le-mul_left u.q q.to, t.until) })

module _ (E : Option ℕ) (l m : List Fix) (rises : Rising l) (is : m ≡ kept_at E l) (some_fix : 1 ≤ length m) (s e : ℕ) (box : Box) (window : window_bad m s e ≡ false) where
  -- the window is of the original's times too
  of_original : (u : Time) → From s u → Until e u → AskedOf l u
  of_original u f t = (asked_original E l m rises is u).0 (go m some_fix window)
    where
      go : (k : List Fix) → 1 ≤ length k → window_bad k s e ≡ false → AskedOf k u
      go [] n w = absurd (omega (arith, n))
      go (a ∷ k) n w = window_times a k s e w u f t

  told_heard : {limit : ℕ} (n d : ℕ) (t : Told limit m box s e n d) → OutsideSilences l (after_first m n d t.some_denominator)
  told_heard n d t = heard_then E l m rises is (after_first m n d t.some_denominator) t.crosses.heard

  told_near : {limit : ℕ} (n d : ℕ) (t : Told limit m box s e n d) → NearBox (counts_as E) box (place l (after_first m n d t.some_denominator))
  told_near n d t =
      let u = after_first m n d t.some_denominator in
      told (counts_as E) box (place l u) (place m u) (near_then E l m rises is u (of_original u t.crosses.opened t.crosses.closed)) (proper_then E l m rises is u) t.crosses.inside

  denied_near : Denied m box s e → (u : Time) → From s u → Until e u → OutsideSilences l u → In box (place l u) → NearSide (counts_as E) box (place l u)
  denied_near never-in u f t h i = denied (near_then E l m rises is u (of_original u f t)) (place_proper u rises) (proper_then E l m rises is u) box i (λ j. never-in u (record { opened = f; closed = t; heard = heard_still E l m rises is u h; inside = j }))

-- ---- the crossing's answer on a trail that was kept at E
module _ (E : Option ℕ) (l : List Fix) (c : List ℕ) (rises : Rising l) (a : IsAccepted c) (is : fixes c ≡ kept_at E l) (s e : ℕ) (box : Box) where
  abbrev q : Asked
  q = asked_of c (asked_crossing s e box)

  abbrev m : List Fix
  m = fixes c

  some_fix_left : 1 ≤ length m
  some_fix_left = let g = (accepted_good c a).head in omega (arith, g.some_fix, length_each (fix_at (kind_of c) c) 0 (count_field c))

  say : window_bad m s e ≡ false → (o : Option Fraction) → Means (kind_of c).limit m box s e o → CrossingSays (counts_as E) l c s e box (gives o)
  say w (some f) t = says_told t (told_heard E l m rises is some_fix_left s e box w f.num f.den t) (told_near E l m rises is some_fix_left s e box w f.num f.den t)
  say w none d = says_denied d (denied_near E l m rises is some_fix_left s e box w d)

  window_false : NoneHolds (sentence (kind_of c) q) (bad_window ∷ bad_box ∷ []) → window_bad m s e ≡ false
  window_false (and_not w r) = window_says c s e box w

  crossing_says : CrossingSays (counts_as E) l c s e box (cross_answer c s e box)
  crossing_says = go (refusal (kind_of c) crossing q) refl
    where
      go : (r : Option ℕ) → refusal (kind_of c) crossing q ≡ r → CrossingSays (counts_as E) l c s e box (answer r (first_crossing m box s e))
      go (some k) h = says_refused ((first_exactly (sentence (kind_of c) q) k (bad_window ∷ bad_box ∷ [])).0 (sym (two_left c s e box a) ∙ h))
      go none h =
          let w = window_false (none_holds (sentence (kind_of c) q) (bad_window ∷ bad_box ∷ []) (sym (two_left c s e box a) ∙ h)) in
          say w (first_crossing m box s e) (given_means c s e box h)

-- ---- and the radius question's
module _ (E : Option ℕ) (l : List Fix) (c : List ℕ) (rises : Rising l) (a : IsAccepted c) (is : fixes c ≡ kept_at E l) (p : Point) (r : ℕ) where
  -- by way of the kept trail: r and E add up
  yes_near : (A : Approach) (t : ToldNear (fixes c) p r A.leg A.num A.den) → Comes l p (r + counts_as E) (after_first (fixes c) A.num A.den t.some_denominator)
  yes_near A t =
      let u = after_first (fixes c) A.num A.den t.some_denominator in
      let k = accepted_comes c p r A a t in
      let asked = (asked_original E l (fixes c) rises is u).0 k.asked in
      let sum : counts_as E + r ≡ r + counts_as E = omega arith in
      record { asked = asked; heard = heard_then E l (fixes c) rises is u k.heard; near = rw sum at (near_through (near_then E l (fixes c) rises is u asked) k.near (proper_then E l (fixes c) rises is u)) }

  no_near : DeniedNear (fixes c) p r → (s : ℕ) → s + counts_as E ≤ r → DeniedNear l p s
  no_near f s h u k =
      let sum : counts_as E + s + (r - (s + counts_as E)) ≡ r = omega arith in
      let n = near_through (near_swap (near_then E l (fixes c) rises is u k.asked)) k.near (place_proper u rises) in
      f u (record { asked = (asked_original E l (fixes c) rises is u).1 k.asked; heard = heard_still E l (fixes c) rises is u k.heard; near = rw sum at (near_more (counts_as E + s) (r - (s + counts_as E)) n) })

  near_say : (o : Option Approach) → MeansNear (fixes c) p r o → NearSays (counts_as E) l c p r (gives o)
  near_say (some A) t = says_near t (yes_near A t)
  near_say none f = says_far f (no_near f)

  near_says : NearSays (counts_as E) l c p r (near_answer c p r)
  near_says = go (near_refusal c p r) refl
    where
      go : (o : Option ℕ) → near_refusal c p r ≡ o → NearSays (counts_as E) l c p r (answer o (first_near (fixes c) p r))
      go (some k) h = says_outside ((first_exactly (asks_near c p r) k own_check).0 (sym (one_left c p r a) ∙ h))
      go none h = near_say (first_near (fixes c) p r) (given_near c p r h)

-- ---- DEMAND 3
pub claim : (b : List ℕ) (calls : List Call) → AreBytes b → IsAccepted b → mark_field b ≡ never → Claim b calls
unfolding new_book
claim b calls bytes a never-thinned =
    let s = agings b calls bytes a never-thinned in
    let o : (book b calls).original ≡ fixes b = original_stays (new_book (kind_of b) (fixes b)) calls in
    let rises = times_good (fixes b) (accepted_good b a).trail_good.ordered in
    record {
      same_kind = s.same_kind;
      never_changed = o;
      still_accepted = s.still_accepted;
      exactly = s.exactly ∙ sym (ap (kept_at (book b calls).E) o);
      marked = s.marked;
      same_size = s.same_size;
      rest = s.rest;
      denominators = λ u. (rw o (place_proper u rises), rw s.exactly (place_proper u (kept_rises (book b calls).E (fixes b) rises)));
      same_silences = λ u. rw (o, s.exactly) (kept_silences (book b calls).E (fixes b) u);
      near = λ u t h. rw (o, s.exactly) (kept_near (book b calls).E (fixes b) u rises (rw o at t));
      asked_then = λ t e box. crossing_after t e box b calls bytes;
      near_asked_then = λ p r. near_after p r b calls bytes;
      crossings = λ t e box. rw o (crossing_says (book b calls).E (fixes b) (run b calls) rises s.still_accepted s.exactly t e box);
      approaches = λ p r. rw o (near_says (book b calls).E (fixes b) (run b calls) rises s.still_accepted s.exactly p r);
    }

-- ---- WHAT THE CLAIM GIVES of distance, at every time from the first fix to the last outside silences, and of the silences themselves
module _ {b : List ℕ} {calls : List Call} (c : Claim b calls) (u : Time) where
  pub distance_gives : AskedOf (book b calls).original u → OutsideSilences (book b calls).original u
      → Near (bound_after b calls) (place (book b calls).original u) (place (fixes (run b calls)) u)
  distance_gives t h = c.near u t h

  pub silences_give : in_silence (fixes (run b calls)) u ≡ in_silence (book b calls).original u
  silences_give = c.same_silences u

-- ---- WHAT THE CLAIM'S ANSWER GIVES, by matching on all that `CrossingSays` can be: another way to say an answer would leave a case open here
module _ {E : ℕ} {original : List Fix} {c : List ℕ} {s e : ℕ} {box : Box} where
  -- told: the time is of the window, no earlier one crosses, and at that time, outside its silences, the original is at most E from a place in the box
  pub told_gives : {f : Fraction} → CrossingSays E original c s e box (gives (some f))
      → (t : Told (kind_of c).limit (fixes c) box s e f.num f.den) × OutsideSilences original (after_first (fixes c) f.num f.den t.some_denominator)
      × NearBox E box (place original (after_first (fixes c) f.num f.den t.some_denominator))
  told_gives (says_told t h n) = (t, h, n)

  -- denied: no time of the window crosses, and whenever in the window, outside its silences, the original is in the box, it is at most E from one of its sides
  pub denied_gives : CrossingSays E original c s e box (gives none)
      → Denied (fixes c) box s e × ((u : Time) → From s u → Until e u → OutsideSilences original u → In box (place original u) → NearSide E box (place original u))
  denied_gives (says_denied d n) = (d, n)

  -- refused: the number is that of the first of checks 13 and 14 whose sentence holds
  pub refused_gives : {k : ℕ} → CrossingSays E original c s e box (turns_away k) → FirstHolds (sentence (kind_of c) (asked_of c (asked_crossing s e box))) k (bad_window ∷ bad_box ∷ [])
  refused_gives (says_refused h) = h

-- ---- AND WHAT THAT OF A RADIUS QUESTION GIVES
module _ {E : ℕ} {original : List Fix} {c : List ℕ} {p : Point} {r : ℕ} where
  -- yes: the first leg and the earliest time of closest approach on it, at which, outside its silences, the original is within r + E
  pub near_told_gives : {A : Approach} → NearSays E original c p r (gives (some A))
      → (t : ToldNear (fixes c) p r A.leg A.num A.den) × Comes original p (r + E) (after_first (fixes c) A.num A.den t.some_denominator)
  near_told_gives (says_near t h) = (t, h)

  -- no: at no time, and the original is at no time outside its silences within r − E
  pub near_denied_gives : NearSays E original c p r (gives none) → DeniedNear (fixes c) p r × ((s : ℕ) → s + E ≤ r → DeniedNear original p s)
  near_denied_gives (says_far f g) = (f, g)

  -- refused: by 16, whose sentence holds
  pub near_refused_gives : {k : ℕ} → NearSays E original c p r (turns_away k) → FirstHolds (sentence (kind_of c) (asked_of c (asked_near p r))) k (bad_point ∷ [])
  near_refused_gives (says_outside h) = h
