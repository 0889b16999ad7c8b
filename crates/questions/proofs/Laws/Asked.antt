-- A question after a list of agings: thinning keeps the kind and the first and the last fix, so that whether the question is refused is the same before and after.
use Rattle.std.specs.Prelude.{◌≡◌, ℕ, ◌≤◌}
use Rattle.std.proofs.Math.Path.{refl, ap}
use Rattle.std.proofs.Common.{sym, ◌∙◌}
use mathlib.Core.List.{List, [], ◌∷◌}
use Rattle.std.proofs.Math.Option.{Option, some, none}
use Rattle.distance.specs.Fix.{Fix}
use Rattle.distance.specs.Place.{Point}
use Rattle.distance.specs.Box.{Box}
use Rattle.format.specs.Kinds.{Kind}
use Rattle.format.specs.Format.{kind_of, fixes}
use Rattle.format.proofs.Laws.RoundTrip.{AreBytes}
use Rattle.record.specs.Checks.{IsAccepted, sentence, first, asked_of, second_outside, read_refusal}
use Rattle.record.specs.Answers.{Answer, turns_away, answer}
use Rattle.aging.specs.Aging.{Call, applies, record_at, thinned_record}
use Rattle.thinning.proofs.Laws.Kept.{SameEnds}
use Rattle.thinning.proofs.Laws.Trail.{ends_stay}
use Rattle.aging.proofs.Laws.Step.{ends_same, thins, step, applies_low}
use Rattle.crossing.specs.Crossing.{asked_crossing, cross_refusal, cross_answer, first_crossing}
use Rattle.crossing.proofs.Laws.Checking.{asks_crossing, own_checks, two_left}
use Rattle.approach.specs.Approach.{asked_near, near_refusal, near_answer, first_near}
use Rattle.approach.proofs.Laws.Checking.{own_check, one_left}
use Rattle.questions.specs.Agings.{run, answer_then, left_then, after_answer, near_after_answer}
use Rattle.questions.proofs.Laws.Agings.{run_refused}

-- ---- ANY QUESTION that asks the same of two accepted records of one kind whose trails begin and end alike
abbrev pub AsksAlike : (List ℕ → Option ℕ) → Type 0
AsksAlike asks = (b c : List ℕ) → IsAccepted b → IsAccepted c → kind_of c ≡ kind_of b → SameEnds (fixes b) (fixes c) → asks c ≡ asks b

module _ (asks : List ℕ → Option ℕ) (alike : AsksAlike asks) where
  -- one call after the other
  stays_accepted : (b : List ℕ) (calls : List Call) → AreBytes b → IsAccepted b → asks (run b calls) ≡ asks b
  unfolding run
  stays_accepted b [] bytes a = refl
  stays_accepted b (c ∷ calls) bytes a = rw (step b c a) (go (applies (kind_of b) c) (λ t z. applies_low (kind_of b) c t z) (λ d p q. stays_accepted d calls p q))
    where
      go : (t : Option ℕ) → ((n : ℕ) → t ≡ some n → n ≤ (kind_of b).top) → ((d : List ℕ) → AreBytes d → IsAccepted d → asks (run d calls) ≡ asks d) → asks (run (record_at t b) calls) ≡ asks b
      go none low rest = rest b bytes a
      go (some n) low rest =
          let t = thins b n bytes a (low n refl) in
          rest (thinned_record b n) t.bytes_still t.still_accepted ∙ alike b (thinned_record b n) a t.still_accepted t.same_kind (rw t.fixes_are (ends_stay n (fixes b)))

  -- THE QUESTION'S REFUSAL is the same before and after any list, of any bytes
  pub refusal_stays : (b : List ℕ) (calls : List Call) → AreBytes b → asks (run b calls) ≡ asks b
  refusal_stays b calls bytes = go (read_refusal b) refl
    where
      go : (r : Option ℕ) → read_refusal b ≡ r → asks (run b calls) ≡ asks b
      go none h = stays_accepted b calls bytes (record { accepted = h })
      go (some k) h = ap asks (run_refused b k calls h)

  pub not_refused_after : (b c : List ℕ) (calls : List Call) → AreBytes b → asks b ≡ none → c ≡ run b calls → asks c ≡ none
  not_refused_after b c calls bytes h is = rw is (refusal_stays b calls bytes ∙ h)

  module _ {A : Type 0} (tells : List Fix → A) where
    -- so a question asked after a list answers what the question alone answers of what the list leaves
    pub asked_after : (b : List ℕ) (calls : List Call) → AreBytes b → answer_then asks tells b calls ≡ answer (asks (run b calls)) (tells (fixes (run b calls)))
    asked_after b calls bytes = ap (λ (r : Option ℕ). answer r (tells (fixes (run b calls)))) (sym (refusal_stays b calls bytes))

    -- the two ways of the call: refused first, with nothing done; or asked of what the list left, where it is not refused either
    pub refused_after : (b : List ℕ) (calls : List Call) (k : ℕ) → asks b ≡ some k → (turns_away k ≡ answer_then asks tells b calls) × (b ≡ left_then asks b calls)
    refused_after b calls k h = (rw h refl, rw h refl)

    pub made_after : (b c : List ℕ) (calls : List Call) (a : Answer A) → AreBytes b → asks b ≡ none → c ≡ run b calls → a ≡ answer (asks c) (tells (fixes c))
        → (a ≡ answer_then asks tells b calls) × (c ≡ left_then asks b calls)
    made_after b c calls a bytes h is said = (said ∙ rw is (sym (asked_after b calls bytes)), is ∙ rw h refl)

-- ---- the crossing: checks 13 and 14 look at the first and the last fix, and at the kind's limit ..
module _ (s e : ℕ) (box : Box) where
  same_asked : (b c : List ℕ) → kind_of c ≡ kind_of b → SameEnds (fixes b) (fixes c) → first (asks_crossing c s e box) own_checks ≡ first (asks_crossing b s e box) own_checks
  unfolding first sentence
  same_asked b c k h = ap (λ (K : Kind). first (sentence K (asked_of c (asked_crossing s e box))) own_checks) k ∙ rw (ends_same (second_outside s) h, ends_same (second_outside e) h) refl

  pub crossing_alike : AsksAlike (λ d. cross_refusal d s e box)
  crossing_alike b c a d k h = two_left c s e box d ∙ same_asked b c k h ∙ sym (two_left b s e box a)

  pub crossing_after : (b : List ℕ) (calls : List Call) → AreBytes b → after_answer b calls s e box ≡ cross_answer (run b calls) s e box
  crossing_after = asked_after (λ d. cross_refusal d s e box) crossing_alike (λ l. first_crossing l box s e)

-- ---- .. and the radius question: check 16 at the kind's limit alone
module _ (p : Point) (r : ℕ) where
  same_limit : (b c : List ℕ) → kind_of c ≡ kind_of b → first (sentence (kind_of c) (asked_of c (asked_near p r))) own_check ≡ first (sentence (kind_of b) (asked_of b (asked_near p r))) own_check
  unfolding first sentence
  same_limit b c k = ap (λ (K : Kind). first (sentence K (asked_of c (asked_near p r))) own_check) k

  pub near_alike : AsksAlike (λ d. near_refusal d p r)
  near_alike b c a d k h = one_left c p r d ∙ same_limit b c k ∙ sym (one_left b p r a)

  pub near_after : (b : List ℕ) (calls : List Call) → AreBytes b → near_after_answer b calls p r ≡ near_answer (run b calls) p r
  near_after = asked_after (λ d. near_refusal d p r) near_alike (λ l. first_near l p r)
