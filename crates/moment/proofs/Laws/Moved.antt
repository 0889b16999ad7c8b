-- A TRAIL AND A MOMENT MOVED BY THE SAME SECONDS: the place question gives the same answer.
use Rattle.std.specs.Prelude.{◌≡◌, List, map, ℕ, suc, ◌+◌, ◌*◌, ltb, ℤ, pos}
use Rattle.std.proofs.Math.Path.{refl}
use Rattle.std.proofs.Common.{sym, ◌∙◌, ap, arith}
use Rattle.std.proofs.Math.Option.{none}
use Rattle.distance.specs.Fix.{Fix}
use Rattle.distance.specs.Place.{instant, moment, place}
use Rattle.distance.specs.Clock.{moved, Stays, moved_fix}
use Rattle.distance.specs.Laws.All.{All, all_none, all_more}
use Rattle.distance.proofs.Laws.Clock.{place_later}
use Rattle.distance.proofs.Laws.Silence.{silence_changed}
use Rattle.distance.specs.Integers.Tests.{same_test}
use Rattle.format.specs.Format.{fixes}
use Rattle.format.proofs.Laws.RoundTrip.{AreBytes}
use Rattle.record.specs.Checks.{Check, bad_moment, moment_in_silence, sentence, head_refusal, refusal_of, placing, moment_outside}
use Rattle.record.specs.Moved.{moved_record, Movable}
use Rattle.record.proofs.Laws.First.{answer_same}
use Rattle.record.proofs.Laws.Changed.{ends_changed}
use Rattle.record.proofs.Laws.Moved.{Later, accepted_later, either_way, later_refusal}
use Rattle.moment.specs.Moment.{asked_moment, at_moment, place_answer}
use Rattle.moment.proofs.Laws.Moment.{moment_is}
use Rattle.moment.proofs.Laws.Placing.{own_checks, asks_moment, none_accepted}

-- ---- a list of fixes, all k seconds later
at_later : (k : ℕ) (l : List Fix) (s m : ℕ) → at_moment (map (moved_fix (pos k)) l) (s + k) m ≡ at_moment l s m
at_later k l s m =
    let e : 1000 * (s + k) + m ≡ 1000 * s + m + 1000 * k = omega arith in
    moment_is (map (moved_fix (pos k)) l) (s + k) m
    ∙ ap (λ (p : ℕ). place (map (moved_fix (pos k)) l) (instant p)) e ∙ place_later k l (moment s m) ∙ sym (moment_is l s m)

-- ---- a record c that is b with every fix k seconds later
module _ (k : ℕ) (b c : List ℕ) (l : Later k b c) (s m : ℕ) where
  -- the moment is before a fix, or after it, as it was
  before_later : (f : Fix) → ltb (1000 * (s + k) + m) (1000 * (f.t + k)) ≡ ltb (1000 * s + m) (1000 * f.t)
  before_later f = same_test (suc (1000 * (s + k) + m)) (1000 * (f.t + k)) (suc (1000 * s + m)) (1000 * f.t) ((λ z. omega arith), (λ z. omega arith))

  after_later : (f : Fix) → ltb (1000 * (f.t + k)) (1000 * (s + k) + m) ≡ ltb (1000 * f.t) (1000 * s + m)
  after_later f = same_test (suc (1000 * (f.t + k))) (1000 * (s + k) + m) (suc (1000 * f.t)) (1000 * s + m) ((λ z. omega arith), (λ z. omega arith))

  outside_later : (f g : Fix) → moment_outside (s + k) m (moved_fix (pos k) f) (moved_fix (pos k) g) ≡ moment_outside s m f g
  outside_later f g = rw (before_later f, after_later g) refl

  same_own_checks : head_refusal b ≡ none → All (λ (q : Check). asks_moment c (s + k) m q ≡ asks_moment b s m q) own_checks
  unfolding sentence
  same_own_checks h =
      let moment_in : asks_moment c (s + k) m bad_moment ≡ asks_moment b s m bad_moment = rw (l.later_fixes h) (ends_changed (moved_fix (pos k)) (moment_outside s m) (moment_outside (s + k) m) outside_later (fixes b)) in
      let silence_in : asks_moment c (s + k) m moment_in_silence ≡ asks_moment b s m moment_in_silence = rw (l.later_fixes h) (silence_changed (moved_fix (pos k)) (moment s m) (moment (s + k) m) (λ a. refl) after_later before_later (fixes b)) in
      all_more refl (all_more moment_in (all_more silence_in all_none))

  same_refusal : refusal_of placing c (asked_moment (s + k) m) ≡ refusal_of placing b (asked_moment s m)
  same_refusal = later_refusal k b c l (asked_moment s m) (asked_moment (s + k) m) own_checks same_own_checks

  place_answer_later : place_answer c (s + k) m ≡ place_answer b s m
  place_answer_later = rw same_refusal (answer_same (refusal_of placing b (asked_moment s m)) (λ x. rw (accepted_later l (none_accepted b s m x), at_later k (fixes b) s m) refl))

-- ---- THE LAW. Of all lent bytes, and for every s, later or earlier, that keeps the asked second and, unless one of checks 1 to 6 turns the bytes away, each
-- time of the record in 32 bits.
pub place_answer_moved : (s : ℤ) (b : List ℕ) → AreBytes b → Movable s b → (second m : ℕ) → Stays s second
    → place_answer (moved_record s b) (moved s second) m ≡ place_answer b second m
place_answer_moved s b bytes stay second m from = either_way (λ b w v. place_answer b w m) (λ k b c l p q w v. place_answer_later k b c l w m) s b bytes stay second second from from
