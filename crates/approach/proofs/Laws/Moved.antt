-- A TRAIL WITH ITS CLOCK MOVED GETS THE SAME ANSWER: the refusal, yes or no, the leg, and the numerator and the denominator.
use Rattle.std.specs.Prelude.{◌≡◌, ℕ, suc, ◌+◌, ◌-◌, ℤ, pos, negsuc}
use Rattle.std.proofs.Math.Path.{refl, ap}
use Rattle.std.proofs.Common.{sym, arith}
use mathlib.Core.List.{List, [], ◌∷◌, map}
use Rattle.std.proofs.Math.Option.{Option, some, none}
use Rattle.distance.specs.Fix.{Fix}
use Rattle.distance.specs.Place.{Point}
use Rattle.distance.specs.Clock.{moved_fix}
use Rattle.distance.specs.Laws.All.{All, all_none, all_more}
use Rattle.format.specs.Kinds.{Kind}
use Rattle.format.specs.Format.{fixes}
use Rattle.format.proofs.Laws.Kinds.{same_kind_of}
use Rattle.format.proofs.Laws.RoundTrip.{AreBytes}
use Rattle.record.specs.Checks.{Check, bad_point, sentence, head_refusal}
use Rattle.record.specs.Moved.{moved_record, Movable}
use Rattle.record.proofs.Laws.First.{answer_same}
use Rattle.record.proofs.Laws.Moved.{Later, accepted_later, moved_later, moved_earlier, later_refusal}
use Rattle.approach.specs.declared.Part.{Part}
use Rattle.approach.specs.Approach.{heard_part, silent_part, leg_near, told_on, near_from, first_near, asked_near, near_refusal, near_answer}
use Rattle.approach.specs.Laws.Checking.{point_outside}
use Rattle.approach.proofs.Laws.Checking.{asks_near, own_check, near_passed}

-- ---- a list of fixes, all k seconds later: places and silences are as they were, and every difference of two times
module _ (k : ℕ) where
  abbrev later : Fix → Fix
  later = moved_fix (pos k)

  leg_later : (a b : Fix) (c : Point) (r : ℕ) → leg_near (later a) (later b) c r ≡ leg_near a b c r
  unfolding leg_near heard_part silent_part
  leg_later a b c r = refl

  told_later : (z i : ℕ) (a b : Fix) (o : Option Part) → told_on (z + k) i (later a) (later b) o ≡ told_on z i a b o
  told_later z i a b none = refl
  told_later z i a b (some s) =
      let gone : a.t + k - (z + k) ≡ a.t - z = omega arith in
      let takes : b.t + k - (a.t + k) ≡ b.t - a.t = omega arith in
      rw (gone, takes) refl

  from_later : (z i : ℕ) (a : Fix) (l : List Fix) (c : Point) (r : ℕ) → near_from (z + k) i (later a) (map later l) c r ≡ near_from z i a l c r
  unfolding near_from
  from_later z i a [] c r = refl
  from_later z i a (b ∷ l) c r = rw (leg_later a b c r, told_later z i a b (leg_near a b c r), from_later z (suc i) b l c r) refl

  near_later : (l : List Fix) (c : Point) (r : ℕ) → first_near (map later l) c r ≡ first_near l c r
  unfolding first_near
  near_later [] c r = refl
  near_later (a ∷ []) c r = rw (leg_later a a c r) (told_later a.t 0 a a (leg_near a a c r))
  near_later (a ∷ b ∷ l) c r = from_later a.t 0 a (b ∷ l) c r

-- ---- a record d that is b with every fix k seconds later
module _ (k : ℕ) (b d : List ℕ) (l : Later k b d) (c : Point) (r : ℕ) where
  same_own_check : head_refusal b ≡ none → All (λ (q : Check). asks_near d c r q ≡ asks_near b c r q) own_check
  unfolding sentence
  same_own_check h =
      let point : asks_near d c r bad_point ≡ asks_near b c r bad_point = ap (λ (K : Kind). point_outside K.limit c r) (same_kind_of b d l.same_head.same_kind) in
      all_more point all_none

  same_refusal : near_refusal d c r ≡ near_refusal b c r
  same_refusal = later_refusal k b d l (asked_near c r) (asked_near c r) own_check same_own_check

  pub near_answer_later : near_answer d c r ≡ near_answer b c r
  near_answer_later = rw same_refusal (answer_same (near_refusal b c r) (λ x. rw (accepted_later l (near_passed b c r x).is_accepted) (near_later k (fixes b) c r)))

-- ---- THE LAW. Of all lent bytes, and for every s, later or earlier, that keeps each time of the record in 32 bits, unless one of checks 1 to 6 turns the bytes away.
-- No second is asked, so none is moved with it.
pub near_answer_moved : (s : ℤ) (b : List ℕ) → AreBytes b → Movable s b → (c : Point) (r : ℕ) → near_answer (moved_record s b) c r ≡ near_answer b c r
near_answer_moved (pos k) b bytes stay c r = near_answer_later k b (moved_record (pos k) b) (moved_later k b bytes stay) c r
near_answer_moved (negsuc k) b bytes stay c r = sym (near_answer_later (suc k) (moved_record (negsuc k) b) b (moved_earlier k b bytes stay) c r)
