-- A TRAIL AND ITS WINDOW MOVED BY THE SAME SECONDS GET THE SAME ANSWER: the refusal, yes or no, and the numerator and the denominator.
use Rattle.std.specs.Prelude.{◌≡◌, Bool, true, false, cond, ℕ, ◌+◌, ◌-◌, ℤ, pos}
use Rattle.std.proofs.Math.Path.{refl, ap}
use mathlib.Core.List.{List, [], ◌∷◌, map}
use Rattle.std.proofs.Math.Option.{none}
use native.Mathlib.Omega.{arith}
use Rattle.distance.specs.Fix.{Fix}
use Rattle.distance.specs.Silence.{silent}
use Rattle.distance.specs.Box.{Box}
use Rattle.distance.specs.Clock.{moved, Stays, moved_fix}
use Rattle.distance.specs.Laws.All.{All, all_none, all_more}
use Rattle.distance.specs.Integers.Tests.{ltb_more}
use Rattle.format.specs.Kinds.{Kind}
use Rattle.format.specs.Format.{fixes}
use Rattle.format.proofs.Laws.Kinds.{same_kind_of}
use Rattle.format.proofs.Laws.RoundTrip.{AreBytes}
use Rattle.record.specs.Checks.{Check, bad_window, bad_box, sentence, head_refusal, second_outside, of_ends}
use Rattle.record.specs.Moved.{moved_record, Movable}
use Rattle.record.proofs.Laws.First.{answer_same}
use Rattle.record.proofs.Laws.Changed.{ends_changed}
use Rattle.record.proofs.Laws.Moved.{Later, accepted_later, either_way, later_refusal}
use Rattle.legs.specs.declared.Frame.{Frame}
use Rattle.legs.specs.Legs.{raised, framed}
use Rattle.crossing.specs.Crossing.{followed, first_from, first_crossing, asked_crossing, cross_refusal, cross_answer}
use Rattle.crossing.specs.Laws.Search.{edges_outside}
use Rattle.crossing.proofs.Laws.Checking.{asks_crossing, own_checks, cross_passed}

-- ---- a list of fixes, all k seconds later
module _ (k : ℕ) where
  raised_later : (z : ℕ) (a : Fix) → raised (z + k) (moved_fix (pos k) a) ≡ raised z a
  raised_later z a = let e : a.t + k - (z + k) ≡ a.t - z = omega arith in rw e refl

  followed_later : (a b : Fix) → followed (moved_fix (pos k) a) (moved_fix (pos k) b) ≡ moved_fix (pos k) (followed a b)
  followed_later a b = go (silent a)
    where
      go : (t : Bool) → cond t (moved_fix (pos k) a) (moved_fix (pos k) b) ≡ moved_fix (pos k) (cond t a b)
      go true = refl
      go false = refl

  first_from_later : (z : ℕ) (a : Fix) (l : List Fix) (f : Frame) (w v : ℕ) → first_from (z + k) (moved_fix (pos k) a) (map (moved_fix (pos k)) l) f w v ≡ first_from z a l f w v
  unfolding first_from
  first_from_later z a [] f w v = rw (raised_later z a) refl
  first_from_later z a (b ∷ l) f w v = rw (followed_later a b, raised_later z a, raised_later z (followed a b), first_from_later z b l f w v) refl

  crossing_later : (l : List Fix) (box : Box) (s e : ℕ) → first_crossing (map (moved_fix (pos k)) l) box (s + k) (e + k) ≡ first_crossing l box s e
  unfolding first_crossing
  crossing_later [] box s e = refl
  crossing_later (a ∷ l) box s e =
      let p : s + k - (a.t + k) ≡ s - a.t = omega arith in
      let q : e + k - (a.t + k) ≡ e - a.t = omega arith in
      rw (p, q) (first_from_later a.t a l (framed box) (s - a.t) (e - a.t))

-- ---- a record c that is b with every fix k seconds later
module _ (k : ℕ) (b c : List ℕ) (l : Later k b c) (s e : ℕ) (box : Box) where
  outside_later : (t : ℕ) (f g : Fix) → second_outside (t + k) (moved_fix (pos k) f) (moved_fix (pos k) g) ≡ second_outside t f g
  outside_later t f g = rw (ltb_more k t f.t, ltb_more k g.t t) refl

  same_own_checks : head_refusal b ≡ none → All (λ (q : Check). asks_crossing c (s + k) (e + k) box q ≡ asks_crossing b s e box q) own_checks
  unfolding sentence
  same_own_checks h =
      let f = moved_fix (pos k) in
      let m = fixes b in
      let opens : of_ends (second_outside (s + k)) (map f m) ≡ of_ends (second_outside s) m = ends_changed f (second_outside s) (second_outside (s + k)) (outside_later s) m in
      let closes : of_ends (second_outside (e + k)) (map f m) ≡ of_ends (second_outside e) m = ends_changed f (second_outside e) (second_outside (e + k)) (outside_later e) m in
      let window : asks_crossing c (s + k) (e + k) box bad_window ≡ asks_crossing b s e box bad_window = rw (l.later_fixes h, ltb_more k e s, opens, closes) refl in
      let edges : asks_crossing c (s + k) (e + k) box bad_box ≡ asks_crossing b s e box bad_box = ap (λ (K : Kind). edges_outside K.limit box) (same_kind_of b c l.same_head.same_kind) in
      all_more window (all_more edges all_none)

  same_refusal : cross_refusal c (s + k) (e + k) box ≡ cross_refusal b s e box
  same_refusal = later_refusal k b c l (asked_crossing s e box) (asked_crossing (s + k) (e + k) box) own_checks same_own_checks

  pub cross_answer_later : cross_answer c (s + k) (e + k) box ≡ cross_answer b s e box
  cross_answer_later = rw same_refusal (answer_same (cross_refusal b s e box) (λ x. rw (accepted_later l (cross_passed b s e box x).is_accepted) (crossing_later k (fixes b) box s e)))

-- ---- THE LAW. Of all lent bytes, and for every s, later or earlier, that keeps both ends of the window and, unless one of checks 1 to 6 turns the bytes away, each
-- time of the record in 32 bits. What 1 to 6 turn away they turn away again, since no byte of the head is moved; and what is turned away by 7, 8, 9, 20, 13 or 14,
-- since no place is, and every two seconds are in the same order and as far apart as before.
pub cross_answer_moved : (s : ℤ) (b : List ℕ) → AreBytes b → Movable s b → (start end : ℕ) (box : Box) → Stays s start → Stays s end
    → cross_answer (moved_record s b) (moved s start) (moved s end) box ≡ cross_answer b start end box
cross_answer_moved s b bytes stay start end box from to = either_way (λ b w v. cross_answer b w v box) (λ k b c l p q w v. cross_answer_later k b c l w v box) s b bytes stay start end from to
