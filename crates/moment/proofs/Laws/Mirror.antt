-- THE SAME ON EACH SIDE OF THE AISLE: of a mirrored record the place question gives the mirrored answer, at every moment, and refuses what it refused.
use Rattle.std.specs.Prelude.{◌≡◌, Bool, ◌||◌, List, ◌++◌, map, ℤ, pos, neg_ℤ, ◌≤ℤ◌}
use Rattle.std.proofs.Math.Path.{refl, sym}
use Rattle.std.proofs.Common.{◌∙◌, ap}
use Rattle.std.proofs.Math.Bool.{true, false}
use Rattle.std.proofs.Math.Option.{Option, some, none}
use Prim.Native.Nat.{ℕ, zero, suc, ◌*◌, ◌-◌, ◌^◌, ◌<◌, ◌≤◌}
use native.Mathlib.Omega.{arith}
use Rattle.std.proofs.Math.IntN.{negsuc, nat_abs, neg_ℤ-neg_ℤ}
use Rattle.std.specs.Int.Signed.{lt_z}
use Rattle.distance.specs.Fix.{Fix, Bounded}
use Rattle.distance.specs.Place.{moment, Place}
use Rattle.distance.specs.Mirror.{Mirror, mirrored, mirrored_fix, mirrored_place}
use Rattle.distance.specs.Laws.All.{All, all_none, all_more}
use Rattle.distance.proofs.Laws.All.{all_map}
use Rattle.distance.proofs.Laws.Mirror.{place_mirrored, rounded_mirrored}
use Rattle.distance.proofs.Laws.Silence.{silence_changed}
use Rattle.distance.specs.Integers.Order.{lt_z_opposite}
use Rattle.distance.specs.Integers.Bounds.{abs_bound}
use Rattle.distance.specs.Integers.Tests.{Test, holds, fails, test}
use Rattle.format.specs.Bytes.{InBytes, signed, unsigned}
use Rattle.format.specs.Kinds.{Kind}
use Rattle.format.specs.Format.{kind_of, count_field, fixes}
use Rattle.format.proofs.Laws.Kinds.{IsKind, kind_of_is, same_kind_of}
use Rattle.format.proofs.Laws.Numbers.{even, signed_high}
use Rattle.format.proofs.Laws.RoundTrip.{AreBytes, InRange, Storable, said, coordinate, bytes_in_range}
use Rattle.format.proofs.Laws.Changed.{changed_head, changed_fixes, changed_in_range}
use Rattle.record.specs.Checks.{Check, misplaced, unordered, long_span, bad_silence, bad_moment, moment_in_silence, sentence, fix_checks, refusal_of, head_refusal, placing, outside, fix_outside, too_long, last_silent, moment_outside, IsAccepted}
use Rattle.record.specs.Answers.{gives, answer}
use Rattle.record.proofs.Laws.Head.{Head, head_passed}
use Rattle.record.proofs.Laws.Accepted.{accepted_good, places_good}
use Rattle.record.proofs.Laws.Changed.{changed_refusal, outside_changed, early_changed, silences_changed, ends_changed}
use Rattle.moment.specs.Moment.{asked_moment, at_moment, beside, place_answer}
use Rattle.moment.specs.Mirror.{mirrored_record, mirrored_standing, mirrored_answer}
use Rattle.moment.proofs.Laws.Moment.{moment_is}
use Rattle.moment.proofs.Laws.Placing.{own_checks, asks_moment, none_accepted}

-- ---- a coordinate of so many bytes, mirrored
outside_opposite : (limit : ℕ) (z : ℤ) → outside limit (neg_ℤ z) ≡ outside limit z
outside_opposite limit z =
    let other : lt_z (pos limit) (neg_ℤ z) ≡ lt_z z (neg_ℤ (pos limit)) = sym (lt_z_opposite (neg_ℤ z) (pos limit)) ∙ rw (neg_ℤ-neg_ℤ z) refl in
    rw (lt_z_opposite z (pos limit), other) (turned (lt_z (pos limit) z) (lt_z z (neg_ℤ (pos limit))))
  where
    turned : (p q : Bool) → p || q ≡ q || p
    turned true true = refl
    turned true false = refl
    turned false true = refl
    turned false false = refl

module _ (width : ℕ) (some : 1 ≤ width) where
  -- it has room in them, ..
  stored : (m : Bool) (z : ℤ) → InBytes width z → unsigned width (mirrored m z) < 256 ^ width
  unfolding unsigned
  stored true (pos zero) f = let h : 0 < 256 ^ width = f.in_bytes in h
  stored true (pos (suc n)) f = let h : 2 * suc n < 256 ^ width = f.in_bytes in omega arith
  stored true (negsuc n) f = let h : 2 * n < 256 ^ width = f.in_bytes in omega (arith, even width some)
  stored false z f = (coordinate width z some f).small

  -- .. is in their range if the opposite is too, ..
  in_both : (m : Bool) (z : ℤ) → 2 * nat_abs z < 256 ^ width → InBytes width (mirrored m z)
  in_both true (pos zero) h = record { in_bytes = h }
  in_both true (pos (suc n)) h = record { in_bytes = omega arith }
  in_both true (negsuc n) h = record { in_bytes = h }
  in_both false (pos n) h = record { in_bytes = h }
  in_both false (negsuc n) h = record { in_bytes = omega arith }

  -- .. and what they say is outside a limit exactly if it was: only the least number has no opposite there, and its bytes say it again
  outside_said : (m : Bool) (limit : ℕ) (z : ℤ) → InBytes width z → outside limit (signed width (unsigned width (mirrored m z))) ≡ outside limit z
  unfolding unsigned
  outside_said false limit z f = rw (coordinate width z some f).back refl
  outside_said true limit z f = go z f (test (256 ^ width) (2 * nat_abs z))
    where
      least : (n : ℕ) → 2 * n < 256 ^ width → 256 ^ width ≤ 2 * suc n → signed width (unsigned width (pos (suc n))) ≡ negsuc n
      least n h k = let e = even width some in let f : 256 ^ width - 1 - suc n ≡ n = omega arith in sym (signed_high width (suc n) k (omega arith)) ∙ rw f refl

      go : (z : ℤ) → InBytes width z → {b : Bool} → Test (256 ^ width) (2 * nat_abs z) b → outside limit (signed width (unsigned width (neg_ℤ z))) ≡ outside limit z
      go (pos n) g (holds h) = absurd (let k : 2 * n < 256 ^ width = g.in_bytes in omega arith)
      go (negsuc n) g (holds h) = rw (least n g.in_bytes h) refl
      go z g (fails h) = rw (coordinate width (neg_ℤ z) some (in_both true z h)).back (outside_opposite limit z)

-- ---- fixes
module _ (K : Kind) (is : IsKind K) (m : Mirror) where
  -- what the bytes of a mirrored fix say
  abbrev said_fix : Fix → Fix
  said_fix a = said K (mirrored_fix m a)

  all_stored : {l : List Fix} → All (InRange K) l → All (Storable K) (map (mirrored_fix m) l)
  all_stored all_none = all_none
  all_stored (all_more {m = a} h t) =
      all_more (record { t_fits = h.t32; x_fits = stored K.width is.some_width m.in_x a.x h.x_in; y_fits = stored K.width is.some_width m.in_y a.y h.y_in; silence_fits = h.silence_in }) (all_stored t)

  as_outside : (a : Fix) → InRange K a → fix_outside K.limit (said_fix a) ≡ fix_outside K.limit a
  as_outside a h = rw (outside_said K.width is.some_width m.in_x K.limit a.x h.x_in, outside_said K.width is.some_width m.in_y K.limit a.y h.y_in) refl

  -- within the limit each is said as it is
  within : (z : ℤ) → neg_ℤ (pos K.limit) ≤ℤ z → z ≤ℤ pos K.limit → 2 * nat_abs z < 256 ^ K.width
  within z low high = omega (arith, is.inside, abs_bound z K.limit high low)

  mirrored_in_range : {l : List Fix} → All (InRange K) l → All (Bounded K.limit) l → All (InRange K) (map (mirrored_fix m) l)
  mirrored_in_range all_none all_none = all_none
  mirrored_in_range (all_more {m = a} h t) (all_more p q) =
      all_more (record { t32 = h.t32; x_in = in_both K.width is.some_width m.in_x a.x (within a.x p.x_low p.x_high); y_in = in_both K.width is.some_width m.in_y a.y (within a.y p.y_low p.y_high); silence_in = h.silence_in })
      (mirrored_in_range t q)

module _ (m : Mirror) where
  beside_mirrored : (P : Place) → beside (mirrored_place m P) ≡ mirrored_standing m (beside P)
  beside_mirrored P = rw (rounded_mirrored m.in_x P.x P.d, rounded_mirrored m.in_y P.y P.d) refl

  moment_mirrored : (l : List Fix) (s t : ℕ) → at_moment (map (mirrored_fix m) l) s t ≡ mirrored_place m (at_moment l s t)
  moment_mirrored l s t = moment_is (map (mirrored_fix m) l) s t ∙ place_mirrored m (moment s t) l ∙ ap (mirrored_place m) (sym (moment_is l s t))

-- ---- A MIRRORED RECORD
module _ (m : Mirror) (b : List ℕ) (bytes : AreBytes b) where
  abbrev image : List ℕ
  image = mirrored_record m b

  abbrev K : Kind
  K = kind_of b

  abbrev is : IsKind (kind_of b)
  is = kind_of_is b

  in_range : All (InRange K) (fixes b)
  in_range = bytes_in_range K is b bytes 0 (count_field b)

  said_fixes : Head b → fixes image ≡ map (said_fix K is m) (fixes b)
  said_fixes h = changed_fixes (mirrored_fix m) b h.whole (all_stored K is m in_range)

  -- of an accepted one the fixes are its own, mirrored
  pub mirrored_fixes : IsAccepted b → fixes (mirrored_record m b) ≡ map (mirrored_fix m) (fixes b)
  mirrored_fixes accepted =
      let g = accepted_good b accepted in
      changed_in_range (mirrored_fix m) b g.head.whole (mirrored_in_range K is m in_range (places_good K.limit (fixes b) g.trail_good.inside))

  -- ---- THE ANSWER ON LENT BYTES, at the second s and t thousandths
  module _ (s t : ℕ) where
    -- no time moves, and no place leaves or enters the limit
    same_checks : head_refusal b ≡ none → All (λ (c : Check). asks_moment image s t c ≡ asks_moment b s t c) (fix_checks ++ own_checks)
    unfolding sentence
    same_checks h =
        let e = said_fixes (head_passed b h) in
        let kind = same_kind_of b image (changed_head (mirrored_fix m) b).same_kind in
        let f = said_fix K is m in
        let l = fixes b in
        let places : asks_moment image s t misplaced ≡ asks_moment b s t misplaced = rw (e, kind) (outside_changed f K.limit (all_map (as_outside K is m) in_range)) in
        let order : asks_moment image s t unordered ≡ asks_moment b s t unordered = rw e (early_changed f (λ a c. refl) l) in
        let span : asks_moment image s t long_span ≡ asks_moment b s t long_span = rw e (ends_changed f too_long too_long (λ a c. refl) l) in
        let moment_in : asks_moment image s t bad_moment ≡ asks_moment b s t bad_moment = rw e (ends_changed f (moment_outside s t) (moment_outside s t) (λ a c. refl) l) in
        let silences : asks_moment image s t bad_silence ≡ asks_moment b s t bad_silence = rw (e, silences_changed f (λ a. refl) l, ends_changed f last_silent last_silent (λ a c. refl) l) refl in
        let silence_in : asks_moment image s t moment_in_silence ≡ asks_moment b s t moment_in_silence = rw e (silence_changed f (moment s t) (moment s t) (λ a. refl) (λ a. refl) (λ a. refl) l) in
        all_more places (all_more order (all_more span (all_more silences (all_more refl (all_more moment_in (all_more silence_in all_none))))))

    same_refusal : refusal_of placing image (asked_moment s t) ≡ refusal_of placing b (asked_moment s t)
    same_refusal = changed_refusal b image (changed_head (mirrored_fix m) b) (asked_moment s t) (asked_moment s t) (fix_checks ++ own_checks) same_checks

    standing_mirrored : IsAccepted b → beside (at_moment (fixes image) s t) ≡ mirrored_standing m (beside (at_moment (fixes b) s t))
    standing_mirrored accepted = rw (mirrored_fixes accepted, moment_mirrored m (fixes b) s t) (beside_mirrored m (at_moment (fixes b) s t))

    pub answer_mirrored : place_answer (mirrored_record m b) s t ≡ mirrored_answer m (place_answer b s t)
    answer_mirrored = rw same_refusal (go (refusal_of placing b (asked_moment s t)) refl)
      where
        go : (r : Option ℕ) → refusal_of placing b (asked_moment s t) ≡ r
            → answer r (beside (at_moment (fixes image) s t)) ≡ mirrored_answer m (answer r (beside (at_moment (fixes b) s t)))
        go (some k) e = refl
        go none e = ap gives (standing_mirrored (none_accepted b s t e))
