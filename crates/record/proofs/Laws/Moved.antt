-- A record with its clock moved has its fixes, moved, and is refused as before. Each law is proved of two records of which the second has every fix so many
-- seconds later than the first (`Later`), and then holds of a record that is moved, later or earlier (`either_way`).
use Rattle.std.specs.Prelude.{◌≡◌, List, ◌++◌, map, ℕ, suc, ◌+◌, ℤ, pos, negsuc, ◌+ℤ◌, ◌≤ℤ◌}
use Rattle.std.proofs.Math.Path.{refl, ap}
use Rattle.std.proofs.Common.{sym, ◌∙◌}
use Rattle.std.proofs.Math.Option.{none}
use Rattle.std.specs.Int.Signed.{lt_z}
use Rattle.distance.specs.Fix.{Fix}
use Rattle.distance.specs.Clock.{moved, Stays, moved_fix}
use Rattle.distance.specs.Laws.All.{All, all_none, all_more}
use Rattle.distance.proofs.Laws.All.{all_always, all_append, all_map}
use Rattle.distance.proofs.Laws.Clock.{moved_fits, later_again, seconds_later, fixes_later_again}
use Rattle.distance.specs.Integers.Tests.{leb_more}
use Rattle.format.specs.Kinds.{Kind}
use Rattle.format.specs.Format.{kind_of, count_field, fixes}
use Rattle.format.proofs.Laws.Kinds.{kind_of_is, same_kind_of}
use Rattle.format.proofs.Laws.RoundTrip.{AreBytes, InRange, bytes_in_range}
use Rattle.format.specs.Laws.Changed.{SameHead}
use Rattle.format.proofs.Laws.Changed.{same_head_swap, changed_head, changed_bytes, changed_in_range}
use Rattle.record.specs.Checks.{Check, Given, misplaced, unordered, long_span, bad_silence, sentence, first, nothing, head_checks, fix_checks, head_refusal, too_long, last_silent, IsAccepted}
use Rattle.record.specs.Moved.{moved_record, Movable}
use Rattle.record.proofs.Laws.Head.{asks, head_none, head_passed}
use Rattle.record.proofs.Laws.Changed.{head_same, changed_refusal, outside_changed, early_changed, silences_changed, ends_changed}

-- ---- the fixes of a moved record
moved_in_range : (K : Kind) (s : ℤ) {l : List Fix} → All (InRange K) l → All (λ (a : Fix). Stays s a.t) l → All (InRange K) (map (moved_fix s) l)
moved_in_range K s all_none all_none = all_none
moved_in_range K s (all_more {m = a} h t) (all_more k u) = all_more (record { t32 = moved_fits s a.t k; x_in = h.x_in; y_in = h.y_in; silence_in = h.silence_in }) (moved_in_range K s t u)

pub moved_fixes : (s : ℤ) (b : List ℕ) → AreBytes b → Movable s b → head_refusal b ≡ none → fixes (moved_record s b) ≡ map (moved_fix s) (fixes b)
moved_fixes s b bytes stay h = changed_in_range (moved_fix s) b (head_passed b h).whole (moved_in_range (kind_of b) s (bytes_in_range (kind_of b) (kind_of_is b) b bytes 0 (count_field b)) (stay.all_stay h))

-- ---- c is b with every fix k seconds later
pub record Later (k : ℕ) (b c : List ℕ) : Type 0 where
  pub same_head : SameHead b c
  pub later_fixes : head_refusal b ≡ none → fixes c ≡ map (moved_fix (pos k)) (fixes b)

pub accepted_later : {k : ℕ} {b c : List ℕ} → Later k b c → IsAccepted b → fixes c ≡ map (moved_fix (pos k)) (fixes b)
accepted_later {k} {b} l a = l.later_fixes (head_none b a.accepted)

-- a record that is moved to a later time
pub moved_later : (k : ℕ) (b : List ℕ) → AreBytes b → Movable (pos k) b → Later k b (moved_record (pos k) b)
moved_later k b bytes stay = record { same_head = changed_head (moved_fix (pos k)) b; later_fixes = moved_fixes (pos k) b bytes stay }

-- and to an earlier one: then the old one is the later of the two
pub moved_earlier : (k : ℕ) (b : List ℕ) → AreBytes b → Movable (negsuc k) b → Later (suc k) (moved_record (negsuc k) b) b
moved_earlier k b bytes stay =
    let c = moved_record (negsuc k) b in
    let same = changed_head (moved_fix (negsuc k)) b in
    record { same_head = same_head_swap same; later_fixes = (λ h. back (sym (head_same b c same nothing nothing) ∙ h)) }
  where
    back : head_refusal b ≡ none → fixes b ≡ map (moved_fix (pos (suc k))) (fixes (moved_record (negsuc k) b))
    back h = rw (moved_fixes (negsuc k) b bytes stay h) (sym (fixes_later_again k (stay.all_stay h)))

-- ---- LATER OR EARLIER: what is the same of any two records as above is the same of a record and of the moved one. F is what is the same; it takes bytes, and two
-- seconds that are asked and that are moved with them.
pub either_way : {A : Type 0} (F : List ℕ → (start end : ℕ) → A)
    → ((k : ℕ) (b c : List ℕ) → Later k b c → AreBytes b → AreBytes c → (start end : ℕ) → F c (start + k) (end + k) ≡ F b start end)
    → (s : ℤ) (b : List ℕ) → AreBytes b → Movable s b → (start end : ℕ) → Stays s start → Stays s end → F (moved_record s b) (moved s start) (moved s end) ≡ F b start end
either_way F alike (pos k) b bytes stay start end from to = alike k b (moved_record (pos k) b) (moved_later k b bytes stay) bytes (changed_bytes (moved_fix (pos k)) b bytes) start end
either_way F alike (negsuc k) b bytes stay start end from to =
    let c = moved_record (negsuc k) b in
    let e = alike (suc k) c b (moved_earlier k b bytes stay) (changed_bytes (moved_fix (negsuc k)) b bytes) bytes (moved (negsuc k) start) (moved (negsuc k) end) in
    sym (rw (later_again k start from, later_again k end to) at e)

-- ---- THE REFUSAL is as before: checks 1 to 6 look at the head, 7 to 9 and 20 say the same of later fixes, and so must those of the call
module _ (k : ℕ) (b c : List ℕ) (l : Later k b c) (g h : Given) where
  same_fix_checks : head_refusal b ≡ none → All (λ (q : Check). asks c h q ≡ asks b g q) fix_checks
  unfolding sentence
  same_fix_checks p =
      let e = l.later_fixes p in
      let f = moved_fix (pos k) in
      let m = fixes b in
      let kind = same_kind_of b c l.same_head.same_kind in
      let places : asks c h misplaced ≡ asks b g misplaced = rw (e, kind) (outside_changed f (kind_of b).limit (all_always (λ (a : Fix). refl) m)) in
      let order : asks c h unordered ≡ asks b g unordered = rw e (early_changed f (λ a d. leb_more k d.t a.t) m) in
      let span : asks c h long_span ≡ asks b g long_span = rw e (ends_changed f too_long too_long (λ a d. ap (lt_z (pos 65535)) (seconds_later k a d)) m) in
      let silences : asks c h bad_silence ≡ asks b g bad_silence = rw (e, silences_changed f (λ a. refl) m, ends_changed f last_silent last_silent (λ a d. refl) m) refl in
      all_more places (all_more order (all_more span (all_more silences all_none)))

  pub later_refusal : (own : List Check) → (head_refusal b ≡ none → All (λ (q : Check). asks c h q ≡ asks b g q) own)
      → first (asks c h) (head_checks ++ (fix_checks ++ own)) ≡ first (asks b g) (head_checks ++ (fix_checks ++ own))
  later_refusal own same = changed_refusal b c l.same_head g h (fix_checks ++ own) (λ p. all_append (same_fix_checks p) (same p))

-- ---- WHAT THE LAWS OF A MOVED CLOCK ASK, and no more, without the names for it: that a second, when it is moved, is from 0 to the last of 32 bits, and of a record
-- whose head passes checks 1 to 6 that every fix's is
pub stays_if : (s : ℤ) (t : ℕ) → pos 0 ≤ℤ (pos t +ℤ s) → (pos t +ℤ s) ≤ℤ pos 4294967295 → Stays s t
stays_if s t h k = record { from_zero = h; in_32_bits = k }

pub movable_if : (s : ℤ) (b : List ℕ)
    → (head_refusal b ≡ none → All (λ (a : Fix). (pos 0 ≤ℤ (pos a.t +ℤ s)) × ((pos a.t +ℤ s) ≤ℤ pos 4294967295)) (fixes b)) → Movable s b
movable_if s b h = record { all_stay = (λ p. all_map (λ a k. stays_if s a.t k.0 k.1) (h p)) }
