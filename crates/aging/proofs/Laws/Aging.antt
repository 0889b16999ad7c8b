-- Aging: what the marks, the packing and the head make of a record, and the checks in order. By days: Days.antt. The step of every call: Step.antt.
use Rattle.std.specs.Prelude.{◌≡◌, refl, Bool, ℕ, ◌<◌, ◌≤◌, length}
use Rattle.std.proofs.Common.{sym, ◌∙◌, arith, lt-ltb, le-ltb}
use mathlib.Core.List.{List, [], ◌∷◌}
use Rattle.std.proofs.Math.Option.{some, none}
use Rattle.std.proofs.lemmas.List.Edits.{sets}
use Rattle.format.specs.Kinds.{Kind}
use Rattle.format.specs.Format.{kind_of, record_length, mark_field, count_field, fixes, fix_at, each, header_bytes}
use Rattle.format.proofs.Laws.Kinds.{kind_of_is, longer}
use Rattle.record.specs.Checks.{Check, high_tolerance, sentence, first, reading, read_refusal, checks, IsAccepted}
use Rattle.record.specs.Answers.{gives, turns_away}
use Rattle.format.proofs.Laws.Each.{length_each}
use Rattle.record.proofs.Laws.Head.{asks}
use Rattle.record.proofs.Laws.First.{stops, passes, none_first, some_first, none_front, reading_alone}
use Rattle.thinning.specs.Thinning.{thinning}
use Rattle.thinning.specs.Marks.{kept_by, Says}
use Rattle.aging.specs.Aging.{new_mark, thinned_record, with_tolerance, age_refusal, age_answer, aged}
use Rattle.aging.specs.Laws.Pack.{Packed}
use Rattle.aging.proofs.Laws.Pack.{packed_record}
use Rattle.thinning.proofs.Laws.KeptBy.{kept_by_length}

-- ---- the record that the code leaves is the definition's
pub record_is : (b : List ℕ) (e n : ℕ) {K : Kind} {k : List Bool} {c w : ℕ} {p d : List ℕ} → K ≡ kind_of b → n ≡ count_field b → record_length K n ≤ length b → Says (thinning e (each (fix_at K b) 0 n)) k (each (fix_at K b) 0 n) c
    → Packed K b k n p w → d ≡ sets p 0 (header_bytes K (new_mark (mark_field b) e) w) → (c ≡ (thinning e (fixes b)).count) × (d ≡ thinned_record b e)
unfolding thinned_record
record_is b e n {K} {k} {d} kind is whole t q s =
    let l = kept_by k 0 (each (fix_at K b) 0 n) in
    let few : length l ≤ n = rw (length_each (fix_at K b) 0 n) at (kept_by_length k 0 (each (fix_at K b) 0 n)) in
    let fit : record_length K (length l) ≤ length b = omega (arith, longer K (length l) n few) in
    rw (← kind, ← is) (sym t.says_count, rw t.says_kept (packed_record K (rw kind (kind_of_is b)) b d (new_mark (mark_field b) e) l fit (s ∙ rw (q.stored, q.many) refl)))

-- ---- the checks: the reader's, and then 10
abbrev says : List ℕ → (e : ℕ) → Check → Bool
says b e = asks b (with_tolerance e)

module _ (b : List ℕ) (e : ℕ) where
  -- what the reader turns away aging turns away by the same number
  pub age_reader : (k : ℕ) → read_refusal b ≡ some k → age_refusal b e ≡ some k
  age_reader k h = some_first (says b e) (checks reading) (high_tolerance ∷ []) k (reading_alone b (with_tolerance e) ∙ h)

  pub age_10 : read_refusal b ≡ none → (kind_of b).top < e → age_refusal b e ≡ some 10
  unfolding sentence
  age_10 h g = none_first (says b e) (checks reading) (high_tolerance ∷ []) (reading_alone b (with_tolerance e) ∙ h) ∙ stops (says b e) high_tolerance [] (lt-ltb (kind_of b).top e g)

  pub age_none : read_refusal b ≡ none → e ≤ (kind_of b).top → age_refusal b e ≡ none
  unfolding sentence first
  age_none h g = none_first (says b e) (checks reading) (high_tolerance ∷ []) (reading_alone b (with_tolerance e) ∙ h) ∙ passes (says b e) high_tolerance [] (le-ltb (kind_of b).top e g)

-- ---- the answer and the buffer, case by case
pub age_refused : (b : List ℕ) (e k : ℕ) → age_refusal b e ≡ some k → (turns_away k ≡ age_answer b e) × (b ≡ aged b e)
age_refused b e k h = (rw h refl, rw h refl)

pub age_done : (b : List ℕ) (e : ℕ) → age_refusal b e ≡ none → (gives (thinning e (fixes b)).count ≡ age_answer b e) × (thinned_record b e ≡ aged b e)
age_done b e h = (rw h refl, rw h refl)

-- ---- what passes is accepted
pub age_accepted : (b : List ℕ) (e : ℕ) → age_refusal b e ≡ none → IsAccepted b
age_accepted b e h = record { accepted = sym (reading_alone b (with_tolerance e)) ∙ none_front (says b e) (checks reading) (high_tolerance ∷ []) h }
