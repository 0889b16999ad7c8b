-- The writer: its checks in order, and that what it puts down is the record.
use Rattle.std.specs.Prelude.{◌≡◌, Bool, true, false, ℕ, ◌<◌, ◌≤◌, length, ltb, eqb}
use Rattle.std.proofs.Math.Path.{refl}
use Rattle.std.proofs.Common.{◌∙◌, ap, arith}
use mathlib.Core.List.{List, [], ◌∷◌, ◌++◌}
use Rattle.std.proofs.Math.Option.{some, none}
use Rattle.std.proofs.lemmas.List.Edits.{sets}
use borrow.Author.Tests.{lt-ltb, le-ltb, eq-eqb, ne_eqb, ltb-false}
use Rattle.distance.specs.Fix.{Fix}
use Rattle.format.specs.Kinds.{Kind}
use Rattle.format.specs.Format.{record_length, all_bytes}
use Rattle.format.proofs.Laws.Kinds.{IsKind}
use Rattle.record.specs.Checks.{Check, bad_count, short_output, sentence, first, fix_checks, refusal, writing, some_outside, some_early, some_other_silence, of_ends}
use Rattle.writing.specs.Writing.{asked_to_write, write_answer, written}
use Rattle.record.specs.Answers.{gives, turns_away}
use Rattle.record.proofs.Laws.First.{stops, passes, none_first, some_first, NoneHolds, no_check, and_not, none_holds}
use Rattle.distance.specs.Integers.Tests.{neither}
use Rattle.format.proofs.Laws.Layout.{record_stores}
use Rattle.writing.specs.Laws.Writing.{Begun}

abbrev pub says : Kind → List Fix → ℕ → Check → Bool
says K l output = sentence K (asked_to_write l output)

module _ (K : Kind) (l : List Fix) (output : ℕ) where
  no_fix : length l ≡ 0 → says K l output bad_count ≡ true
  unfolding sentence
  no_fix h = rw (eq-eqb _ _ h) refl

  many_fixes : 4096 < length l → says K l output bad_count ≡ true
  unfolding sentence
  many_fixes h = rw (ne_eqb (length l) 0 (λ e. omega arith), lt-ltb _ _ h) refl

  good_count : (length l ≡ 0 → ⊥) → length l ≤ 4096 → says K l output bad_count ≡ false
  unfolding sentence
  good_count h k = rw (ne_eqb _ _ h, le-ltb _ _ k) refl

  short : output < record_length K (length l) → says K l output short_output ≡ true
  unfolding sentence
  short h = lt-ltb _ _ h

  not_short : record_length K (length l) ≤ output → says K l output short_output ≡ false
  unfolding sentence
  not_short h = le-ltb _ _ h

  pub writes_3_none : length l ≡ 0 → refusal K writing (asked_to_write l output) ≡ some 3
  writes_3_none h = stops (says K l output) bad_count _ (no_fix h)

  pub writes_3_many : 4096 < length l → refusal K writing (asked_to_write l output) ≡ some 3
  writes_3_many h = stops (says K l output) bad_count _ (many_fixes h)

  module _ (h : length l ≡ 0 → ⊥) (g : length l ≤ 4096) where
    count_passed : refusal K writing (asked_to_write l output) ≡ first (says K l output) (fix_checks ++ short_output ∷ [])
    count_passed = passes (says K l output) bad_count (fix_checks ++ short_output ∷ []) (good_count h g)

    pub writes_fix : (k : ℕ) → first (says K l output) fix_checks ≡ some k → refusal K writing (asked_to_write l output) ≡ some k
    writes_fix k e = count_passed ∙ some_first (says K l output) fix_checks (short_output ∷ []) k e

    pub writes_15 : first (says K l output) fix_checks ≡ none → output < record_length K (length l) → refusal K writing (asked_to_write l output) ≡ some 15
    writes_15 e s = count_passed ∙ none_first (says K l output) fix_checks (short_output ∷ []) e ∙ stops (says K l output) short_output [] (short s)

    pub writes_none : first (says K l output) fix_checks ≡ none → record_length K (length l) ≤ output → refusal K writing (asked_to_write l output) ≡ none
    unfolding first
    writes_none e s = count_passed ∙ none_first (says K l output) fix_checks (short_output ∷ []) e ∙ passes (says K l output) short_output [] (not_short s)

-- no fixes are turned away by none of checks 7 to 9 and 20
pub none_turned_away : (K : Kind) (l : List Fix) (output : ℕ) → length l ≡ 0 → none ≡ first (says K l output) fix_checks
unfolding first sentence some_outside some_early some_other_silence of_ends
none_turned_away K [] output h = refl
none_turned_away K (f ∷ l) output h = absurd (omega arith)

-- a list that is turned away by none of the writer's checks fits a record and the output
pub writes_fit : (K : Kind) (l : List Fix) (output : ℕ) → refusal K writing (asked_to_write l output) ≡ none → (length l ≤ 4096) × (record_length K (length l) ≤ output)
unfolding sentence
writes_fit K l output h = go (none_holds (says K l output) (bad_count ∷ (fix_checks ++ short_output ∷ [])) h)
  where
    go : NoneHolds (says K l output) (bad_count ∷ (fix_checks ++ short_output ∷ [])) → (length l ≤ 4096) × (record_length K (length l) ≤ output)
    go (and_not h3 (and_not h7 (and_not h8 (and_not h9 (and_not h20 (and_not h15 no_check)))))) =
        (ltb-false 4096 (length l) (neither (eqb (length l) 0) (ltb 4096 (length l)) h3).1, ltb-false output (record_length K (length l)) h15)

-- the answer and the output are then the definition's: of a list that is turned away, ..
module _ (K : Kind) (l : List Fix) (out begun : List ℕ) where
  pub begun_refused : (k : ℕ) → Begun K l out (turns_away k) begun → (turns_away k ≡ write_answer K l out) × (begun ≡ written K l out)
  begun_refused k (h, same) = (rw h refl, same ∙ rw h refl)

  -- .. and of one whose fixes are put down after the head
  pub begun_done : IsKind K → (bytes : ℕ) → Begun K l out (gives bytes) begun → (after : List ℕ) → after ≡ sets begun 10 (all_bytes K l)
      → (gives bytes ≡ write_answer K l out) × (after ≡ written K l out)
  begun_done kind bytes (h, long, head) after put = (
    ap gives long ∙ rw h refl,
    put ∙ ap (λ (o : List ℕ). sets o 10 (all_bytes K l)) head ∙ record_stores K kind out 65535 l (writes_fit K l (length out) h).1 ∙ rw h refl,
  )
