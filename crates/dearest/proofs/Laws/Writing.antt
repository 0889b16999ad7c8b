-- Writing the dearest trail: that it is what the writer does with its fixes.
use Rattle.std.specs.Prelude.{◌≡◌, refl, Bool, true, false, List, [], ◌∷◌, ◌++◌, ℕ, ◌≤◌, ltb, eqb, length}
use Rattle.std.proofs.Common.{sym, ◌∙◌, arith, ltb-false}
use Rattle.std.proofs.Math.Option.{none}
use Rattle.distance.specs.Integers.Tests.{neither}
use Rattle.distance.specs.Laws.All.{All}
use Rattle.distance.proofs.Laws.All.{all_map}
use Rattle.format.specs.declared.Kind.TheVariants.{Trail}
use Rattle.format.specs.Kinds.{trail}
use Rattle.format.specs.Format.{record_length}
use Rattle.format.proofs.Laws.Each.{length_each, each_all}
use Rattle.record.specs.Checks.{Check, bad_count, short_output, sentence, first, fix_checks}
use Rattle.record.proofs.Laws.First.{stops, passes, none_first}
use Rattle.record.specs.Laws.Scan.{Timed}
use Rattle.record.proofs.Laws.Accepted.{good_fixes}
use Rattle.writing.specs.Writing.{asked_to_write, write_refusal, write_answer, written, ReadsBack}
use Rattle.writing.proofs.Laws.Writing.{says, writes_none, writes_fit}
use Rattle.writing.proofs.Laws.ReadsBack.{Sayable, writes_good, writes_back}
use Rattle.dearest.specs.Dearest.{dearest_fix, dearest, dearest_refusal, dearest_answer, dearest_written}
use Rattle.dearest.proofs.Laws.Fixes.{good, timed, none_silent}

-- checks 7 to 9 and 20 say nothing of it, if there are not too many fixes
pub fixes_pass : (n output : ℕ) → n ≤ 4096 → first (sentence trail (asked_to_write (dearest n) output)) fix_checks ≡ none
fixes_pass n output few = good_fixes trail (asked_to_write (dearest n) output) (good n few)

pub length_dearest : (n : ℕ) → length (dearest n) ≡ n
length_dearest n = length_each (dearest_fix n) 0 n

-- "3 and 15 apply": they turn away just what the writer's checks would, by the same number ..
module _ (n : ℕ) (out : List ℕ) where
  abbrev asks : Check → Bool
  asks = says trail (dearest n) (length out)

  few : asks bad_count ≡ false → n ≤ 4096
  unfolding sentence
  few h = rw (length_dearest n) at (ltb-false 4096 (length (dearest n)) (neither (eqb (length (dearest n)) 0) (ltb 4096 (length (dearest n))) h).1)

  pub as_the_writer : dearest_refusal n out ≡ write_refusal trail (dearest n) out
  as_the_writer = go (asks bad_count) refl
    where
      go : (b : Bool) → asks bad_count ≡ b → first asks (bad_count ∷ short_output ∷ []) ≡ first asks (bad_count ∷ (fix_checks ++ short_output ∷ []))
      go true h = stops asks bad_count _ h ∙ sym (stops asks bad_count _ h)
      go false h = passes asks bad_count _ h ∙ sym (passes asks bad_count _ h ∙ none_first asks fix_checks (short_output ∷ []) (fixes_pass n (length out) (few h)))

  -- .. so that the answer and the output are the writer's
  pub answer_as_the_writer : dearest_answer n out ≡ write_answer trail (dearest n) out
  answer_as_the_writer = rw (as_the_writer, length_dearest n) refl

  pub written_as_the_writer : dearest_written n out ≡ written trail (dearest n) out
  written_as_the_writer = rw (as_the_writer, length_dearest n) refl

  module _ (h : dearest_refusal n out ≡ none) where
    accepted : write_refusal trail (dearest n) out ≡ none
    accepted = sym as_the_writer ∙ h

    pub dearest_fits : (1 ≤ n) × (n ≤ 4096) × (record_length trail n ≤ length out)
    dearest_fits =
        let fit = writes_fit trail (dearest n) (length out) accepted in
        let some_fix = (writes_good trail (dearest n) (length out) accepted).0 in
        (rw (length_dearest n) at some_fix, rw (length_dearest n) at fit.0, rw (length_dearest n) at fit.1)

    -- "Reading it gives the list again", marked never
    pub dearest_reads_back : ReadsBack trail (dearest n) (dearest_written n out)
    dearest_reads_back =
        let small = dearest_fits.1 in
        let all_timed : All Timed (dearest n) = each_all (dearest_fix n) 0 n (λ i p q. timed n i (omega arith) small) in
        let sayable : All (Sayable trail) (dearest n) = all_map (λ f e. record { no_byte = λ _. e }) (none_silent n) in
        rw written_as_the_writer (writes_back Trail (dearest n) out all_timed sayable accepted)

  -- and it is turned away by nothing if it has fixes, not too many, and room
  pub dearest_passes : 1 ≤ n → n ≤ 4096 → record_length trail n ≤ length out → dearest_refusal n out ≡ none
  dearest_passes one small room =
      let is = length_dearest n in
      as_the_writer ∙ writes_none trail (dearest n) (length out) (λ e. omega (arith, is, e)) (omega (arith, is)) (fixes_pass n (length out) small) (rw is room)
