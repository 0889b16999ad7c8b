-- THE DEAREST TRAIL. Document 02, item 13: "For sizing the controller we need the trail of n fixes that costs most."
use Rattle.std.specs.Prelude.{cond, List, ◌++◌, ℕ, ◌%◌, eqb, length, drop, ℤ, pos, neg_ℤ, ◌-ℤ◌}
use Rattle.std.proofs.Math.Option.{Option}
use Rattle.distance.specs.Fix.{Fix}
use Rattle.format.specs.Kinds.{trail}
use Rattle.format.specs.Format.{never, record_length, each, record_bytes}
use Rattle.record.specs.Checks.{refusal, writing_dearest}
use Rattle.record.specs.Answers.{Answer, answer, unless}
use Rattle.writing.specs.Writing.{asked_to_write}
use Rattle.thinning.specs.Thinning.{greatest_count}

-- "y equal to n − 1 − i, plus for even i and minus for odd". Over ℤ, so that nothing is cut off at 0.
abbrev pub dearest_y : (n i : ℕ) → ℤ
dearest_y n i =
    let y = pos n -ℤ pos 1 -ℤ pos i in
    cond (eqb (i % 2) 0) y (neg_ℤ y)

-- "Fix i at second i, x 0", and that y. No silence follows: kind 1 has none.
unfoldable pub dearest_fix : (n i : ℕ) → Fix
dearest_fix n i = record { t = i; x = pos 0; y = dearest_y n i; silence = 0 }

-- Fixes 0 to n − 1.
abbrev pub dearest : (n : ℕ) → List Fix
dearest n = each (dearest_fix n) 0 n

-- ---- "Write it, as kind 1 marked never, into a lent buffer, whose later bytes don't change." "3 and 15 apply", by the count and the output's length alone
-- (`writing_dearest_alone` of the record's Laws/First.antt). It is what the writer does with that list: `as_the_writer` of Laws/Writing.antt.
abbrev pub dearest_refusal : (n : ℕ) → List ℕ → Option ℕ
dearest_refusal n out = refusal trail writing_dearest (asked_to_write (dearest n) (length out))

-- The answer, and the output afterwards.
abbrev pub dearest_answer : (n : ℕ) → List ℕ → Answer ℕ
dearest_answer n out = answer (dearest_refusal n out) (record_length trail n)

abbrev pub dearest_marked : (mark n : ℕ) → List ℕ → List ℕ
dearest_marked mark n out = unless (dearest_refusal n out) out (record_bytes trail mark (dearest n) ++ drop (record_length trail n) out)

abbrev pub dearest_written : (n : ℕ) → List ℕ → List ℕ
dearest_written n out = dearest_marked never n out

-- ---- "at tolerance 1, is to count exactly (n − 1)(n − 2)/2": what aging it answers, where it could be written. Every fix stays, so that the output is afterwards
-- what it was, marked 1: `dearest_marked 1`.
abbrev pub dearest_count : (n : ℕ) → List ℕ → Answer ℕ
dearest_count n out = answer (dearest_refusal n out) (greatest_count n)
