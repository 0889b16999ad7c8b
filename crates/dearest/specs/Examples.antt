-- THE DEAREST TRAIL IN NUMBERS. What document 02's item 13 says of some n, written out: the definitions and the code cannot be changed together without these rows.
-- Each line is computed.
use Rattle.std.specs.Prelude.{◌≡◌, refl, List, [], ◌∷◌, ◌++◌, ℕ, ◌+◌, ◌*◌, ◌-◌, ℤ, pos}
use Rattle.std.proofs.Math.Option.{Option, some, none}
use Rattle.distance.specs.Distance.{deviation, allowance}
use Rattle.distance.proofs.Examples.{Computes, minus}
use Rattle.distance.specs.Fix.{last_of}
use Rattle.format.specs.Bytes.{bytes_of, unsigned}
use Rattle.format.specs.Kinds.{trail}
use Rattle.format.specs.Format.{each, fix_to, fix_bytes, all_bytes, header_bytes, record_bytes}
use Rattle.record.specs.Checks.{first, sentence, refusal, writing_dearest}
use Rattle.record.specs.Answers.{Answer, gives, turns_away}
use Rattle.writing.specs.Writing.{asked_to_write}
use Rattle.thinning.specs.Thinning.{sooner, furthest, every, but_last, thin_span, thin, joined, stretches, thin_each, thinning, greatest_count}
use Rattle.dearest.specs.Dearest.{dearest_y, dearest_fix, dearest, dearest_answer, dearest_written, dearest_marked, dearest_count}

-- ---- n and i, and the y of fix i: "n − 1 − i, plus for even i and minus for odd"
abbrev pub y_rows : List ((ℕ × ℕ) × ℤ)
y_rows =
    ((1, 0), pos 0)
    ∷ ((4, 0), pos 3)
    ∷ ((4, 1), minus 2)
    ∷ ((4, 2), pos 1)
    ∷ ((4, 3), pos 0)
    ∷ ((4096, 0), pos 4095)
    ∷ ((4096, 1), minus 4094)
    ∷ ((4096, 4094), pos 1)
    ∷ ((4096, 4095), pos 0)
    ∷ []

pub y_computed : Computes (λ (q : ℕ × ℕ). dearest_y q.0 q.1) y_rows
y_computed = refl

-- ---- n and how many bytes the output has, and the number of the refusal: 3, "The count is 0 or above 4,096.", and then 15, "The output has fewer than 10 + 8n
-- bytes."
abbrev pub refusal_rows : List ((ℕ × ℕ) × Option ℕ)
refusal_rows =
    ((0, 0), some 3)
    ∷ ((0, 100), some 3)
    ∷ ((1, 17), some 15)
    ∷ ((1, 18), none)
    ∷ ((4096, 32777), some 15)
    ∷ ((4096, 32778), none)
    ∷ ((4096, 40000), none)
    ∷ ((4097, 0), some 3)
    ∷ ((4097, 40000), some 3)
    ∷ []

pub refusals_computed : Computes (λ (q : ℕ × ℕ). refusal trail writing_dearest (asked_to_write (dearest q.0) q.1)) refusal_rows
unfolding first sentence each dearest_fix
refusals_computed = refl

-- ---- the record, "kind 1 marked never", over an output of two bytes more, which stay
abbrev pub four_bytes : List ℕ
four_bytes =
    42 ∷ 0 ∷ 0 ∷ 0 ∷ 1 ∷ 0 ∷ 255 ∷ 255 ∷ 4 ∷ 0
    ∷ 0 ∷ 0 ∷ 0 ∷ 0 ∷ 0 ∷ 0 ∷ 3 ∷ 0
    ∷ 1 ∷ 0 ∷ 0 ∷ 0 ∷ 0 ∷ 0 ∷ 254 ∷ 255
    ∷ 2 ∷ 0 ∷ 0 ∷ 0 ∷ 0 ∷ 0 ∷ 1 ∷ 0
    ∷ 3 ∷ 0 ∷ 0 ∷ 0 ∷ 0 ∷ 0 ∷ 0 ∷ 0 ∷ []

abbrev pub of_sevens : (n : ℕ) → List ℕ
of_sevens n = each (λ (i : ℕ). 7) 0 n

pub bytes_computed : (dearest_answer 4 (of_sevens 44) ≡ gives 42) × (dearest_written 4 (of_sevens 44) ≡ four_bytes ++ 7 ∷ 7 ∷ [])
    × (dearest_answer 4 (of_sevens 41) ≡ turns_away 15) × (dearest_written 4 (of_sevens 41) ≡ of_sevens 41)
unfolding first sentence each dearest_fix record_bytes header_bytes all_bytes fix_bytes fix_to bytes_of unsigned
bytes_computed = (refl, refl, refl, refl)

-- ---- n and a tolerance, and the count: "exactly (n − 1)(n − 2)/2" at tolerance 1, and fewer where a span of two inner fixes or more has none that is too far
abbrev pub count_rows : List ((ℕ × ℕ) × ℕ)
count_rows = ((1, 1), 0) ∷ ((2, 1), 0) ∷ ((3, 1), 1) ∷ ((4, 1), 3) ∷ ((10, 1), 36) ∷ ((20, 1), 171) ∷ ((20, 2), 171) ∷ ((20, 4), 170) ∷ ((20, 20), 126) ∷ []

pub counts_computed : Computes (λ (q : ℕ × ℕ). (thinning q.1 (dearest q.0)).count) count_rows
unfolding thinning thin_each thin thin_span furthest sooner every but_last joined stretches last_of each dearest_fix deviation allowance
counts_computed = refl

-- n and the greatest count, also of the longest trail
pub greatest_computed : Computes greatest_count ((1, 0) ∷ (2, 0) ∷ (3, 1) ∷ (4, 3) ∷ (20, 171) ∷ (4095, 8378371) ∷ (4096, 8382465) ∷ [])
greatest_computed = refl

-- ---- 1, 2 AND 3 FIXES in an output of 35 bytes: what writing answers and puts down, and what aging that at 1 answers
-- and leaves. The bytes after the record stay.
abbrev pub three_fixes : List ℕ
three_fixes =
    0 ∷ 0 ∷ 0 ∷ 0 ∷ 0 ∷ 0 ∷ 2 ∷ 0
    ∷ 1 ∷ 0 ∷ 0 ∷ 0 ∷ 0 ∷ 0 ∷ 255 ∷ 255
    ∷ 2 ∷ 0 ∷ 0 ∷ 0 ∷ 0 ∷ 0 ∷ 0 ∷ 0 ∷ []

abbrev pub two_fixes : List ℕ
two_fixes = 0 ∷ 0 ∷ 0 ∷ 0 ∷ 0 ∷ 0 ∷ 1 ∷ 0 ∷ 1 ∷ 0 ∷ 0 ∷ 0 ∷ 0 ∷ 0 ∷ 0 ∷ 0 ∷ []

abbrev pub one_fix : List ℕ
one_fix = 0 ∷ 0 ∷ 0 ∷ 0 ∷ 0 ∷ 0 ∷ 0 ∷ 0 ∷ []

-- a record of n fixes of kind 1 under a mark of these two bytes, and sevens after it up to 35 bytes
abbrev pub with_head : (n low high : ℕ) → List ℕ → List ℕ
with_head n low high l =
    (10 + 8 * n) ∷ 0 ∷ 0 ∷ 0 ∷ 1 ∷ 0 ∷ low ∷ high ∷ n ∷ 0 ∷ (l ++ of_sevens (25 - 8 * n))

pub written_computed :
    Computes {B = Answer ℕ × List ℕ} (λ (n : ℕ). (dearest_answer n (of_sevens 35), dearest_written n (of_sevens 35)))
    ((1, (gives 18, with_head 1 255 255 one_fix))
    ∷ (2, (gives 26, with_head 2 255 255 two_fixes))
    ∷ (3, (gives 34, with_head 3 255 255 three_fixes))
    ∷ (4, (turns_away 15, of_sevens 35))
    ∷ (0, (turns_away 3, of_sevens 35))
    ∷ (4097, (turns_away 3, of_sevens 35))
    ∷ [])
unfolding first sentence each dearest_fix record_bytes header_bytes all_bytes fix_bytes fix_to bytes_of unsigned
written_computed = refl

pub marked_computed :
    Computes {B = Answer ℕ × List ℕ} (λ (n : ℕ). (dearest_count n (of_sevens 35), dearest_marked 1 n (of_sevens 35)))
    ((1, (gives 0, with_head 1 1 0 one_fix))
    ∷ (2, (gives 0, with_head 2 1 0 two_fixes))
    ∷ (3, (gives 1, with_head 3 1 0 three_fixes))
    ∷ (4, (turns_away 15, of_sevens 35))
    ∷ (0, (turns_away 3, of_sevens 35))
    ∷ (4097, (turns_away 3, of_sevens 35))
    ∷ [])
unfolding first sentence each dearest_fix record_bytes header_bytes all_bytes fix_bytes fix_to bytes_of unsigned
marked_computed = refl
