-- THE WRITER IN NUMBERS. Fixes, the length of an output, and what document 01 and document 02's items 5 and 8 say of them: the definitions and the code cannot be
-- changed together without these rows. Each line is computed.
use Rattle.std.specs.Prelude.{◌≡◌, refl, List, [], ◌∷◌, ◌++◌, ℕ, take, ℤ, pos, Ok, Err}
use Rattle.std.proofs.Math.Option.{Option, some, none}
use Rattle.distance.proofs.Examples.{Computes, minus}
use Rattle.distance.specs.Fix.{Fix, last_of}
use Rattle.format.specs.Bytes.{bytes_of, unsigned}
use Rattle.format.specs.Kinds.{Kind, trail, millimetre_trail, silence_trail}
use Rattle.format.specs.Format.{each, fix_to, fix_bytes, all_bytes, header_bytes, record_bytes}
use Rattle.format.specs.Examples.{document_bytes, document_fixes, millimetre_bytes, millimetre_fixes, silence_bytes, silence_fixes}
use Rattle.record.specs.Checks.{first, sentence, some_outside, some_early_after, some_early, some_other_silence, of_ends, refusal, writing}
use Rattle.record.specs.Answers.{gives, turns_away}
use Rattle.writing.specs.Writing.{asked_to_write, write_answer, written, in_centimetres, in_millimetres, with_silences, columns}
use Rattle.writing.specs.Answers.{wrote, wrote_by}
use Rattle.record.specs.declared.refusal.Refusal.TheVariants.{ShortOutput}

abbrev pub a_fix : (t : ℕ) (x y : ℤ) → Fix
a_fix t x y = record { t = t; x = x; y = y; silence = 0 }

-- a fix for each second
abbrev pub a_second_each : ℕ → Fix
a_second_each t = a_fix t (pos 0) (pos 0)

-- A list of fixes and how many bytes the output has, and the number of the refusal.
abbrev pub write_rows : List ((List Fix × ℕ) × Option ℕ)
write_rows =
    -- 3. "The count is 0 or above 4,096.": no fix; 4,096 fixes are accepted, 4,097 are not
    (([], 100), some 3)
    ∷ ((each a_second_each 0 4096, 32778), none)
    ∷ ((each a_second_each 0 4097, 40000), some 3)
    -- 7. "Some x or y is outside −16,000 to 16,000."
    ∷ ((a_fix 5 (pos 16000) (minus 16000) ∷ [], 18), none)
    ∷ ((a_fix 5 (pos 16001) (pos 0) ∷ [], 18), some 7)
    ∷ ((a_fix 5 (minus 16001) (pos 0) ∷ [], 18), some 7)
    ∷ ((a_fix 5 (pos 0) (pos 16001) ∷ [], 18), some 7)
    ∷ ((a_fix 5 (pos 0) (minus 16001) ∷ [], 18), some 7)
    -- 8. "Some fix's time isn't later than the time before it."
    ∷ ((a_fix 5 (pos 0) (pos 0) ∷ a_fix 6 (pos 0) (pos 0) ∷ [], 26), none)
    ∷ ((a_fix 5 (pos 0) (pos 0) ∷ a_fix 5 (pos 0) (pos 0) ∷ [], 26), some 8)
    ∷ ((a_fix 5 (pos 0) (pos 0) ∷ a_fix 4 (pos 0) (pos 0) ∷ [], 26), some 8)
    -- 9. "The last time less the first is above 65,535."
    ∷ ((a_fix 5 (pos 0) (pos 0) ∷ a_fix 65540 (pos 0) (pos 0) ∷ [], 26), none)
    ∷ ((a_fix 5 (pos 0) (pos 0) ∷ a_fix 65541 (pos 0) (pos 0) ∷ [], 26), some 9)
    -- 15. "The output has fewer than 10 + 8n bytes."
    ∷ ((a_fix 5 (pos 0) (pos 0) ∷ [], 18), none)
    ∷ ((a_fix 5 (pos 0) (pos 0) ∷ [], 17), some 15)
    ∷ ((a_fix 5 (pos 0) (pos 0) ∷ a_fix 6 (pos 0) (pos 0) ∷ [], 25), some 15)
    -- the first that holds is said: 3 and 15; 7 and 8; 8 and 9; 9 and 15
    ∷ (([], 0), some 3)
    ∷ ((a_fix 5 (pos 0) (pos 0) ∷ a_fix 5 (pos 16001) (pos 0) ∷ [], 26), some 7)
    ∷ ((a_fix 5 (pos 0) (pos 0) ∷ a_fix 70000 (pos 0) (pos 0) ∷ a_fix 69999 (pos 0) (pos 0) ∷ [], 34), some 8)
    ∷ ((a_fix 5 (pos 0) (pos 0) ∷ a_fix 65541 (pos 0) (pos 0) ∷ [], 25), some 9)
    ∷ []

-- All rows in one statement.
pub writer_says : Computes (λ (r : List Fix × ℕ). refusal trail writing (asked_to_write r.0 r.1)) write_rows
unfolding first sentence some_outside some_early_after some_early some_other_silence last_of of_ends each
writer_says = refl

-- .. and of kind 2, by its own limits
abbrev pub millimetre_write_rows : List ((List Fix × ℕ) × Option ℕ)
millimetre_write_rows =
    -- 7. "places −160,000 to 160,000"
    ((a_fix 5 (pos 160000) (minus 160000) ∷ [], 22), none)
    ∷ ((a_fix 5 (pos 160001) (pos 0) ∷ [], 22), some 7)
    ∷ ((a_fix 5 (pos 0) (minus 160001) ∷ [], 22), some 7)
    -- 15. "length 10 + 12n": 4,096 fixes take 49,162 bytes
    ∷ ((a_fix 5 (pos 16001) (pos 0) ∷ [], 21), some 15)
    ∷ ((each a_second_each 0 4096, 49162), none)
    ∷ ((each a_second_each 0 4096, 49161), some 15)
    ∷ []

pub millimetre_writer_says : Computes (λ (r : List Fix × ℕ). refusal millimetre_trail writing (asked_to_write r.0 r.1)) millimetre_write_rows
unfolding first sentence some_outside some_early_after some_early some_other_silence last_of of_ends each
millimetre_writer_says = refl

-- .. and of kind 3: a fix at second t that says s of silence
abbrev pub saying : (t s : ℕ) → Fix
saying t s = record { t = t; x = pos 0; y = pos 0; silence = s }

abbrev pub silence_write_rows : List ((List Fix × ℕ) × Option ℕ)
silence_write_rows =
    -- 20. "a silence byte is neither 0 nor 1 or the last fix has 1"
    ((saying 5 1 ∷ saying 6 0 ∷ [], 28), none)
    ∷ ((saying 5 2 ∷ saying 6 0 ∷ [], 28), some 20)
    ∷ ((saying 5 255 ∷ saying 6 0 ∷ [], 28), some 20)
    ∷ ((saying 5 0 ∷ saying 6 1 ∷ [], 28), some 20)
    ∷ ((saying 5 1 ∷ [], 19), some 20)
    -- "directly after 9": 9 is said before it; and 15 after it
    ∷ ((saying 5 2 ∷ saying 65541 0 ∷ [], 28), some 9)
    ∷ ((saying 5 2 ∷ saying 6 0 ∷ [], 27), some 20)
    -- 7. kind 1's limits
    ∷ ((a_fix 5 (pos 16000) (minus 16000) ∷ [], 19), none)
    ∷ ((a_fix 5 (pos 16001) (pos 0) ∷ [], 19), some 7)
    -- 15. "its length is 10 + 9n": 4,096 fixes take 36,874 bytes
    ∷ ((saying 5 1 ∷ saying 6 0 ∷ [], 27), some 15)
    ∷ ((each a_second_each 0 4096, 36874), none)
    ∷ ((each a_second_each 0 4096, 36873), some 15)
    ∷ []

pub silence_writer_says : Computes (λ (r : List Fix × ℕ). refusal silence_trail writing (asked_to_write r.0 r.1)) silence_write_rows
unfolding first sentence some_outside some_early_after some_early some_other_silence last_of of_ends each
silence_writer_says = refl

-- ---- (1000, −1, 2) into an output of 20 bytes: document 01's 18 bytes, and the two after them as they were; and into one of 17, which stays
abbrev pub twenty : List ℕ
twenty = 1 ∷ 2 ∷ 3 ∷ 4 ∷ 5 ∷ 6 ∷ 7 ∷ 8 ∷ 9 ∷ 10 ∷ 11 ∷ 12 ∷ 13 ∷ 14 ∷ 15 ∷ 16 ∷ 17 ∷ 18 ∷ 19 ∷ 20 ∷ []

abbrev pub seventeen : List ℕ
seventeen = take 17 twenty

pub one_written : (write_answer trail document_fixes twenty ≡ gives 18)
    × (written trail document_fixes twenty ≡ document_bytes ++ 19 ∷ 20 ∷ [])
    × (write_answer trail document_fixes seventeen ≡ turns_away 15)
    × (written trail document_fixes seventeen ≡ seventeen)
unfolding first sentence some_outside some_early_after some_early some_other_silence last_of of_ends record_bytes header_bytes all_bytes fix_bytes fix_to bytes_of unsigned
one_written = (refl, refl, refl, refl)

-- two fixes in millimetres into an output of 35 bytes: their 34 bytes, and the one after them as it was; and into one of 33, which stays
abbrev pub thirty_five : List ℕ
thirty_five = twenty ++ take 15 twenty

abbrev pub thirty_three : List ℕ
thirty_three = take 33 thirty_five

pub two_written : (write_answer millimetre_trail millimetre_fixes thirty_five ≡ gives 34)
    × (written millimetre_trail millimetre_fixes thirty_five ≡ millimetre_bytes ++ 15 ∷ [])
    × (write_answer millimetre_trail millimetre_fixes thirty_three ≡ turns_away 15)
    × (written millimetre_trail millimetre_fixes thirty_three ≡ thirty_three)
unfolding first sentence some_outside some_early_after some_early some_other_silence last_of of_ends record_bytes header_bytes all_bytes fix_bytes fix_to bytes_of unsigned
two_written = (refl, refl, refl, refl)

-- two fixes with a silence between them, into 30 bytes: their 28 bytes, and the two after them as they were; and into 27, which stay
abbrev pub thirty : List ℕ
thirty = take 30 thirty_five

pub silence_written : (write_answer silence_trail silence_fixes thirty ≡ gives 28)
    × (written silence_trail silence_fixes thirty ≡ silence_bytes ++ 9 ∷ 10 ∷ [])
    × (write_answer silence_trail silence_fixes (take 27 thirty) ≡ turns_away 15)
    × (written silence_trail silence_fixes (take 27 thirty) ≡ take 27 thirty)
unfolding first sentence some_outside some_early_after some_early some_other_silence last_of of_ends record_bytes header_bytes all_bytes fix_bytes fix_to bytes_of unsigned
silence_written = (refl, refl, refl, refl)

-- ---- columns of 4 times, 3 x, 4 y and 2 silences: the third fix has no silence, so of kind 3 there are two, each with its own; of kind 1 there are three, and
-- the column of silences isn't looked at
abbrev pub columns_of : Kind → List Fix
columns_of K = columns K (5 ∷ 6 ∷ 7 ∷ 8 ∷ []) (pos 1 ∷ pos 2 ∷ pos 3 ∷ []) (pos 4 ∷ pos 5 ∷ pos 6 ∷ pos 7 ∷ []) (1 ∷ 0 ∷ [])

pub columns_computed : (columns_of silence_trail ≡ record { t = 5; x = pos 1; y = pos 4; silence = 1 } ∷ record { t = 6; x = pos 2; y = pos 5; silence = 0 } ∷ [])
    × (columns_of trail ≡ a_fix 5 (pos 1) (pos 4) ∷ a_fix 6 (pos 2) (pos 5) ∷ a_fix 7 (pos 3) (pos 6) ∷ [])
unfolding each
columns_computed = (refl, refl)

-- ---- WHAT THE STRUCTS AND THE RESULT OF THE CODE SAY: (5, −1, 2) in each struct, and an answer
pub structs_computed :
    (in_centimetres (record { t = record { 0 = 5 }; x = record { 0 = minus 1 }; y = record { 0 = pos 2 } })
    ≡ record { t = 5; x = minus 1; y = pos 2; silence = 0 })
    × (in_millimetres (record { t = record { 0 = 5 }; x = record { 0 = minus 1 }; y = record { 0 = pos 2 } })
    ≡ record { t = 5; x = minus 1; y = pos 2; silence = 0 })
    × (with_silences
    (record { t = record { 0 = 5 }; x = record { 0 = minus 1 }; y = record { 0 = pos 2 }; silence = record { 0 = 1 } })
    ≡ record { t = 5; x = minus 1; y = pos 2; silence = 1 })
structs_computed = (refl, refl, refl)

pub answers_computed : Computes wrote ((Ok 18, gives 18) ∷ (Err ShortOutput, turns_away 15) ∷ [])
answers_computed = refl

-- .. and of a caller whose errors are numbers, one of which no check has
pub own_answers_computed :
    Computes (wrote_by (λ (k : ℕ). k)) ((Ok 18, gives 18) ∷ (Err 15, turns_away 15) ∷ (Err 77, turns_away 77) ∷ [])
own_answers_computed = refl
