-- THE LISTING IN NUMBERS. Bytes, and the text that document 01 prints for them, and document 02, each line in words above it (a `/` for its end) and in ASCII: the
-- definitions and the code cannot be changed together without these rows. Each is computed.
use Rattle.std.specs.Prelude.{◌≡◌, refl, cond, List, [], ◌∷◌, ℕ, ◌+◌, ◌*◌, ◌/◌, ◌%◌, ltb, length}
use Rattle.distance.proofs.Examples.{Computes, minus}
use Rattle.distance.specs.Fix.{widest, last_of}
use Rattle.format.specs.Bytes.{number_at, signed}
use Rattle.format.specs.Format.{never, kind_of, fix_from, fix_at, each}
use Rattle.format.specs.Examples.{document_bytes, millimetre_bytes, silence_bytes}
use Rattle.record.specs.Checks.{first, sentence, some_outside, some_early_after, some_early, some_other_silence, of_ends}
use Rattle.record.proofs.Examples.{read_rows, on_refused}
use Rattle.text.specs.Text.{silence_word, end_line, digits, decimal, integer, silence_text, fix_line, fix_lines, mark_text, first_line, record_text, refusal_line, text}

abbrev pub text_rows : List (List ℕ × List ℕ)
text_rows =
    -- trail 1 never / fix 1000 -1 2 / end
    (document_bytes, 116 ∷ 114 ∷ 97 ∷ 105 ∷ 108 ∷ 32 ∷ 49 ∷ 32 ∷ 110 ∷ 101 ∷ 118 ∷ 101 ∷ 114 ∷ 10 ∷ 102 ∷ 105 ∷ 120 ∷ 32 ∷ 49 ∷ 48 ∷ 48 ∷ 48 ∷ 32 ∷ 45 ∷ 49 ∷ 32 ∷ 50 ∷ 10 ∷ 101 ∷ 110 ∷ 100 ∷ 10 ∷ [])
    -- trail 1 25 / fix 1000 -1 2 / end
    ∷ (18 ∷ 0 ∷ 0 ∷ 0 ∷ 1 ∷ 0 ∷ 25 ∷ 0 ∷ 1 ∷ 0 ∷ 232 ∷ 3 ∷ 0 ∷ 0 ∷ 255 ∷ 255 ∷ 2 ∷ 0 ∷ [], 116 ∷ 114 ∷ 97 ∷ 105 ∷ 108 ∷ 32 ∷ 49 ∷ 32 ∷ 50 ∷ 53 ∷ 10 ∷ 102 ∷ 105 ∷ 120 ∷ 32 ∷ 49 ∷ 48 ∷ 48 ∷ 48 ∷ 32 ∷ 45 ∷ 49 ∷ 32 ∷ 50 ∷ 10 ∷ 101 ∷ 110 ∷ 100 ∷ 10 ∷ [])
    -- trail 2 0 / fix 0 16000 -16000 / fix 65535 0 -10 / end
    ∷ (26 ∷ 0 ∷ 0 ∷ 0 ∷ 1 ∷ 0 ∷ 0 ∷ 0 ∷ 2 ∷ 0 ∷ 0 ∷ 0 ∷ 0 ∷ 0 ∷ 128 ∷ 62 ∷ 128 ∷ 193 ∷ 255 ∷ 255 ∷ 0 ∷ 0 ∷ 0 ∷ 0 ∷ 246 ∷ 255 ∷ [], 116 ∷ 114 ∷ 97 ∷ 105 ∷ 108 ∷ 32 ∷ 50 ∷ 32 ∷ 48 ∷ 10 ∷ 102 ∷ 105 ∷ 120 ∷ 32 ∷ 48 ∷ 32 ∷ 49 ∷ 54 ∷ 48 ∷ 48 ∷ 48 ∷ 32 ∷ 45 ∷ 49 ∷ 54 ∷ 48 ∷ 48 ∷ 48 ∷ 10 ∷ 102 ∷ 105 ∷ 120 ∷ 32 ∷ 54 ∷ 53 ∷ 53 ∷ 51 ∷ 53 ∷ 32 ∷ 48 ∷ 32 ∷ 45 ∷ 49 ∷ 48 ∷ 10 ∷ 101 ∷ 110 ∷ 100 ∷ 10 ∷ [])
    -- trail 2 never / fix 0 160000 -160000 / fix 7 159999 -1 / end: a record of kind 2, in millimetres
    ∷ (millimetre_bytes, 116 ∷ 114 ∷ 97 ∷ 105 ∷ 108 ∷ 32 ∷ 50 ∷ 32 ∷ 110 ∷ 101 ∷ 118 ∷ 101 ∷ 114 ∷ 10 ∷ 102 ∷ 105 ∷ 120 ∷ 32 ∷ 48 ∷ 32 ∷ 49 ∷ 54 ∷ 48 ∷ 48 ∷ 48 ∷ 48 ∷ 32 ∷ 45 ∷ 49 ∷ 54 ∷ 48 ∷ 48 ∷ 48 ∷ 48 ∷ 10 ∷ 102 ∷ 105 ∷ 120 ∷ 32 ∷ 55 ∷ 32 ∷ 49 ∷ 53 ∷ 57 ∷ 57 ∷ 57 ∷ 57 ∷ 32 ∷ 45 ∷ 49 ∷ 10 ∷ 101 ∷ 110 ∷ 100 ∷ 10 ∷ [])
    -- trail 2 never / fix 0 16000 -16000 silence / fix 7 -1 2 / end: a record of kind 3, with a silence between its two fixes
    ∷ (silence_bytes, 116 ∷ 114 ∷ 97 ∷ 105 ∷ 108 ∷ 32 ∷ 50 ∷ 32 ∷ 110 ∷ 101 ∷ 118 ∷ 101 ∷ 114 ∷ 10 ∷ 102 ∷ 105 ∷ 120 ∷ 32 ∷ 48 ∷ 32 ∷ 49 ∷ 54 ∷ 48 ∷ 48 ∷ 48 ∷ 32 ∷ 45 ∷ 49 ∷ 54 ∷ 48 ∷ 48 ∷ 48 ∷ 32 ∷ 115 ∷ 105 ∷ 108 ∷ 101 ∷ 110 ∷ 99 ∷ 101 ∷ 10 ∷ 102 ∷ 105 ∷ 120 ∷ 32 ∷ 55 ∷ 32 ∷ 45 ∷ 49 ∷ 32 ∷ 50 ∷ 10 ∷ 101 ∷ 110 ∷ 100 ∷ 10 ∷ [])
    -- refused 1 / to refused 9 /, and refused 20 /: a digit is 48 and its number
    ∷ on_refused (λ b k. (b, 114 ∷ 101 ∷ 102 ∷ 117 ∷ 115 ∷ 101 ∷ 100 ∷ 32 ∷ cond (ltb k 10) ((48 + k) ∷ 10 ∷ []) ((48 + k / 10) ∷ (48 + k % 10) ∷ 10 ∷ []))) read_rows

-- All rows in one statement.
pub listing_prints : Computes text text_rows
unfolding kind_of text record_text refusal_line first_line mark_text fix_lines fix_line silence_text integer decimal digits first sentence some_outside some_early_after some_early some_other_silence last_of of_ends fix_from fix_at each number_at signed
listing_prints = refl

-- ROOM FOR THE TEXT of a record of any kind: "trail 4096 never" and its end; 4,096 lines of "fix ", a time of 32 bits, which has ten digits at most, two coordinates
-- with a space before each, which take seven bytes at most, as "-160000" does, since no kind's places are further from 0 than the widest, and " silence"; and "end"
-- and its end. No text is as long, since no kind has both seven bytes for a coordinate and silences: this is a bound.
pub text_room : (length (first_line 4096 never) ≡ 17)
    × (length (integer (minus widest)) ≡ 7)
    × (length silence_word ≡ 8)
    × (length end_line ≡ 4)
    × (17 + 4096 * (4 + 10 + (1 + 7) + (1 + 7) + 8 + 1) + 4 ≡ 159765)
unfolding first_line mark_text integer decimal digits
text_room = (refl, refl, refl, refl, refl)
