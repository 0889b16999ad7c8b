-- THE FORMAT IN NUMBERS: what document 01 writes out, and document 02's items 5 and 8. The definitions and the code cannot be changed together without these
-- rows. Each line is computed.
use Rattle.std.specs.Prelude.{◌≡◌, refl, List, [], ◌∷◌, map, ℕ, take, pos}
use Rattle.distance.proofs.Examples.{minus}
use Rattle.distance.specs.Fix.{Fix, widest}
use Rattle.format.specs.Bytes.{number_at, bytes_of, signed, unsigned}
use Rattle.format.specs.Kinds.{Kind, trail, millimetre_trail, silence_trail, kinds}
use Rattle.format.specs.Format.{never, length_field, kind_field, mark_field, count_field, kind_of, of_head, record_length, fix_from, fix_at, each, fixes, fix_to, fix_bytes, all_bytes, header_bytes, record_bytes}

-- "kind (2 bytes, 1 = trail)", "fixes of 8 bytes", "x (2), y (2", "outside −16,000 to 16,000", "above 32,000", "65,535 = never thinned"
-- of kind 2 "fixes of 12 bytes: time, x, y of 4 bytes each, places −160,000 to 160,000", "up to 60,000 or never, all in millimetres"
-- and of kind 3 "kind 1 with one byte after each fix"
abbrev numbers : Kind → List ℕ
numbers K = K.code ∷ K.size ∷ K.width ∷ K.silence_width ∷ K.limit ∷ K.top ∷ K.per_centimetre ∷ []

pub kind_numbers : (map numbers kinds ≡ (1 ∷ 8 ∷ 2 ∷ 0 ∷ 16000 ∷ 32000 ∷ 1 ∷ []) ∷ (2 ∷ 12 ∷ 4 ∷ 0 ∷ 160000 ∷ 60000 ∷ 10 ∷ []) ∷ (3 ∷ 9 ∷ 2 ∷ 1 ∷ 16000 ∷ 32000 ∷ 1 ∷ []) ∷ []) × (never ≡ 65535)
kind_numbers = (refl, refl)

-- "Length = 10 + 8n, at most 32,778."; "length 10 + 12n", "49,162 bytes"; "its length is 10 + 9n", "36,874 bytes"
pub lengths : (record_length trail 1 ∷ record_length trail 2 ∷ record_length trail 4096 ∷ [] ≡ 18 ∷ 26 ∷ 32778 ∷ [])
    × (record_length millimetre_trail 1 ∷ record_length millimetre_trail 2 ∷ record_length millimetre_trail 4096 ∷ [] ≡ 22 ∷ 34 ∷ 49162 ∷ [])
    × (record_length silence_trail 1 ∷ record_length silence_trail 2 ∷ record_length silence_trail 4096 ∷ [] ≡ 19 ∷ 28 ∷ 36874 ∷ [])
lengths = (refl, refl, refl)

-- "For the 18 bytes `12 00 00 00 01 00 FF FF 01 00 E8 03 00 00 FF FF 02 00` it prints [..] fix 1000 -1 2"
abbrev pub document_bytes : List ℕ
document_bytes = 18 ∷ 0 ∷ 0 ∷ 0 ∷ 1 ∷ 0 ∷ 255 ∷ 255 ∷ 1 ∷ 0 ∷ 232 ∷ 3 ∷ 0 ∷ 0 ∷ 255 ∷ 255 ∷ 2 ∷ 0 ∷ []

abbrev pub document_fixes : List Fix
document_fixes = record { t = 1000; x = minus 1; y = pos 2; silence = 0 } ∷ []

pub head_reads : length_field document_bytes ∷ kind_field document_bytes ∷ mark_field document_bytes ∷ count_field document_bytes ∷ [] ≡ 18 ∷ 1 ∷ 65535 ∷ 1 ∷ []
unfolding number_at
head_reads = refl

-- the count and the mark that a head tells, and 0 of 9 bytes, which are no head
pub head_told : (of_head count_field document_bytes ∷ of_head mark_field document_bytes ∷ [] ≡ 1 ∷ 65535 ∷ [])
    × (of_head count_field (take 9 document_bytes) ∷ of_head mark_field (take 9 document_bytes) ∷ [] ≡ 0 ∷ 0 ∷ [])
unfolding of_head number_at
head_told = (refl, refl)

pub fix_reads : fixes document_bytes ≡ document_fixes
unfolding kind_of each fix_at fix_from number_at signed
fix_reads = refl

pub record_written : record_bytes trail never document_fixes ≡ document_bytes
unfolding record_bytes header_bytes all_bytes fix_bytes fix_to bytes_of unsigned
record_written = refl

-- a record of kind 2: a cart at 160,000 and −160,000 millimetres, and one millimetre from there
abbrev pub millimetre_bytes : List ℕ
millimetre_bytes =
    34 ∷ 0 ∷ 0 ∷ 0 ∷ 2 ∷ 0 ∷ 255 ∷ 255 ∷ 2 ∷ 0 ∷ 0 ∷ 0 ∷ 0 ∷ 0 ∷ 0 ∷ 113 ∷ 2 ∷ 0 ∷ 0 ∷ 143 ∷ 253 ∷ 255
    ∷ 7 ∷ 0 ∷ 0 ∷ 0 ∷ 255 ∷ 112 ∷ 2 ∷ 0 ∷ 255 ∷ 255 ∷ 255 ∷ 255 ∷ []

abbrev pub millimetre_fixes : List Fix
millimetre_fixes = record { t = 0; x = pos 160000; y = minus 160000; silence = 0 } ∷ record { t = 7; x = pos 159999; y = minus 1; silence = 0 } ∷ []

pub millimetres_read : fixes millimetre_bytes ≡ millimetre_fixes
unfolding kind_of each fix_at fix_from number_at signed
millimetres_read = refl

pub millimetres_written : record_bytes millimetre_trail never millimetre_fixes ≡ millimetre_bytes
unfolding record_bytes header_bytes all_bytes fix_bytes fix_to bytes_of unsigned
millimetres_written = refl

-- a record of kind 3: two fixes with a silence between them
abbrev pub silence_bytes : List ℕ
silence_bytes =
    28 ∷ 0 ∷ 0 ∷ 0 ∷ 3 ∷ 0 ∷ 255 ∷ 255 ∷ 2 ∷ 0
    ∷ 0 ∷ 0 ∷ 0 ∷ 0 ∷ 128 ∷ 62 ∷ 128 ∷ 193 ∷ 1
    ∷ 7 ∷ 0 ∷ 0 ∷ 0 ∷ 255 ∷ 255 ∷ 2 ∷ 0 ∷ 0
    ∷ []

abbrev pub silence_fixes : List Fix
silence_fixes = record { t = 0; x = pos 16000; y = minus 16000; silence = 1 } ∷ record { t = 7; x = minus 1; y = pos 2; silence = 0 } ∷ []

pub silence_record_read : fixes silence_bytes ≡ silence_fixes
unfolding kind_of each fix_at fix_from number_at signed
silence_record_read = refl

pub silence_record_written : record_bytes silence_trail never silence_fixes ≡ silence_bytes
unfolding record_bytes header_bytes all_bytes fix_bytes fix_to bytes_of unsigned
silence_record_written = refl

-- the widest place of any kind is kind 2's limit
pub widest_limit : millimetre_trail.limit ≡ widest
widest_limit = refl

-- the kind of each
pub kinds_read : (kind_of document_bytes ≡ trail) × (kind_of millimetre_bytes ≡ millimetre_trail) × (kind_of silence_bytes ≡ silence_trail)
unfolding kind_of number_at
kinds_read = (refl, refl, refl)
