-- THE TRAIL RECORD. Document 01: "Little-endian, length first: length (4 bytes, whole record), kind (2 bytes, 1 = trail), mark (2 bytes:
-- greatest tolerance applied, or 65,535 = never thinned), count n (2 bytes), then n fixes of 8 bytes: time (4), x (2), y (2, two's complement
-- both). Length = 10 + 8n". The numbers that hang on the kind are in Kinds.antt.
use Rattle.std.specs.Prelude.{cond, List, [], ◌∷◌, ◌++◌, map, ℕ, zero, suc, ◌+◌, ◌*◌, ◌≤◌, ltb, length}
use Rattle.std.proofs.lemmas.List.Edits.{sets}
use Rattle.distance.specs.Fix.{Fix}
use Rattle.format.specs.declared.Kind.{Kind as CodeKind}
use Rattle.format.specs.Bytes.{number_at, bytes_of, signed, unsigned}
use Rattle.format.specs.Kinds.{Kind, kinds, with_code, layout}

-- The mark of a record that was never thinned.
abbrev pub never : ℕ
never = 65535

-- ---- reading: what lent bytes say. Those after the record "are ignored".
abbrev pub length_field : List ℕ → ℕ
length_field b = number_at b 0 4

abbrev pub kind_field : List ℕ → ℕ
kind_field b = number_at b 4 2

abbrev pub mark_field : List ℕ → ℕ
mark_field b = number_at b 6 2

abbrev pub count_field : List ℕ → ℕ
count_field b = number_at b 8 2

-- THE KIND OF LENT BYTES: the one whose number stands in their kind field. All that is said of bytes below and in the layers above is said of that kind.
unfoldable pub kind_of : List ℕ → Kind
kind_of b = with_code kinds (kind_field b)

-- What a field of the head says; of bytes that are no whole head, 0.
unfoldable pub of_head : (List ℕ → ℕ) → List ℕ → ℕ
of_head field b = cond (ltb (length b) 10) 0 (field b)

-- The length of a record of n fixes.
abbrev pub record_length : Kind → ℕ → ℕ
record_length K n = 10 + K.size * n

-- Bytes that hold the longest record of every kind.
abbrev pub HoldsLongest : List ℕ → Type 0
HoldsLongest l = (κ : CodeKind) → record_length (layout κ) 4096 ≤ length l

-- The fix that stands at a place of the bytes, its coordinates of so many bytes each and its silence of so many: time, x, y, silence. No bytes say 0.
unfoldable pub fix_from : (width silence_width : ℕ) → List ℕ → (at : ℕ) → Fix
fix_from width silence_width b at = record {
  t = number_at b at 4;
  x = signed width (number_at b (at + 4) width);
  y = signed width (number_at b (at + 4 + width) width);
  silence = number_at b (at + 4 + width + width) silence_width;
}

-- The fix at a position, counted from 0.
unfoldable pub fix_at : Kind → List ℕ → ℕ → Fix
fix_at K b k = fix_from K.width K.silence_width b (record_length K k)

-- f k, f (k + 1) and so on, n of them.
unfoldable pub each {ℓ} : {A : Type ℓ} → (ℕ → A) → (k n : ℕ) → List A
each f k zero = []
each f k (suc n) = f k ∷ each f (suc k) n

-- The record's fixes.
abbrev pub fixes : List ℕ → List Fix
fixes b = each (fix_at (kind_of b) b) 0 (count_field b)

-- ---- writing
-- The bytes of a fix, its coordinates in so many bytes each and its silence in so many: time, x, y, silence.
unfoldable pub fix_to : (width silence_width : ℕ) → Fix → List ℕ
fix_to width silence_width f =
    bytes_of 4 f.t ++ (bytes_of width (unsigned width f.x) ++ (bytes_of width (unsigned width f.y) ++ bytes_of silence_width f.silence))

unfoldable pub fix_bytes : Kind → Fix → List ℕ
fix_bytes K f = fix_to K.width K.silence_width f

unfoldable pub all_bytes : Kind → List Fix → List ℕ
all_bytes K [] = []
all_bytes K (f ∷ l) = fix_bytes K f ++ all_bytes K l

unfoldable pub header_bytes : Kind → (mark n : ℕ) → List ℕ
header_bytes K mark n = bytes_of 4 (record_length K n) ++ (bytes_of 2 K.code ++ (bytes_of 2 mark ++ bytes_of 2 n))

-- The record of a list of fixes and a mark.
unfoldable pub record_bytes : Kind → (mark : ℕ) → List Fix → List ℕ
record_bytes K mark l = header_bytes K mark (length l) ++ all_bytes K l

-- ---- A RECORD WITH EACH FIX CHANGED BY f: the bytes of the new fixes stand in the place of the old ones', and all others are as they were, the head and what
-- follows the record. (`sets b 10 l` puts l over b from byte 10 on, as far as b goes.)
unfoldable pub changed : (Fix → Fix) → List ℕ → List ℕ
changed f b = sets b 10 (all_bytes (kind_of b) (map f (fixes b)))
