-- ROUNDING, MIRRORING, MOVING, SCALING AND MEASURING IN NUMBERS: what document 02's items 1, 4 and 8 say of fractions, coordinates, times and distances. The
-- definitions and the code cannot be changed together without these rows. Each line is computed.
use Rattle.std.specs.Prelude.{◌≡◌, refl, T, Bool, true, false, ℕ, ◌+◌, ◌*◌, ltb, leb, ℤ, pos, neg_ℤ}
use Rattle.std.proofs.Common.{ltb→lt}
use mathlib.Core.List.{List, [], ◌∷◌, map, head-eq_of_cons-eq, tail-eq_of_cons-eq}
use Rattle.distance.specs.declared.words.Words.{Words}
use Rattle.distance.specs.Fix.{Fix, widest}
use Rattle.distance.specs.Distance.{deviation, allowance}
use Rattle.distance.specs.Span.{one_word}
use Rattle.distance.specs.Words.{value}
use Rattle.distance.specs.Rounding.{half_up, with_sign_of, rounded}
use Rattle.distance.specs.Mirror.{mirrored}
use Rattle.distance.specs.Clock.{moved, Stays}
use Rattle.distance.specs.Box.{box_with}
use Rattle.distance.specs.Tenfold.{tenfold_fix, tenfold_place, tenfold_box}
use Rattle.distance.proofs.Laws.Clock.{computed_stays}

-- Of what stands first in each row, `f` gives what stands second. It stands in the lowest layer for the rows of all.
abbrev pub Computes : {A B : Type 0} → (f : A → B) → List (A × B) → Type 0
Computes {A} {B} f rows = map (λ (r : A × B). f r.0) rows ≡ map (λ (r : A × B). r.1) rows

-- Taken apart: each row's first gives its second, and so do the rows after it.
pub computes_gives : {A B : Type 0} (f : A → B) (a : A) (b : B) (rows : List (A × B)) → Computes f ((a, b) ∷ rows) → (f a ≡ b) × Computes f rows
computes_gives f a b rows h = (head-eq_of_cons-eq h, tail-eq_of_cons-eq h)

abbrev pub minus : ℕ → ℤ
minus n = neg_ℤ (pos n)

-- n and d, and n/d rounded
abbrev pub rounding_rows : List ((ℤ × ℤ) × ℤ)
rounding_rows =
    -- "−0.5 becomes −1", and 0.5 becomes 1
    ((minus 1, pos 2), minus 1)
    ∷ ((pos 1, pos 2), pos 1)
    -- −1.5 and 1.5
    ∷ ((minus 3, pos 2), minus 2)
    ∷ ((pos 3, pos 2), pos 2)
    -- "Trail k then gives 1 and −1", and a thousandth of a second before and after
    ∷ ((pos 5000, pos 10000), pos 1)
    ∷ ((minus 5000, pos 10000), minus 1)
    ∷ ((minus 4995, pos 10000), pos 0)
    ∷ ((minus 5005, pos 10000), minus 1)
    -- thirds, whole numbers, and 0
    ∷ ((minus 4, pos 3), minus 1)
    ∷ ((minus 5, pos 3), minus 2)
    ∷ ((minus 6, pos 3), minus 2)
    ∷ ((pos 16000, pos 1), pos 16000)
    ∷ ((pos 0, pos 10000), pos 0)
    -- half a centimetre from the hall's walls
    ∷ ((minus 31999, pos 2), minus 16000)
    ∷ ((pos 31999, pos 2), pos 16000)
    ∷ []

pub rounding_computed : Computes (λ (r : ℤ × ℤ). rounded r.0 r.1) rounding_rows
unfolding rounded with_sign_of half_up
rounding_computed = refl

-- A coordinate and its mirror image.
abbrev pub mirror_rows : List (ℤ × ℤ)
mirror_rows = (pos 5, minus 5) ∷ (minus 16000, pos 16000) ∷ (pos 0, pos 0) ∷ []

pub mirror_computed : Computes (mirrored true) mirror_rows × Computes (mirrored false) ((pos 5, pos 5) ∷ (minus 5, minus 5) ∷ [])
mirror_computed = (refl, refl)

-- A clock moved by so many seconds, a second, and the second moved.
abbrev pub clock_rows : List ((ℤ × ℕ) × ℕ)
clock_rows = ((pos 5, 1000), 1005) ∷ ((minus 5, 1000), 995) ∷ ((pos 0, 1000), 1000) ∷ ((pos 4294967295, 0), 4294967295) ∷ ((minus 4294967295, 4294967295), 0) ∷ []

pub clock_computed : Computes (λ (r : ℤ × ℕ). moved r.0 r.1) clock_rows
clock_computed = refl

-- The first second of 32 bits can be moved to the last, and the last to the first.
pub clock_ends : Stays (pos 4294967295) 0 × Stays (minus 4294967295) 4294967295
clock_ends = (computed_stays (pos 4294967295) 0 tt tt, computed_stays (minus 4294967295) 4294967295 tt tt)

-- ---- centimetres and millimetres: a fix, a place over 3, and a box, each in the one unit and in the other
pub tenfold_computed : (tenfold_fix (record { t = 1000; x = minus 16000; y = pos 7; silence = 1 }) ≡ record { t = 1000; x = minus 160000; y = pos 70; silence = 1 })
    × (tenfold_place (record { x = pos 5; y = minus 1; d = pos 3 }) ≡ record { x = pos 50; y = minus 10; d = pos 3 })
    × (tenfold_box (box_with (minus 1) (pos 2) (minus 3) (pos 16000)) ≡ box_with (minus 10) (pos 20) (minus 30) (pos 160000))
tenfold_computed = (refl, refl, refl)

-- document 01's trail c, (0,0,0) (10,30,40) (20,0,0): its inner fix is 50 centimetres off, and 500 millimetres. Nx² + Ny² and e²·D² are a hundred times as much.
abbrev off_by : (t x y : ℕ) → Fix
off_by t x y = record { t = t; x = pos x; y = pos y; silence = 0 }

pub tenfold_measured : deviation (off_by 0 0 0) (off_by 10 30 40) (off_by 20 0 0) ∷ allowance 50 (off_by 0 0 0) (off_by 20 0 0)
    ∷ deviation (tenfold_fix (off_by 0 0 0)) (tenfold_fix (off_by 10 30 40)) (tenfold_fix (off_by 20 0 0)) ∷ allowance 500 (tenfold_fix (off_by 0 0 0)) (tenfold_fix (off_by 20 0 0)) ∷ []
    ≡ 1000000 ∷ 1000000 ∷ 100000000 ∷ 100000000 ∷ []
unfolding deviation allowance
tenfold_measured = refl

-- ---- Nx² + Ny² and its words
abbrev corner : ℕ → ℕ → Fix
corner t limit = record { t = t; x = pos limit; y = pos limit; silence = 0 }

abbrev opposite_corner : ℕ → ℕ → Fix
opposite_corner t limit = record { t = t; x = minus limit; y = minus limit; silence = 0 }

-- Of a place limit and a span's seconds: a cart that stands in one corner of the hall and is once in the opposite one, as far from its chord as a fix can be. At
-- document 01's limit the sum is below 2⁶³; at item 8's it needs two words, but not in spans of 9,490 seconds and less.
abbrev pub deviation_rows : List ((ℕ × ℕ) × ℕ)
deviation_rows =
    ((16000, 65535), 8795824588800000000)
    ∷ ((160000, 65535), 879582458880000000000)
    ∷ ((160000, 9490), 18444308480000000000)
    ∷ []

pub deviation_computed : Computes (λ (r : ℕ × ℕ). deviation (opposite_corner 0 r.0) (corner 1 r.0) (opposite_corner r.1 r.0)) deviation_rows
unfolding deviation
deviation_computed = refl

-- ONE WORD OR TWO: the square of `one_word` is below 2⁶³ and the next number's isn't. By 2·limit·D, every span of document 01's limit takes one word, and of item
-- 8's those of up to 9,490 seconds.
pub one_word_computed : (ltb (one_word * one_word) 9223372036854775808 ∷ ltb ((one_word + 1) * (one_word + 1)) 9223372036854775808 ∷ [] ≡ true ∷ false ∷ [])
    × (leb (2 * 16000 * 65535) one_word ∷ leb (2 * widest * 9490) one_word ∷ leb (2 * widest * 9491) one_word ∷ [] ≡ true ∷ true ∷ false ∷ [])
one_word_computed = (refl, refl)

abbrev pub words : (high low : ℕ) → T (ltb low 4294967296) → Words
words high low normal = record { high = high; low = low; normal = ltb→lt low 4294967296 normal }

-- Two words, and the number that they are.
abbrev pub words_rows : List (Words × ℕ)
words_rows =
    (words 0 4294967295 tt, 4294967295)
    ∷ (words 1 0 tt, 4294967296)
    -- the greatest sum of all, above
    ∷ (words 204793750047 2936537088 tt, 879582458880000000000)
    ∷ []

pub words_computed : Computes value words_rows
words_computed = refl

-- The first number is below the second: two that differ only in the high word, two that differ only in the low one, two whose words differ the other way round,
-- and equals.
abbrev pub below_rows : List ((Words × Words) × Bool)
below_rows =
    ((words 2 7 tt, words 3 7 tt), true)
    ∷ ((words 3 7 tt, words 3 8 tt), true)
    ∷ ((words 2 8 tt, words 3 7 tt), true)
    ∷ ((words 3 7 tt, words 2 8 tt), false)
    ∷ ((words 3 7 tt, words 3 7 tt), false)
    ∷ []

pub below_computed : Computes (λ (r : Words × Words). ltb (value r.0) (value r.1)) below_rows
below_computed = refl
