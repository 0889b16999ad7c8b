-- Runs of stores (`sets` of the library): one after another, what stands beyond them, and numbers stored and read again.
use Rattle.std.specs.Prelude.{◌≡◌, refl, List, [], ◌∷◌, ◌++◌, ℕ, zero, suc, ◌+◌, ◌/◌, ◌%◌, ◌<◌, ◌≤◌, length, get_or, drop, set}
use Rattle.std.proofs.Common.{◌∙◌, ap, append-nil, append_assoc, arith, length-append, get_or-set_other, add-one}
use Rattle.std.proofs.lemmas.List.Edits.{sets, sets-eq}
use Rattle.distance.specs.Fix.{Fix}
use Rattle.format.specs.Bytes.{number_at, bytes_of, unsigned}
use Rattle.format.specs.Kinds.{Kind}
use Rattle.format.specs.Format.{record_length, fix_to, header_bytes}
use Rattle.std.proofs.Math.Numerals.{add-two, add-three}

-- a run that follows on a run is one run
pub sets_append : (b : List ℕ) (at : ℕ) (l m : List ℕ) → sets (sets b at l) (at + length l) m ≡ sets b at (l ++ m)
sets_append b at [] m = let e : at + 0 ≡ at = omega arith in rw e refl
sets_append b at (x ∷ l) m = let e : at + suc (length l) ≡ suc at + length l = omega arith in rw e (sets_append (set b at x) (suc at) l m)

-- before a run and beyond it everything is as before
pub sets_before : (b : List ℕ) (at : ℕ) (l : List ℕ) (i : ℕ) → i < at → get_or (sets b at l) i 0 ≡ get_or b i 0
sets_before b at [] i h = refl
sets_before b at (x ∷ l) i h = sets_before (set b at x) (suc at) l i (omega arith) ∙ get_or-set_other b at i x 0 (λ e. omega arith)

pub number_before : (b : List ℕ) (at : ℕ) (l : List ℕ) (i size : ℕ) → i + size ≤ at → number_at (sets b at l) i size ≡ number_at b i size
unfolding number_at
number_before b at l i zero h = refl
number_before b at l i (suc size) h = rw (sets_before b at l i (omega arith), number_before b at l (suc i) size (omega arith)) refl

pub sets_beyond : (b : List ℕ) (at : ℕ) (l : List ℕ) (i : ℕ) → at + length l ≤ i → get_or (sets b at l) i 0 ≡ get_or b i 0
sets_beyond b at [] i h = refl
sets_beyond b at (x ∷ l) i h = sets_beyond (set b at x) (suc at) l i (omega arith) ∙ get_or-set_other b at i x 0 (λ e. omega arith)

pub number_beyond : (b : List ℕ) (at : ℕ) (l : List ℕ) (i size : ℕ) → at + length l ≤ i → number_at (sets b at l) i size ≡ number_at b i size
unfolding number_at
number_beyond b at l i zero h = refl
number_beyond b at l i (suc size) h = rw (sets_beyond b at l i h, number_beyond b at l (suc i) size (omega arith)) refl

-- the whole buffer after a run at its start
pub sets_front : (b l : List ℕ) → length l ≤ length b → sets b 0 l ≡ l ++ drop (length l) b
sets_front b l h = let e : 0 + length l ≡ length l = omega arith in sets-eq l b 0 (omega arith) ∙ rw e refl

pub length_bytes : (size n : ℕ) → length (bytes_of size n) ≡ size
unfolding bytes_of
length_bytes zero n = refl
length_bytes (suc size) n = ap suc (length_bytes size (n / 256))

-- a run at the place where the last one ended
pub sets_then : (b : List ℕ) (at : ℕ) (l : List ℕ) (i : ℕ) (m : List ℕ) → i ≡ at + length l → sets (sets b at l) i m ≡ sets b at (l ++ m)
sets_then b at l i m e = rw e (sets_append b at l m)

-- two and four bytes set one at a time
pub two_stores : (b : List ℕ) (at n : ℕ) → set (set b at (n % 256)) (at + 1) (n / 256 % 256) ≡ sets b at (bytes_of 2 n)
unfolding bytes_of
two_stores b at n = rw add-one refl

pub four_stores : (b : List ℕ) (at n : ℕ)
    → set (set (set (set b at (n % 256)) (at + 1) (n / 256 % 256)) (at + 2) (n / 65536 % 256)) (at + 3) (n / 16777216 % 256) ≡ sets b at (bytes_of 4 n)
unfolding bytes_of
four_stores b at n =
    let e : n / 65536 ≡ n / 256 / 256 = omega arith in
    let f : n / 16777216 ≡ n / 256 / 256 / 256 = omega arith in
    rw (add-one, add-two, add-three, e, f) refl

no_bytes : (n : ℕ) → bytes_of 0 n ≡ []
unfolding bytes_of
no_bytes n = refl

-- a fix, without its silence and with the byte of it, and a record's head, field by field
pub fix_stores : (width : ℕ) (b : List ℕ) (at at_y : ℕ) (f : Fix) → at_y ≡ at + 4 + width
    → sets (sets (sets b at (bytes_of 4 f.t)) (at + 4) (bytes_of width (unsigned width f.x))) at_y (bytes_of width (unsigned width f.y)) ≡ sets b at (fix_to width 0 f)
unfolding fix_to
fix_stores width b at at_y f e =
    let x = bytes_of width (unsigned width f.x) in
    let y = bytes_of width (unsigned width f.y) in
    sets_then (sets b at (bytes_of 4 f.t)) (at + 4) x at_y y (rw (length_bytes width (unsigned width f.x)) e)
    ∙ sets_then b at (bytes_of 4 f.t) (at + 4) (x ++ y) (rw (length_bytes 4 f.t) refl)
    ∙ rw (no_bytes f.silence, append-nil y) refl

pub silence_stored : (width : ℕ) (b : List ℕ) (at : ℕ) (f : Fix) → f.silence < 256
    → set (sets b at (fix_to width 0 f)) (at + 4 + width + width) f.silence ≡ sets b at (fix_to width 1 f)
unfolding fix_to bytes_of
silence_stored width b at f h =
    let x = bytes_of width (unsigned width f.x) in
    let y = bytes_of width (unsigned width f.y) in
    let front = bytes_of 4 f.t ++ (x ++ (y ++ [])) in
    let e : f.silence % 256 ≡ f.silence = omega arith in
    let size : length front ≡ 4 + width + width = rw (length-append (bytes_of 4 f.t) (x ++ (y ++ [])), length-append x (y ++ []), append-nil y, length_bytes 4 f.t, length_bytes width (unsigned width f.x), length_bytes width (unsigned width f.y)) (omega arith) in
    sets_then b at front (at + 4 + width + width) (f.silence ∷ []) (rw size (omega arith))
    ∙ rw (e, append-nil y, append_assoc x y (f.silence ∷ [])) refl

-- at a width of two bytes, where a fix without its silence takes eight
pub length_narrow : (f : Fix) → length (fix_to 2 0 f) ≡ 8
unfolding fix_to
length_narrow f = rw (no_bytes f.silence, append-nil (bytes_of 2 (unsigned 2 f.y)), length-append, length-append, length_bytes, length_bytes, length_bytes) refl

with_byte : (f : Fix) → f.silence < 256 → fix_to 2 0 f ++ f.silence ∷ [] ≡ fix_to 2 1 f
unfolding fix_to bytes_of
with_byte f h = let e : f.silence % 256 ≡ f.silence = omega arith in rw e refl

pub silence_stores : (b : List ℕ) (at : ℕ) (f : Fix) → f.silence < 256 → set (sets b at (fix_to 2 0 f)) (at + 8) f.silence ≡ sets b at (fix_to 2 1 f)
silence_stores b at f h = sets_then b at (fix_to 2 0 f) (at + 8) (f.silence ∷ []) (rw (length_narrow f) refl) ∙ rw (with_byte f h) refl

pub head_stores : (K : Kind) (b : List ℕ) (mark n : ℕ)
    → sets (sets (sets (sets b 0 (bytes_of 4 (record_length K n))) 4 (bytes_of 2 K.code)) 6 (bytes_of 2 mark)) 8 (bytes_of 2 n) ≡ sets b 0 (header_bytes K mark n)
unfolding header_bytes
head_stores K b mark n =
    let l = bytes_of 4 (record_length K n) in
    let c = bytes_of 2 K.code in
    sets_then (sets (sets b 0 l) 4 c) 6 (bytes_of 2 mark) 8 (bytes_of 2 n) (rw (length_bytes 2 mark) refl)
    ∙ sets_then (sets b 0 l) 4 c 6 (bytes_of 2 mark ++ bytes_of 2 n) (rw (length_bytes 2 K.code) refl)
    ∙ sets_then b 0 l 4 (c ++ (bytes_of 2 mark ++ bytes_of 2 n)) (rw (length_bytes 4 (record_length K n)) refl)
