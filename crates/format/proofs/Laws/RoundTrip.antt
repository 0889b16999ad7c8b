-- THE ROUND TRIP. What is written is read again: the fixes, the mark and the count. And an accepted record, written again with its own mark, is its
-- own bytes.
use Rattle.std.specs.Prelude.{◌≡◌, Bool, true, false, cond, ltb, get_or, take, drop, ℤ, pos, negsuc, neg_ℤ, ◌≤ℤ◌, set}
use Rattle.std.proofs.Math.Path.{refl, sym}
use Rattle.std.proofs.Common.{◌∙◌, ap, pow-suc, add-one, drop-cons, take-add, drop-drop, ltb-true, length-take, length-drop}
use mathlib.Core.List.{List, [], ◌∷◌, ◌++◌, map, append_assoc}
use Prim.Native.Nat.{ℕ, zero, suc, ◌+◌, ◌*◌, ◌-◌, ◌/◌, ◌%◌, ◌^◌, ◌<◌, ◌≤◌}
use Rattle.std.proofs.Math.Nat.{mul-zero, mul-suc}
use native.Mathlib.Omega.{arith}
use Rattle.std.proofs.Math.ListN.{length, length-append}
use Rattle.std.proofs.Math.Seq.{get_or-append_seam}
use Rattle.distance.specs.Fix.{Fix, Bounded}
use Rattle.distance.specs.Laws.All.{All, all_none, all_more}
use Rattle.distance.proofs.Laws.All.{all_append, all_map}
use Rattle.distance.specs.Integers.Differences.{diffs}
use Rattle.distance.specs.Integers.Tests.{Test, holds, fails, test}
use Rattle.format.specs.declared.Kind.{Kind as CodeKind}
use Rattle.format.specs.Bytes.{InBytes, number_at, bytes_of, signed, unsigned}
use Rattle.format.specs.Kinds.{Kind, layout}
use Rattle.format.specs.Format.{kind_of, record_length, each, fix_at, fix_from, fix_to, fix_bytes, all_bytes, header_bytes, record_bytes, length_field, kind_field, mark_field, count_field, fixes}
use Rattle.format.proofs.Laws.Numbers.{even, signed_low, signed_high, fix_parts, false_true}
use Rattle.format.proofs.Laws.Kinds.{IsKind, is_kind, kind_is, kind_of_is, one_more, longest}
use Rattle.format.proofs.Laws.Each.{length_each, each_all}
use Rattle.format.proofs.Laws.Stores.{length_bytes, sets_then}
use Rattle.format.proofs.Laws.Layout.{length_fix_bytes, length_header}
use Rattle.std.proofs.lemmas.List.Edits.{sets}

-- ---- a number written and read again, wherever it stands
behind : (p : List ℕ) (x : ℕ) (l : List ℕ) → p ++ x ∷ l ≡ (p ++ x ∷ []) ++ l
behind p x l = sym (append_assoc p (x ∷ []) l)

read_bytes : (p r : List ℕ) (size n : ℕ) → n < 256 ^ size → number_at (p ++ (bytes_of size n ++ r)) (length p) size ≡ n
unfolding number_at bytes_of
read_bytes p r zero n h = omega arith
read_bytes p r (suc size) n h =
    let q = p ++ n % 256 ∷ [] in
    let e : p ++ n % 256 ∷ (bytes_of size (n / 256) ++ r) ≡ q ++ (bytes_of size (n / 256) ++ r) = behind p (n % 256) (bytes_of size (n / 256) ++ r) in
    let len : length q ≡ suc (length p) = length-append p (n % 256 ∷ []) ∙ add-one (length p) in
    let small : n < 256 ^ size * 256 = rw (pow-suc 256 size) at h in
    let rest = read_bytes q r size (n / 256) (omega arith) in
    rw (get_or-append_seam p (n % 256) (bytes_of size (n / 256) ++ r) 0, ap (λ (l : List ℕ). number_at l (suc (length p)) size) e, ← len, rest) (omega arith)

-- at a place that is known otherwise
read_at : (b p r : List ℕ) (at size n : ℕ) → b ≡ p ++ (bytes_of size n ++ r) → at ≡ length p → n < 256 ^ size → number_at b at size ≡ n
read_at b p r at size n e f h = rw (e, f) (read_bytes p r size n h)

-- ---- two's complement, both ways
pub record Coordinate (width : ℕ) (z : ℤ) : Type 0 where
  pub small : unsigned width z < 256 ^ width
  pub back : signed width (unsigned width z) ≡ z

pub coordinate : (width : ℕ) (z : ℤ) → 1 ≤ width → InBytes width z → Coordinate width z
unfolding unsigned
coordinate width (pos n) w f = let h : 2 * n < 256 ^ width = f.in_bytes in record { small = omega arith; back = sym (signed_low width n h) }
coordinate width (negsuc n) w f =
    let h : 2 * n < 256 ^ width = f.in_bytes in
    let g = even width w in
    let e : 256 ^ width - 1 - (256 ^ width - suc n) ≡ n = omega arith in
    record { small = omega arith; back = sym (signed_high width (256 ^ width - suc n) (omega arith) (omega arith)) ∙ rw e refl }

-- ---- a fix
pub record InRange (K : Kind) (f : Fix) : Type 0 where
  pub t32 : f.t < 4294967296
  pub x_in : InBytes K.width f.x
  pub y_in : InBytes K.width f.y
  pub silence_in : f.silence < 256 ^ K.silence_width

-- a place within the kind's limit fits a fix's bytes
pub bounded_in_bytes : (K : Kind) → IsKind K → (z : ℤ) → neg_ℤ (pos K.limit) ≤ℤ z → z ≤ℤ pos K.limit → InBytes K.width z
bounded_in_bytes K is (pos n) low high = record { in_bytes = let h : n ≤ K.limit = omega (arith, simp diffs at high) in omega (arith, h, is.inside) }
bounded_in_bytes K is (negsuc n) low high = record { in_bytes = let h : n < K.limit = omega (arith, simp diffs at low) in omega (arith, h, is.inside) }

pub bounded_in_range : (K : Kind) → IsKind K → {f : Fix} → f.t < 4294967296 → f.silence < 256 ^ K.silence_width → Bounded K.limit f → InRange K f
bounded_in_range K is {f} t s b = record {
  t32 = t;
  x_in = bounded_in_bytes K is f.x b.x_low b.x_high;
  y_in = bounded_in_bytes K is f.y b.y_low b.y_high;
  silence_in = s;
}

-- its numbers have room in its bytes, ..
pub record Storable (K : Kind) (f : Fix) : Type 0 where
  pub t_fits : f.t < 4294967296
  pub x_fits : unsigned K.width f.x < 256 ^ K.width
  pub y_fits : unsigned K.width f.y < 256 ^ K.width
  pub silence_fits : f.silence < 256 ^ K.silence_width

-- .. which then say it, but for a coordinate that isn't in range: of that two's complement says another
abbrev pub said_coordinate : Kind → ℤ → ℤ
said_coordinate K z = signed K.width (unsigned K.width z)

abbrev pub said : Kind → Fix → Fix
said K f = record { t = f.t; x = said_coordinate K f.x; y = said_coordinate K f.y; silence = f.silence }

module _ (K : Kind) (is : IsKind K) where
  pub storable : (f : Fix) → InRange K f → Storable K f
  storable f h = record {
    t_fits = h.t32;
    x_fits = (coordinate K.width f.x is.some_width h.x_in).small;
    y_fits = (coordinate K.width f.y is.some_width h.y_in).small;
    silence_fits = h.silence_in;
  }

  said_itself : (f : Fix) → InRange K f → said K f ≡ f
  said_itself f h = rw ((coordinate K.width f.x is.some_width h.x_in).back, (coordinate K.width f.y is.some_width h.y_in).back) refl

  pub all_said : {l : List Fix} → All (InRange K) l → map (said K) l ≡ l
  all_said all_none = refl
  all_said (all_more {m = f} {l} h t) = rw (said_itself f h, all_said t) refl

  read_fix : (p r : List ℕ) (k : ℕ) (f : Fix) → length p ≡ record_length K k → Storable K f → fix_at K (p ++ (fix_bytes K f ++ r)) k ≡ said K f
  unfolding fix_at fix_bytes fix_to
  read_fix p r k f len h =
      let w = K.width in
      let v = K.silence_width in
      let at = record_length K k in
      let T = bytes_of 4 f.t in
      let X = bytes_of w (unsigned w f.x) in
      let Y = bytes_of w (unsigned w f.y) in
      let S = bytes_of v f.silence in
      let b = p ++ ((T ++ (X ++ (Y ++ S))) ++ r) in
      let et : b ≡ p ++ (T ++ ((X ++ (Y ++ S)) ++ r)) = simp append_assoc in
      let ex : b ≡ (p ++ T) ++ (X ++ ((Y ++ S) ++ r)) = simp append_assoc in
      let ey : b ≡ ((p ++ T) ++ X) ++ (Y ++ (S ++ r)) = simp append_assoc in
      let es : b ≡ (((p ++ T) ++ X) ++ Y) ++ (S ++ r) = simp append_assoc in
      let lt : length (p ++ T) ≡ at + 4 = length-append p T ∙ rw (len, length_bytes 4 f.t) refl in
      let lx : length ((p ++ T) ++ X) ≡ at + 4 + w = length-append (p ++ T) X ∙ rw (lt, length_bytes w (unsigned w f.x)) refl in
      let ly : length (((p ++ T) ++ X) ++ Y) ≡ at + 4 + w + w = length-append ((p ++ T) ++ X) Y ∙ rw (lx, length_bytes w (unsigned w f.y)) refl in
      sym (fix_parts w v b at f.t (said_coordinate K f.x) (said_coordinate K f.y) f.silence
      (sym (read_at b p _ at 4 f.t et (sym len) h.t_fits))
      (sym (ap (signed w) (read_at b (p ++ T) _ (at + 4) w (unsigned w f.x) ex (sym lt) h.x_fits)))
      (sym (ap (signed w) (read_at b ((p ++ T) ++ X) _ (at + 4 + w) w (unsigned w f.y) ey (sym lx) h.y_fits)))
      (sym (read_at b (((p ++ T) ++ X) ++ Y) _ (at + 4 + w + w) v f.silence es (sym ly) h.silence_fits)))

  -- ---- a list of fixes
  pub read_fixes : (p r : List ℕ) (k : ℕ) {l : List Fix} → length p ≡ record_length K k → All (Storable K) l → each (fix_at K (p ++ (all_bytes K l ++ r))) k (length l) ≡ map (said K) l
  unfolding each all_bytes
  read_fixes p r k len all_none = refl
  read_fixes p r k len (all_more {m = f} {l} h t) =
      let F = fix_bytes K f in
      let M = all_bytes K l in
      let e : p ++ ((F ++ M) ++ r) ≡ p ++ (F ++ (M ++ r)) = simp append_assoc in
      let g : p ++ ((F ++ M) ++ r) ≡ (p ++ F) ++ (M ++ r) = simp append_assoc in
      let n : length (p ++ F) ≡ record_length K (suc k) = length-append p F ∙ rw (len, length_fix_bytes K is f, one_more K k) refl in
      let first : fix_at K (p ++ ((F ++ M) ++ r)) k ≡ said K f = ap (λ (b : List ℕ). fix_at K b k) e ∙ read_fix p (M ++ r) k f len h in
      let rest = ap (λ (b : List ℕ). each (fix_at K b) (suc k) (length l)) g ∙ read_fixes (p ++ F) r (suc k) n t in
      ap (λ (x : Fix). x ∷ each (fix_at K (p ++ ((F ++ M) ++ r))) (suc k) (length l)) first ∙ ap (λ (m : List Fix). said K f ∷ m) rest

-- ---- a whole record, with other bytes after it
pub record Reads (K : Kind) (mark : ℕ) (l : List Fix) (b : List ℕ) : Type 0 where
  pub length_reads : length_field b ≡ record_length K (length l)
  pub code_reads : kind_field b ≡ K.code
  pub kind_reads : kind_of b ≡ K
  pub mark_reads : mark_field b ≡ mark
  pub count_reads : count_field b ≡ length l
  pub fixes_read : fixes b ≡ l

pub read_record : (κ : CodeKind) (mark : ℕ) (l : List Fix) (r : List ℕ) → mark < 65536 → length l ≤ 4096 → All (InRange (layout κ)) l → Reads (layout κ) mark l (record_bytes (layout κ) mark l ++ r)
unfolding record_bytes header_bytes
read_record κ mark l r marked few h =
    let K = layout κ in
    let is = is_kind κ in
    let L = bytes_of 4 (record_length K (length l)) in
    let D = bytes_of 2 K.code in
    let M = bytes_of 2 mark in
    let C = bytes_of 2 (length l) in
    let F = all_bytes K l in
    let head = L ++ (D ++ (M ++ C)) in
    let b = (head ++ F) ++ r in
    let el : b ≡ [] ++ (L ++ (((D ++ (M ++ C)) ++ F) ++ r)) = simp append_assoc in
    let ek : b ≡ L ++ (D ++ (((M ++ C) ++ F) ++ r)) = simp append_assoc in
    let em : b ≡ (L ++ D) ++ (M ++ ((C ++ F) ++ r)) = simp append_assoc in
    let ec : b ≡ ((L ++ D) ++ M) ++ (C ++ (F ++ r)) = simp append_assoc in
    let ef : b ≡ head ++ (F ++ r) = append_assoc head F r in
    let nl : length L ≡ 4 = length_bytes 4 (record_length K (length l)) in
    let nk : length (L ++ D) ≡ 6 = length-append L D ∙ rw (nl, length_bytes 2 K.code) refl in
    let nm : length ((L ++ D) ++ M) ≡ 8 = length-append (L ++ D) M ∙ rw (nk, length_bytes 2 mark) refl in
    let nh : length head ≡ 10 = length_header K mark (length l) in
    let start : record_length K 0 ≡ 10 = rw mul-zero refl in
    let code : kind_field b ≡ K.code = read_at b L _ 4 2 K.code ek (sym nl) is.code_small in
    let count : count_field b ≡ length l = read_at b ((L ++ D) ++ M) (F ++ r) 8 2 (length l) ec (sym nm) (omega arith) in
    record {
      length_reads = read_at b [] _ 0 4 (record_length K (length l)) el refl (omega (arith, longest K is (length l) few));
      code_reads = code;
      kind_reads = kind_is κ b code;
      mark_reads = read_at b (L ++ D) _ 6 2 mark em (sym nk) marked;
      count_reads = count;
      fixes_read = ap (λ (J : Kind). each (fix_at J b) 0 (count_field b)) (kind_is κ b code) ∙ ap (each (fix_at K b) 0) count ∙ ap (λ (c : List ℕ). each (fix_at K c) 0 (length l)) ef
          ∙ read_fixes K is head r 0 (nh ∙ sym start) (all_map (storable K is) h) ∙ all_said K is h;
    }

-- ---- THE OTHER WAY: bytes read and written again are the same bytes. Each is below 256, as a lent byte is.
abbrev pub AreBytes : List ℕ → Type 0
AreBytes = All (λ (x : ℕ). x < 256)

pub are_bytes : (b : List ℕ) → ((i : ℕ) → get_or b i 0 < 256) → AreBytes b
are_bytes [] h = all_none
are_bytes (n ∷ b) h = all_more (h 0) (are_bytes b (λ i. h (suc i)))

-- bytes that are written out are found to be such by computing
unfoldable pub all_below : List ℕ → Bool
all_below [] = true
all_below (n ∷ l) = cond (ltb n 256) (all_below l) false

pub computed_bytes : (l : List ℕ) → all_below l ≡ true → AreBytes l
unfolding all_below
computed_bytes [] h = all_none
computed_bytes (n ∷ l) h = go (ltb n 256) refl h (computed_bytes l)
  where
    go : (b : Bool) → ltb n 256 ≡ b → cond b (all_below l) false ≡ true → (all_below l ≡ true → AreBytes l) → AreBytes (n ∷ l)
    go true e k r = all_more (ltb-true n 256 e) (r k)
    go false e k r = absurd (false_true k)

byte_at : {b : List ℕ} (at : ℕ) → AreBytes b → get_or b at 0 < 256
byte_at at all_none = omega arith
byte_at zero (all_more h t) = h
byte_at (suc at) (all_more h t) = byte_at at t

write_number : (b : List ℕ) (at size : ℕ) → AreBytes b → at + size ≤ length b → bytes_of size (number_at b at size) ≡ take size (drop at b)
unfolding number_at bytes_of
write_number b at zero h f = refl
write_number b at (suc size) h f =
    let x = get_or b at 0 in
    let n = number_at b (suc at) size in
    let small = byte_at at h in
    let low : (x + 256 * n) % 256 ≡ x = omega arith in
    let high : (x + 256 * n) / 256 ≡ n = omega arith in
    rw (low, high, drop-cons b at 0 (omega arith)) (ap (λ (l : List ℕ). x ∷ l) (write_number b (suc at) size h (omega arith)))

-- a number of bytes is below 256 to the power of their number
pub number_below : (b : List ℕ) (at size : ℕ) → AreBytes b → number_at b at size < 256 ^ size
unfolding number_at
number_below b at zero h = omega arith
number_below b at (suc size) h = rw (pow-suc 256 size) (omega (arith, byte_at at h, number_below b (suc at) size h))

module _ (width n : ℕ) (w : 1 ≤ width) (h : n < 256 ^ width) where
  signed_fits : InBytes width (signed width n)
  signed_fits = go (test (256 ^ width) (2 * n))
    where
      go : {b : Bool} → Test (256 ^ width) (2 * n) b → InBytes width (signed width n)
      go (holds t) = rw (← signed_high width n t h) (record { in_bytes = let e = even width w in omega arith })
      go (fails t) = rw (← signed_low width n t) (record { in_bytes = t })

  unsigned_back : unsigned width (signed width n) ≡ n
  unfolding unsigned
  unsigned_back = go (test (256 ^ width) (2 * n))
    where
      go : {b : Bool} → Test (256 ^ width) (2 * n) b → unsigned width (signed width n) ≡ n
      go (holds t) = rw (← signed_high width n t h) (omega arith)
      go (fails t) = rw (← signed_low width n t) refl

take_more : (b : List ℕ) (at m n : ℕ) → take m (drop at b) ++ take n (drop (at + m) b) ≡ take (m + n) (drop at b)
take_more b at m n = sym (take-add m n (drop at b) ∙ rw (drop-drop m at b) refl)

module _ (K : Kind) (is : IsKind K) (b : List ℕ) (h : AreBytes b) where
  pub write_fix : (k : ℕ) → record_length K (suc k) ≤ length b → fix_bytes K (fix_at K b k) ≡ take K.size (drop (record_length K k) b)
  unfolding fix_bytes fix_to fix_at fix_from
  write_fix k f =
      let at = record_length K k in
      let w = K.width in
      let v = K.silence_width in
      let s = is.size_is in
      let more = one_more K k in
      let all : 4 + (w + (w + v)) ≡ K.size = omega arith in
      rw (unsigned_back w (number_at b (at + 4) w) is.some_width (number_below b (at + 4) w h), unsigned_back w (number_at b (at + 4 + w) w) is.some_width (number_below b (at + 4 + w) w h))
      (rw (write_number b at 4 h (omega arith), write_number b (at + 4) w h (omega arith), write_number b (at + 4 + w) w h (omega arith), write_number b (at + 4 + w + w) v h (omega arith))
      (rw (take_more b (at + 4 + w) w v, take_more b (at + 4) w (w + v), take_more b at 4 (w + (w + v)), all) refl))

  write_fixes : (k n : ℕ) → record_length K k + K.size * n ≤ length b → all_bytes K (each (fix_at K b) k n) ≡ take (K.size * n) (drop (record_length K k) b)
  unfolding each all_bytes
  write_fixes k zero f = rw mul-zero refl
  write_fixes k (suc n) f =
      let next = one_more K k in
      let all = mul-suc K.size n in
      let comm : K.size * n + K.size ≡ K.size + K.size * n = omega arith in
      rw (write_fix k (omega arith), write_fixes (suc k) n (omega arith), next, take_more b (record_length K k) K.size (K.size * n), all, comm) refl

  -- what bytes say is in range
  pub fix_in_range : (k : ℕ) → InRange K (fix_at K b k)
  unfolding fix_at fix_from
  fix_in_range k =
      let at = record_length K k in
      let w = K.width in
      record {
        t32 = number_below b at 4 h;
        x_in = signed_fits w (number_at b (at + 4) w) is.some_width (number_below b (at + 4) w h);
        y_in = signed_fits w (number_at b (at + 4 + w) w) is.some_width (number_below b (at + 4 + w) w h);
        silence_in = number_below b (at + 4 + w + w) K.silence_width h;
      }

  pub bytes_in_range : (k n : ℕ) → All (InRange K) (each (fix_at K b) k n)
  bytes_in_range k n = each_all (fix_at K b) k n (λ i p q. fix_in_range i)

pub rewrites : (b : List ℕ) → AreBytes b → length_field b ≡ record_length (kind_of b) (count_field b) → kind_field b ≡ (kind_of b).code → length_field b ≤ length b
    → record_bytes (kind_of b) (mark_field b) (fixes b) ≡ take (length_field b) b
unfolding record_bytes header_bytes
rewrites b h len kind whole =
    let K = kind_of b in
    let n = count_field b in
    let count : length (fixes b) ≡ n = length_each (fix_at K b) 0 n in
    let first : bytes_of 4 (record_length K n) ≡ take 4 (drop 0 b) = rw (← len) (write_number b 0 4 h (omega arith)) in
    let second : bytes_of 2 K.code ≡ take 2 (drop 4 b) = rw (← kind) (write_number b 4 2 h (omega arith)) in
    let start : record_length K 0 ≡ 10 = rw mul-zero refl in
    rw (count, first, second, write_number b 6 2 h (omega arith), write_number b 8 2 h (omega arith), write_fixes K (kind_of_is b) b h 0 n (omega arith), len)
    (rw (start, take_more b 6 2 2, take_more b 4 2 4, take_more b 0 4 6, take_more b 0 10 (K.size * n)) refl)

-- ---- bytes moved as they are, four at a time: what was read from `from` on is put down from `to` on
module _ (b : List ℕ) (from to : ℕ) (h : AreBytes b) where
  read_eight : {m n : ℕ} → from + 8 ≤ length b → m ≡ number_at b from 4 → n ≡ number_at b (from + 4) 4 → bytes_of 4 m ++ bytes_of 4 n ≡ take 8 (drop from b)
  read_eight whole p q = rw (p, q, write_number b from 4 h (omega arith), write_number b (from + 4) 4 h (omega arith)) (take_more b from 4 4)

  pub eight_moved : (m n : ℕ) → from + 8 ≤ length b → m ≡ number_at b from 4 → n ≡ number_at b (from + 4) 4
      → sets (sets b to (bytes_of 4 m)) (to + 4) (bytes_of 4 n) ≡ sets b to (take 8 (drop from b))
  eight_moved m n whole p q = sets_then b to (bytes_of 4 m) (to + 4) (bytes_of 4 n) (rw (length_bytes 4 m) refl) ∙ rw (read_eight whole p q) refl

  pub twelve_moved : (m n o : ℕ) → from + 12 ≤ length b → m ≡ number_at b from 4 → n ≡ number_at b (from + 4) 4 → o ≡ number_at b (from + 8) 4
      → sets (sets (sets b to (bytes_of 4 m)) (to + 4) (bytes_of 4 n)) (to + 8) (bytes_of 4 o) ≡ sets b to (take 12 (drop from b))
  twelve_moved m n o whole p q r =
      let eight = read_eight {m = m} {n = n} (omega arith) p q in
      let size : length (bytes_of 4 m ++ bytes_of 4 n) ≡ 8 = length-append (bytes_of 4 m) (bytes_of 4 n) ∙ rw (length_bytes 4 m, length_bytes 4 n) refl in
      let all : (bytes_of 4 m ++ bytes_of 4 n) ++ bytes_of 4 o ≡ take 12 (drop from b) = rw (eight, r, write_number b (from + 8) 4 h (omega arith)) (take_more b from 8 4) in
      rw (sets_then b to (bytes_of 4 m) (to + 4) (bytes_of 4 n) (rw (length_bytes 4 m) refl))
      (sets_then b to (bytes_of 4 m ++ bytes_of 4 n) (to + 8) (bytes_of 4 o) (rw size refl) ∙ rw all refl)

  -- eight of them moved before, and the one that follows
  pub nine_moved : (s : ℕ) → from + 9 ≤ length b → s ≡ get_or b (from + 8) 0 → set (sets b to (take 8 (drop from b))) (to + 8) s ≡ sets b to (take 9 (drop from b))
  nine_moved s whole e =
      let size : length (take 8 (drop from b)) ≡ 8 = rw (length-take 8 (drop from b), length-drop from b) (omega arith) in
      let one : take 1 (drop (from + 8) b) ≡ s ∷ [] = rw (drop-cons b (from + 8) 0 (omega arith), e) refl in
      sets_then b to (take 8 (drop from b)) (to + 8) (s ∷ []) (rw size refl) ∙ rw (← one, take_more b from 8 1) refl

-- what is written are bytes
bytes_are : (size n : ℕ) → AreBytes (bytes_of size n)
unfolding bytes_of
bytes_are zero n = all_none
bytes_are (suc size) n = all_more {m = n % 256} (omega arith) (bytes_are size (n / 256))

pub fixes_are_bytes : (K : Kind) (l : List Fix) → AreBytes (all_bytes K l)
unfolding all_bytes fix_bytes fix_to
fixes_are_bytes K [] = all_none
fixes_are_bytes K (f ∷ l) = all_append (all_append (bytes_are 4 f.t) (all_append (bytes_are K.width (unsigned K.width f.x)) (all_append (bytes_are K.width (unsigned K.width f.y)) (bytes_are K.silence_width f.silence)))) (fixes_are_bytes K l)

pub record_are_bytes : (K : Kind) (mark : ℕ) (l : List Fix) → AreBytes (record_bytes K mark l)
unfolding record_bytes header_bytes
record_are_bytes K mark l =
    all_append (all_append (bytes_are 4 (record_length K (length l))) (all_append (bytes_are 2 K.code) (all_append (bytes_are 2 mark) (bytes_are 2 (length l))))) (fixes_are_bytes K l)
