-- How a record lies in its bytes: its head, its fixes one after the other, and what stood after it.
use Rattle.std.specs.Prelude.{◌≡◌, List, [], ◌∷◌, ◌++◌, ℕ, suc, ◌+◌, ◌*◌, ◌<◌, ◌≤◌, length, drop}
use Rattle.std.proofs.Math.Path.{refl}
use Rattle.std.proofs.Common.{sym, ◌∙◌, ap, append-nil, append_assoc, mul-suc, mul-zero, arith, length-append, add-one, lt-ltb, le-ltb}
use Rattle.std.proofs.lemmas.List.Edits.{sets}
use Rattle.std.proofs.Math.Seq.{length-sets}
use Rattle.distance.specs.Fix.{Fix}
use Rattle.format.specs.Bytes.{bytes_of}
use Rattle.format.specs.Kinds.{Kind}
use Rattle.format.specs.Format.{record_length, each, fix_to, fix_bytes, all_bytes, header_bytes, record_bytes, of_head}
use Rattle.format.proofs.Laws.Kinds.{IsKind, longer, one_more}
use Rattle.format.proofs.Laws.Stores.{length_bytes, sets_then, sets_front}
use Rattle.format.proofs.Laws.Each.{length_each, each_more}

-- a field of the head, where there are 10 bytes and where not
pub of_head_short : (field : List ℕ → ℕ) (b : List ℕ) → length b < 10 → of_head field b ≡ 0
unfolding of_head
of_head_short field b h = rw (lt-ltb (length b) 10 h) refl

pub of_head_field : (field : List ℕ → ℕ) (b : List ℕ) → 10 ≤ length b → of_head field b ≡ field b
unfolding of_head
of_head_field field b h = rw (le-ltb (length b) 10 h) refl

-- ---- the bytes of a list of fixes
pub length_fix_bytes : (K : Kind) → IsKind K → (f : Fix) → length (fix_bytes K f) ≡ K.size
unfolding fix_bytes fix_to
length_fix_bytes K is f = rw (length-append, length-append, length-append, length_bytes, length_bytes, length_bytes, length_bytes, is.size_is) (omega arith)

pub length_all_bytes : (K : Kind) → IsKind K → (l : List Fix) → length (all_bytes K l) ≡ K.size * length l
unfolding all_bytes
length_all_bytes K is [] = rw mul-zero refl
length_all_bytes K is (f ∷ l) = length-append (fix_bytes K f) (all_bytes K l) ∙ rw (length_fix_bytes K is f, length_all_bytes K is l, mul-suc) (omega arith)

pub all_bytes_more : (K : Kind) (l : List Fix) (f : Fix) → all_bytes K (l ++ f ∷ []) ≡ all_bytes K l ++ fix_bytes K f
unfolding all_bytes
all_bytes_more K [] f = append-nil (fix_bytes K f)
all_bytes_more K (g ∷ l) f = ap (λ (m : List ℕ). fix_bytes K g ++ m) (all_bytes_more K l f) ∙ sym (append_assoc (fix_bytes K g) (all_bytes K l) (fix_bytes K f))

pub length_header : (K : Kind) (mark n : ℕ) → length (header_bytes K mark n) ≡ 10
unfolding header_bytes bytes_of
length_header K mark n = refl

pub length_record : (K : Kind) → IsKind K → (mark : ℕ) (l : List Fix) → length (record_bytes K mark l) ≡ record_length K (length l)
unfolding record_bytes
length_record K is mark l = length-append (header_bytes K mark (length l)) (all_bytes K l) ∙ rw (length_header K mark (length l), length_all_bytes K is l) refl

-- the head and the fixes make the record, and what stood after it stays
pub record_stores : (K : Kind) → IsKind K → (b : List ℕ) (mark : ℕ) (l : List Fix) → record_length K (length l) ≤ length b
    → sets (sets b 0 (header_bytes K mark (length l))) 10 (all_bytes K l) ≡ record_bytes K mark l ++ drop (record_length K (length l)) b
unfolding record_bytes
record_stores K is b mark l h =
    let head = header_bytes K mark (length l) in
    let e : length (head ++ all_bytes K l) ≡ record_length K (length l) = length-append head (all_bytes K l) ∙ rw (length_header K mark (length l), length_all_bytes K is l) refl in
    sets_then b 0 head 10 (all_bytes K l) (rw (length_header K mark (length l)) refl) ∙ sets_front b (head ++ all_bytes K l) (omega arith) ∙ rw e refl

-- ---- a loop that puts down the n fixes f 0, f 1 and so on: those before position k stand after the head, in an output that was b
pub record FixesPut (K : Kind) (f : ℕ → Fix) (n : ℕ) (b : List ℕ) (k : ℕ) (c : List ℕ) : Type 0 where
  pub upto : k ≤ n
  pub as_long : length c ≡ length b
  pub put : c ≡ sets b 10 (all_bytes K (each f 0 k))

module _ (K : Kind) (f : ℕ → Fix) (n : ℕ) (b : List ℕ) where
  pub none_put : FixesPut K f n b 0 b
  unfolding each all_bytes
  none_put = record { upto = omega arith; as_long = refl; put = refl }

  module _ {k : ℕ} {c : List ℕ} (p : FixesPut K f n b k c) where
    -- there is room for the next ..
    pub next_fits : k < n → record_length K n ≤ length b → record_length K k + K.size ≤ length c
    next_fits h fits = omega (arith, one_more K k, longer K (suc k) n (omega arith), p.as_long, fits)

    -- .. which follows on those before it ..
    pub next_put : IsKind K → k < n → (a : Fix) → a ≡ f k → (d : List ℕ) → d ≡ sets c (record_length K k) (fix_bytes K a) → FixesPut K f n b (k + 1) d
    next_put is h a e d stored =
        let m : record_length K k ≡ 10 + length (all_bytes K (each f 0 k)) = rw (length_all_bytes K is (each f 0 k), length_each f 0 k) refl in
        let z : 0 + k ≡ k = omega arith in
        record {
          upto = omega arith;
          as_long = ap length stored ∙ length-sets c (record_length K k) (fix_bytes K a) ∙ p.as_long;
          put =
              stored
              ∙ ap (λ (l : List ℕ). sets l (record_length K k) (fix_bytes K a)) p.put
              ∙ sets_then b 10 (all_bytes K (each f 0 k)) (record_length K k) (fix_bytes K a) m
              ∙ rw (add-one, each_more f 0 k, z, all_bytes_more K (each f 0 k) (f k), e) refl;
        }

    -- .. until all are put down
    pub all_put : n ≤ k → c ≡ sets b 10 (all_bytes K (each f 0 n))
    all_put h = let e : k ≡ n = omega (arith, p.upto) in rw (← e) p.put
