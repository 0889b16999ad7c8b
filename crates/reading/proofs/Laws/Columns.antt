-- The reader of all fixes: columns filled place by place, and what a column holds afterwards.
use Rattle.std.specs.Prelude.{◌≡◌, ℤ, take, set}
use Rattle.std.proofs.Math.Path.{refl, ap}
use Rattle.std.proofs.Common.{sym, ◌∙◌, arith, add-one}
use mathlib.Core.List.{List, [], ◌∷◌, ◌++◌, map}
use Rattle.std.proofs.Math.Option.{some, none}
use Prim.Native.Nat.{ℕ, zero, suc, ◌+◌}
use Rattle.std.proofs.Math.ListN.{length}
use Rattle.std.proofs.lemmas.List.{length-map}
use Rattle.distance.specs.Fix.{Fix}
use Rattle.format.specs.Format.{kind_of, count_field, fix_at, each, fixes}
use Rattle.format.proofs.Laws.Each.{length_each, each_more}
use Rattle.reading.specs.Reading.{filled, times_of, xs_of, ys_of, silences_of, read_answer, times_read, xs_read, ys_read, silences_read}
use Rattle.record.specs.Checks.{read_refusal, IsAccepted}
use Rattle.record.specs.Answers.{gives, turns_away}

module _ {A : Type 0} where
  take_nothing : (n : ℕ) → take {A = A} n [] ≡ []
  take_nothing zero = refl
  take_nothing (suc n) = refl

  -- one value more: a store at the next place, which past the column's end changes nothing
  pub filled_more : (column values : List A) (v : A) → set (filled column values) (length values) v ≡ filled column (values ++ v ∷ [])
  unfolding filled
  filled_more [] [] v = refl
  filled_more [] (w ∷ values) v = refl
  filled_more (c ∷ column) [] v = ap (λ (l : List A). v ∷ (l ++ column)) (sym (take_nothing (length column)))
  filled_more (c ∷ column) (w ∷ values) v = ap (λ (l : List A). w ∷ l) (filled_more column values v)

  pub filled_none : (column : List A) → column ≡ filled column []
  unfolding filled
  filled_none column = ap (λ (l : List A). l ++ column) (sym (take_nothing (length column)))

  -- a column keeps its length, ..
  pub length_filled : (column values : List A) → length (filled column values) ≡ length column
  unfolding filled
  length_filled [] [] = refl
  length_filled [] (w ∷ values) = refl
  length_filled (c ∷ column) [] = ap length (sym (filled_none (c ∷ column)))
  length_filled (c ∷ column) (w ∷ values) = ap suc (length_filled column values)

  pub keeps_length : (column values : List A) {after : List A} → after ≡ filled column values → length after ≡ length column
  keeps_length column values e = ap length e ∙ length_filled column values

  -- .. and one of exactly as many places holds exactly the values
  pub filled_exactly : (column values : List A) → length column ≡ length values → filled column values ≡ values
  unfolding filled
  filled_exactly [] [] h = refl
  filled_exactly [] (w ∷ values) h = absurd (omega arith)
  filled_exactly (c ∷ column) [] h = absurd (omega arith)
  filled_exactly (c ∷ column) (w ∷ values) h = ap (λ (l : List A). w ∷ l) (filled_exactly column values (omega arith))

  -- ---- the loop over positions: a field of the fixes 0 to k − 1 is put down, and that of fix k follows
  map_append : (field : Fix → A) (l m : List Fix) → map field (l ++ m) ≡ map field l ++ map field m
  map_append field [] m = refl
  map_append field (f ∷ l) m = ap (λ (r : List A). field f ∷ r) (map_append field l m)

  pub puts_none : (field : Fix → A) (f : ℕ → Fix) (column : List A) → column ≡ filled column (map field (each f 0 0))
  unfolding each
  puts_none field f column = filled_none column

  pub puts_more : (field : Fix → A) (f : ℕ → Fix) (column before after : List A) (a : Fix) (k : ℕ) → a ≡ f k
      → before ≡ filled column (map field (each f 0 k)) → after ≡ set before k (field a) → after ≡ filled column (map field (each f 0 (k + 1)))
  puts_more field f column before after a k e p q =
      let values = map field (each f 0 k) in
      let n : length values ≡ k = length-map (each f 0 k) field ∙ length_each f 0 k in
      let z : 0 + k ≡ k = omega arith in
      let more : map field (each f 0 (k + 1)) ≡ values ++ field (f k) ∷ [] = rw (add-one, each_more f 0 k, z) (map_append field (each f 0 k) (f k ∷ [])) in
      q ∙ rw (p, e, more) (ap (λ (i : ℕ). set (filled column values) i (field (f k))) (sym n) ∙ filled_more column values (field (f k)))

-- ---- the answer and the columns, as the definitions have them: after a refusal, and after the first n fixes were put down, n the record's count
pub leaves : (b : List ℕ) (ts : List ℕ) (xs ys : List ℤ) (silences : List ℕ) (k : ℕ) → read_refusal b ≡ some k
    → (turns_away k ≡ read_answer b) × (ts ≡ times_read b ts) × (xs ≡ xs_read b xs) × (ys ≡ ys_read b ys) × (silences ≡ silences_read b silences)
leaves b ts xs ys silences k h = (rw h refl, rw h refl, rw h refl, rw h refl, rw h refl)

pub fills : (b : List ℕ) (ts : List ℕ) (xs ys : List ℤ) (silences : List ℕ) {n : ℕ} {us : List ℕ} {vs ws : List ℤ} {zs : List ℕ} → read_refusal b ≡ none → n ≡ count_field b
    → us ≡ filled ts (times_of (each (fix_at (kind_of b) b) 0 n)) → vs ≡ filled xs (xs_of (each (fix_at (kind_of b) b) 0 n)) → ws ≡ filled ys (ys_of (each (fix_at (kind_of b) b) 0 n))
    → zs ≡ filled silences (silences_of (each (fix_at (kind_of b) b) 0 n)) → (gives n ≡ read_answer b) × (us ≡ times_read b ts) × (vs ≡ xs_read b xs) × (ws ≡ ys_read b ys) × (zs ≡ silences_read b silences)
fills b ts xs ys silences h e p q r z = (rw (h, e) refl, p ∙ rw (h, e) refl, q ∙ rw (h, e) refl, r ∙ rw (h, e) refl, z ∙ rw (h, e) refl)

-- ---- columns of exactly the count's length then hold exactly the times, the x, the y and the silences of all fixes
field_exactly : {A : Type 0} (field : Fix → A) (b : List ℕ) (column : List A) → length column ≡ count_field b → filled column (map field (fixes b)) ≡ map field (fixes b)
field_exactly field b column h = filled_exactly column (map field (fixes b)) (h ∙ sym (length-map (fixes b) field ∙ length_each (fix_at (kind_of b) b) 0 (count_field b)))

pub reads_exactly : (b : List ℕ) (ts : List ℕ) (xs ys : List ℤ) (silences : List ℕ) → IsAccepted b → length ts ≡ count_field b → length xs ≡ count_field b → length ys ≡ count_field b → length silences ≡ count_field b
    → (times_read b ts ≡ times_of (fixes b)) × (xs_read b xs ≡ xs_of (fixes b)) × (ys_read b ys ≡ ys_of (fixes b)) × (silences_read b silences ≡ silences_of (fixes b))
reads_exactly b ts xs ys silences a p q r z = (
  rw a.accepted (field_exactly (λ (f : Fix). f.t) b ts p),
  rw a.accepted (field_exactly (λ (f : Fix). f.x) b xs q),
  rw a.accepted (field_exactly (λ (f : Fix). f.y) b ys r),
  rw a.accepted (field_exactly (λ (f : Fix). f.silence) b silences z),
)
