-- The checks of a table, as the code makes them: 22, and then 23 row by row.
use Rattle.std.specs.Prelude.{◌≡◌, ◌⊎◌, Bool, true, false, ◌||◌, length, map, take, drop}
use Rattle.std.proofs.Math.Path.{refl}
use Rattle.std.proofs.Common.{sym, ◌∙◌, ap, inl, inr, add-one, drop-cons}
use Rattle.std.proofs.lemmas.List.{drop_all}
use mathlib.Core.List.{List, [], ◌∷◌}
use Rattle.std.proofs.Math.Option.{Option, some, none}
use Prim.Native.Nat.{ℕ, zero, suc, ◌+◌, ◌<◌, ◌≤◌, ◌-◌}
use native.Mathlib.Omega.{arith}
use borrow.Author.Tests.{eq-eqb, ne_eqb, lt-ltb, le-ltb}
use Rattle.distance.specs.Integers.Tests.{Test, holds, fails, test}
use Rattle.format.specs.Format.{each}
use Rattle.format.proofs.Laws.Each.{length_each, each_shift, each_first}
use Rattle.record.specs.Checks.{Row, Check, bad_row_count, bad_rows, bad_row, some_bad_row, sentence, first, FirstHolds, this, not_before, with_table, load_refusal}
use Rattle.record.proofs.Laws.Head.{asks}
use Rattle.record.proofs.Laws.First.{stops, passes, first_none, first_exactly, some_none}
use Rattle.table.specs.Answers.{no_row, row_of, row_in, row_at, table_of, row_before}
use Rattle.table.specs.declared.Row.{Row as RowStruct}
use Rattle.table.specs.declared.Table.{Table}

-- ---- 22, by the number of rows alone
module _ (rows : List Row) where
  abbrev says : Check → Bool
  says = asks [] (with_table rows)

  pub no_rows_refused : length rows ≡ 0 → load_refusal rows ≡ some 22
  unfolding sentence
  no_rows_refused h = stops says bad_row_count (bad_rows ∷ []) (rw (eq-eqb (length rows) 0 h) refl)

  pub long_refused : 32 < length rows → load_refusal rows ≡ some 22
  unfolding sentence
  long_refused h = stops says bad_row_count (bad_rows ∷ []) (rw (ne_eqb (length rows) 0 (λ z. omega arith), lt-ltb 32 (length rows) h) refl)

  -- .. and then 23
  passed_count : 1 ≤ length rows → length rows ≤ 32 → load_refusal rows ≡ first says (bad_rows ∷ [])
  unfolding sentence
  passed_count h k = passes says bad_row_count (bad_rows ∷ []) (rw (ne_eqb (length rows) 0 (λ z. omega arith), le-ltb 32 (length rows) k) refl)

  pub row_refused : 1 ≤ length rows → length rows ≤ 32 → some_bad_row none rows ≡ true → load_refusal rows ≡ some 23
  unfolding sentence
  row_refused h k e = passed_count h k ∙ stops says bad_rows [] e

  pub all_accepted : 1 ≤ length rows → length rows ≤ 32 → some_bad_row none rows ≡ false → load_refusal rows ≡ none
  unfolding sentence
  all_accepted h k e = passed_count h k ∙ passes says bad_rows [] e ∙ first_none says

-- no table is turned away by another number
pub only_22_or_23 : (rows : List Row) (k : ℕ) → load_refusal rows ≡ some k → (k ≡ 22) ⊎ (k ≡ 23)
only_22_or_23 rows k h = go ((first_exactly (says rows) k (bad_row_count ∷ bad_rows ∷ [])).0 h)
  where
    go : FirstHolds (says rows) k (bad_row_count ∷ bad_rows ∷ []) → (k ≡ 22) ⊎ (k ≡ 23)
    go (this s e) = inl (sym e)
    go (not_before n (this s e)) = inr (sym e)
    go (not_before n (not_before _ x9)) = elim x9 [ ]

-- what is accepted passes both
pub accepted_few : (rows : List Row) → load_refusal rows ≡ none → length rows ≤ 32
accepted_few rows h = go (test (length rows) 32)
  where
    go : {b : Bool} → Test (length rows) 32 b → length rows ≤ 32
    go (holds k) = k
    go (fails k) = absurd (some_none (sym (long_refused rows k) ∙ h))

-- a table has as many rows as its count says
pub count_is : (t : Table) → length (table_of t) ≡ t.count
count_is t = length_each (row_at t) 0 t.count

-- .. and they are its first ones
pub taken : (rows : List RowStruct) (n : ℕ) → n ≤ length rows → map row_of (take n rows) ≡ each (row_in rows) 0 n
unfolding each
taken rows zero h = refl
taken [] (suc n) h = absurd (omega arith)
taken (r ∷ rows) (suc n) h = ap (λ (l : List Row). row_of r ∷ l) (taken rows n (omega arith) ∙ sym (each_shift (row_in (r ∷ rows)) (row_in rows) 0 n (λ i. refl)))

-- ---- 23, row by row: row k, after the row before it, and then those behind it
pub bad_after : (before : Option Row) (rows : List RowStruct) (k : ℕ) → k < length rows
    → some_bad_row before (map row_of (drop k rows)) ≡ bad_row before (row_in rows k) || some_bad_row (some (row_in rows k)) (map row_of (drop (k + 1) rows))
unfolding some_bad_row
bad_after before rows k h = rw (add-one, drop-cons rows k no_row) refl

pub bad_end : (before : Option Row) (rows : List RowStruct) (k : ℕ) → length rows ≤ k → some_bad_row before (map row_of (drop k rows)) ≡ false
unfolding some_bad_row
bad_end before rows k h = rw (drop_all k rows h) refl

-- ---- the same by the positions of a table's rows: row i, after the row before it
pub bad_first : (t : Table) (i : ℕ) → i ≡ 0 → bad_row none (row_at t i) ≡ bad_row (row_before t i) (row_at t i)
bad_first t i e = rw e refl

pub bad_later : (t : Table) (i : ℕ) → 0 < i → bad_row (some (row_at t (i - 1))) (row_at t i) ≡ bad_row (row_before t i) (row_at t i)
bad_later t zero h = absurd (omega arith)
bad_later t (suc k) h = let e : suc k - 1 ≡ k = omega arith in rw e refl

-- the rows from i on, of the first n
module _ (t : Table) where
  abbrev pub bad_from : (i n : ℕ) → Bool
  bad_from i n = some_bad_row (row_before t i) (each (row_at t) i (n - i))

  bad_next : (i n : ℕ) → i < n → bad_from i n ≡ bad_row (row_before t i) (row_at t i) || bad_from (i + 1) n
  unfolding some_bad_row
  bad_next i n h =
      let less : 0 < n - i = omega arith in
      let rest : (n - i) - 1 ≡ n - (i + 1) = omega arith in
      let next : i + 1 ≡ suc i = omega arith in
      rw (each_first (row_at t) i (n - i) less, rest, next) refl

  pub bad_all : (n : ℕ) → some_bad_row none (each (row_at t) 0 n) ≡ bad_from 0 n
  bad_all n = let e : n - 0 ≡ n = omega arith in rw e refl

  -- a bad row ends it, and a good one hands it on
  pub bad_here : (i n : ℕ) → i < n → bad_row (row_before t i) (row_at t i) ≡ true → bad_from i n ≡ true
  bad_here i n h e = bad_next i n h ∙ rw e refl

  pub bad_on : (i n : ℕ) → i < n → bad_row (row_before t i) (row_at t i) ≡ false → bad_from i n ≡ bad_from (i + 1) n
  bad_on i n h e = bad_next i n h ∙ rw e refl

  pub bad_none : (i n : ℕ) → n ≤ i → bad_from i n ≡ false
  unfolding some_bad_row each
  bad_none i n h = let e : n - i ≡ 0 = omega arith in rw e refl
