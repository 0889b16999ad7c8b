-- How lent rows come into a table: those of columns, with what loading answers then, and those of a list of tables.
use Rattle.std.specs.Prelude.{◌≡◌, Bool, List, [], ◌∷◌, ℕ, zero, suc, ◌+◌, ◌*◌, ◌<◌, ◌≤◌, min, length, get_or, take, drop, replicate, Result, Ok, Err, IsErrAnd, set}
use Rattle.std.specs.Result.{result_unwrap_or}
use Rattle.std.proofs.Math.Path.{refl}
use Rattle.std.proofs.Common.{sym, subst, ◌∙◌, ap, arith, le-leb, length-set, length-take, get_or-set_same, get_or-set_other, get_or-take, get_or-drop}
use Rattle.std.proofs.Math.Option.{some, none}
use Rattle.std.proofs.lemmas.List.{length-replicate, get_or-replicate}
use Rattle.std.proofs.Math.ListN.{get_or-eq_default}
use Rattle.std.proofs.lemmas.Bool.{lt-leb}
use Rattle.std.specs.Array.{IsFromFnResult, IsFromFnResultFrom}
use Rattle.std.specs.Fn.{Called}
use denote.Param.Members.{Mut}
use Rattle.distance.specs.Integers.Tests.{Test, holds, fails, test}
use Rattle.distance.specs.Laws.All.{All, all_none, all_more}
use Rattle.format.specs.Format.{each}
use Rattle.format.proofs.Laws.Each.{each_same, length_each}
use Rattle.record.specs.Checks.{Row, first, sentence, some_bad_row, load_refusal}
use Rattle.record.specs.Answers.{number_of}
use Rattle.record.proofs.Laws.First.{some_none, some_same}
use Rattle.record.specs.declared.refusal.Refusal.{Refusal}
use Rattle.table.specs.Table.{column_row, column_rows, number_row, numbers_table, table_at, built_in}
use Rattle.table.specs.Answers.{no_row, row_of, row_in, row_at, table_of, ClearedAfter, no_table, loaded, Loads}
use Rattle.table.proofs.Laws.Checking.{long_refused}
use Rattle.table.specs.declared.Row.{Row as RowStruct}
use Rattle.table.specs.declared.Table.{Table}

-- ---- a table's room after i rows: they stand there, and behind them nothing does
pub record FilledTo (row : ℕ → Row) (i : ℕ) (rows : List RowStruct) : Type 0 where
  pub room : length rows ≡ 32
  pub filled : (k : ℕ) → k < i → row_in rows k ≡ row k
  pub cleared : (k : ℕ) → i ≤ k → get_or rows k no_row ≡ no_row

cleared_at : (k : ℕ) → get_or (replicate 32 no_row) k no_row ≡ no_row
cleared_at k = go (test 32 k)
  where
    go : {b : Bool} → Test 32 k b → get_or (replicate 32 no_row) k no_row ≡ no_row
    go (holds h) = get_or-eq_default (replicate 32 no_row) no_row {n = k} (rw (length-replicate 32 no_row) h)
    go (fails h) = get_or-replicate 32 k no_row no_row h

-- .. as a closure gives them that leaves itself as it was, called at each place
module _ {F : Type 0} {g : Mut F (ℕ × Unit {0}) RowStruct} {f : F} (n : ℕ) (row : ℕ → Row)
    (gives : (k : ℕ) (r : RowStruct) (q : F) → k < 32 → Called g f (k, tt) r q → (q ≡ f) × (k < n → row_of r ≡ row k) × (n ≤ k → r ≡ no_row)) where
  called_at : (rows : List RowStruct) (i m : ℕ) → i + m ≤ 32 → IsFromFnResultFrom g f rows i m → (k : ℕ) → i ≤ k → k < i + m → (q : F) × Called g f (k, tt) (get_or rows k no_row) q
  called_at rows i zero room made k a b = absurd (omega arith)
  called_at rows i (suc m) room (q, r, at, called, rest) k a b = go (test (i + 1) k) (called_at rows (i + 1) m (omega arith) (rw (gives i r q (omega arith) called).0 at rest) k)
    where
      go : {b : Bool} → Test (i + 1) k b → (i + 1 ≤ k → k < i + 1 + m → (q : F) × Called g f (k, tt) (get_or rows k no_row) q) → (q : F) × Called g f (k, tt) (get_or rows k no_row) q
      go (holds l) later = later l (omega arith)
      go (fails l) later = let e : k ≡ i = omega arith in rw (e, at.1 no_row) (q, called)

  at_place : (rows : List RowStruct) → IsFromFnResult g f rows 32 → (k : ℕ) → {b : Bool} → Test 32 k b → (k < n → k < 32 → row_in rows k ≡ row k) × (n ≤ k → get_or rows k no_row ≡ no_row)
  at_place rows made k (holds l) = (λ h less. absurd (omega arith), λ h. get_or-eq_default rows no_row {n = k} (rw made.long l))
  at_place rows made k (fails l) =
      let (q, called) = called_at rows 0 32 (omega arith) made.each k (omega arith) (omega arith) in
      let given = gives k (get_or rows k no_row) q l called in
      (λ h less. given.1 h, given.2)

  pub filled_by : (rows : List RowStruct) → n ≤ 32 → IsFromFnResult g f rows 32 → FilledTo row n rows
  filled_by rows few made = record {
    room = made.long;
    filled = (λ k h. (at_place rows made k (test 32 k)).0 h (omega arith));
    cleared = (λ k h. (at_place rows made k (test 32 k)).1 h);
  }

-- .. or as they are set one after another, in a list that had none
module _ (row : ℕ → Row) where
  pub filled_none : FilledTo row 0 (replicate 32 no_row)
  filled_none = record { room = length-replicate 32 no_row; filled = (λ k h. absurd (omega arith)); cleared = (λ k h. cleared_at k) }

  pub filled_more : {rows : List RowStruct} (i : ℕ) (r : RowStruct) → FilledTo row i rows → i < 32 → row_of r ≡ row i → FilledTo row (i + 1) (set rows i r)
  filled_more {rows} i r f h e = record {
    room = length-set rows i r ∙ f.room;
    filled = (λ k l. go k l (test i k));
    cleared = (λ k l. get_or-set_other rows i k r no_row (λ z. omega arith) ∙ f.cleared k (omega arith));
  }
    where
      go : (k : ℕ) → k < i + 1 → {b : Bool} → Test i k b → row_in (set rows i r) k ≡ row k
      go k l (holds g) = let z : k ≡ i = omega arith in rw z (ap row_of (get_or-set_same rows i r no_row (omega (arith, f.room))) ∙ e)
      go k l (fails g) = ap row_of (get_or-set_other rows i k r no_row (λ z. omega arith)) ∙ f.filled k g

  pub filled_table : (n : ℕ) (t : Table) → FilledTo row n t.rows → t.count ≡ n → (table_of t ≡ each row 0 n) × ClearedAfter t
  filled_table n t f e = (rw e (each_same (row_at t) row 0 n (λ i h l. f.filled i (omega arith))), λ k h. ap row_of (f.cleared k (omega arith)))

-- ---- what is answered: a refusal, and a table without rows beside it, ..
pub loads_refused : (rows : List Row) (r : Refusal) → load_refusal rows ≡ some (number_of r) → Loads rows (Err r)
unfolding each
loads_refused rows r h = (sym h, rw h refl, λ i l. ap row_of (cleared_at i))

-- .. which was handed on, ..
pub loads_passed : (rows : List Row) (r : Refusal) (l : Result Table Refusal) → IsErrAnd l (λ q. q ≡ r) → load_refusal rows ≡ some (number_of r) → Loads rows l
loads_passed rows r (Ok t) h e = absurd h
loads_passed rows r (Err q) h e = rw h (loads_refused rows r e)

-- .. or the table of the rows
pub loads_table : (rows : List Row) (t : Table) → table_of t ≡ rows → ClearedAfter t → load_refusal rows ≡ none → Loads rows (Ok t)
loads_table rows t is clear h = (sym h, rw h is, clear)

-- the table that stands there is the loaded one, or the one without rows in its place
pub loaded_is : (l : Result Table Refusal) → result_unwrap_or l no_table ≡ loaded l
loaded_is (Ok t) = refl
loaded_is (Err r) = refl

-- ---- WHAT LOADING PROMISES, of the struct's own fields. Behind the rows that it counts a table has nothing but 0, ..
pub cleared_gives : (t : Table) → ClearedAfter t → (k : ℕ) → t.count ≤ k
    → let r : RowStruct = get_or t.rows k (record { day = record { 0 = 0 }; tolerance = record { 0 = 0 } }) in (r.day.0 ≡ 0) × (r.tolerance.0 ≡ 0)
cleared_gives t c k h = (ap (λ (r : Row). r.day) (c k h), ap (λ (r : Row). r.row_tolerance) (c k h))

-- .. and loading says the refusal and hands out no row, or accepts and hands out the rows; and either way it has cleared what stands behind them
pub loads_gives : (rows : List Row) (l : Result Table Refusal) → Loads rows l
    → let t : Table = loaded l in
    let at : ℕ → RowStruct = λ k. get_or t.rows k (record { day = record { 0 = 0 }; tolerance = record { 0 = 0 } }) in
    ((k : ℕ) → load_refusal rows ≡ some k → ((r : Refusal) × (l ≡ Err r) × (number_of r ≡ k)) × (t.count ≡ 0))
    × (load_refusal rows ≡ none → (l ≡ Ok t) × (each (λ (k : ℕ). record { day = (at k).day.0; row_tolerance = (at k).tolerance.0 }) 0 t.count ≡ rows))
    × ((k : ℕ) → t.count ≤ k → ((at k).day.0 ≡ 0) × ((at k).tolerance.0 ≡ 0))
loads_gives rows (Ok t) (said, table, cleared) = (
  λ k h. absurd (some_none (sym (said ∙ h))),
  λ h. (refl, table ∙ rw h refl),
  cleared_gives t cleared,
)
loads_gives rows (Err r) (said, table, cleared) = (
  λ k h. ((r, refl, some_same (said ∙ h)), refl),
  λ h. absurd (some_none (said ∙ h)),
  cleared_gives no_table cleared,
)

-- ---- the 65 numbers of a lent table: its rows, behind which it has none, ..
module _ (numbers : List ℕ) (all : length numbers ≡ 65) where
  none_behind : (i : ℕ) → 32 ≤ i → number_row numbers i ≡ row_of no_row
  none_behind i h = rw (get_or-eq_default numbers 0 {n = 1 + 2 * i} (omega arith), get_or-eq_default numbers 0 {n = 2 + 2 * i} (omega arith)) refl

  pub numbers_are : (t : Table) → FilledTo (number_row numbers) 32 t.rows → t.count ≡ get_or numbers 0 0 → table_of t ≡ numbers_table numbers
  numbers_are t f e = rw e (each_same (row_at t) (number_row numbers) 0 (get_or numbers 0 0) (λ i l m. go i (test 32 i)))
    where
      go : (i : ℕ) → {b : Bool} → Test 32 i b → row_at t i ≡ number_row numbers i
      go i (holds l) = ap row_of (f.cleared i l) ∙ sym (none_behind i l)
      go i (fails l) = f.filled i l

-- .. and table k of a lent list, or one without rows where it isn't lent whole
module _ (tables : List ℕ) (k : ℕ) where
  pub numbers_lent : (t : Table) → table_of t ≡ numbers_table (take 65 (drop (65 * k) tables)) → 65 * k + 65 ≤ length tables → table_of t ≡ table_at tables k
  numbers_lent t e h = rw (le-leb (65 * k + 65) (length tables) h) e

  -- said of the places in the whole list, row by row
  abbrev numbers : List ℕ
  numbers = take 65 (drop (65 * k) tables)

  number_at_place : (i : ℕ) → i < 65 → get_or numbers i 0 ≡ get_or tables (65 * k + i) 0
  number_at_place i h = get_or-take 65 (drop (65 * k) tables) i 0 h ∙ get_or-drop (65 * k) tables i 0

  pub lent_row : (i : ℕ) (r : RowStruct) → i < 32 → r.day.0 ≡ get_or tables (65 * k + 1 + 2 * i) 0 → r.tolerance.0 ≡ get_or tables (65 * k + 2 + 2 * i) 0 → row_of r ≡ number_row numbers i
  lent_row i r h d e =
      let one : 65 * k + 1 + 2 * i ≡ 65 * k + (1 + 2 * i) = omega arith in
      let two : 65 * k + 2 + 2 * i ≡ 65 * k + (2 + 2 * i) = omega arith in
      rw (d, e, one, two, number_at_place (1 + 2 * i) (omega arith), number_at_place (2 + 2 * i) (omega arith)) refl

  beyond : (i : ℕ) → 32 ≤ i → number_row numbers i ≡ row_of no_row
  beyond i h =
      let short : length numbers ≤ 65 = rw (length-take 65 (drop (65 * k) tables)) (omega arith) in
      rw (get_or-eq_default numbers 0 {n = 1 + 2 * i} (omega arith), get_or-eq_default numbers 0 {n = 2 + 2 * i} (omega arith)) refl

  pub lent_table : (t : Table) → FilledTo (number_row numbers) 32 t.rows → t.count ≡ get_or tables (65 * k) 0 → 65 * k + 65 ≤ length tables → table_of t ≡ table_at tables k
  lent_table t f e h = rw (le-leb (65 * k + 65) (length tables) h) (many ∙ each_same (row_at t) (number_row numbers) 0 (get_or numbers 0 0) (λ i l m. go i (test 32 i)))
    where
      many : table_of t ≡ each (row_at t) 0 (get_or numbers 0 0)
      many = ap (each (row_at t) 0) (e ∙ sym (number_at_place 0 (omega arith) ∙ ap (λ (p : ℕ). get_or tables p 0) (omega arith)))

      go : (i : ℕ) → {b : Bool} → Test 32 i b → row_at t i ≡ number_row numbers i
      go i (holds l) = ap row_of (f.cleared i l) ∙ sym (beyond i l)
      go i (fails l) = f.filled i l

  pub not_lent : (t : Table) → t.count ≡ 0 → length tables < 65 * k + 65 → table_of t ≡ table_at tables k
  unfolding each
  not_lent t e h = rw (lt-leb (65 * k + 65) (length tables) h, e) refl

-- ---- EVERY TABLE THAT THE STRUCT CAN HOLD has its 65 numbers. Its room and its 16 bits are the struct's own.
pub record Held (t : Table) : Type 0 where
  pub room : length t.rows ≡ 32
  pub count_16 : t.count < 65536
  pub rows_16 : All (λ (r : RowStruct). (r.day.0 < 65536) × (r.tolerance.0 < 65536)) t.rows

by_turns : List RowStruct → List ℕ
by_turns [] = []
by_turns (r ∷ rows) = r.day.0 ∷ r.tolerance.0 ∷ by_turns rows

twice : (rows : List RowStruct) → length (by_turns rows) ≡ 2 * length rows
unfolding by_turns
twice [] = refl
twice (r ∷ rows) = omega (arith, twice rows)

day_there : (rows : List RowStruct) (k : ℕ) → get_or (by_turns rows) (2 * k) 0 ≡ (row_in rows k).day
unfolding by_turns
day_there [] k = refl
day_there (r ∷ rows) zero = refl
day_there (r ∷ rows) (suc k) = let e : 2 * suc k ≡ suc (suc (2 * k)) = omega arith in rw e (day_there rows k)

tolerance_there : (rows : List RowStruct) (k : ℕ) → get_or (by_turns rows) (suc (2 * k)) 0 ≡ (row_in rows k).row_tolerance
unfolding by_turns
tolerance_there [] k = refl
tolerance_there (r ∷ rows) zero = refl
tolerance_there (r ∷ rows) (suc k) = let e : 2 * suc k ≡ suc (suc (2 * k)) = omega arith in rw e (tolerance_there rows k)

all_16 : {rows : List RowStruct} → All (λ (r : RowStruct). (r.day.0 < 65536) × (r.tolerance.0 < 65536)) rows → All (λ (n : ℕ). n < 65536) (by_turns rows)
unfolding by_turns
all_16 all_none = all_none
all_16 (all_more h t) = all_more h.0 (all_more h.1 (all_16 t))

pub record HasNumbers (t : Table) : Type 0 where
  pub numbers : List ℕ
  pub all_there : length numbers ≡ 65
  pub numbers_16 : All (λ (n : ℕ). n < 65536) numbers
  pub are_rows : numbers_table numbers ≡ table_of t

pub has_numbers : (t : Table) → Held t → HasNumbers t
has_numbers t h = record {
  numbers = t.count ∷ by_turns t.rows;
  all_there = omega (arith, twice t.rows, h.room);
  numbers_16 = all_more h.count_16 (all_16 h.rows_16);
  are_rows = each_same (number_row (t.count ∷ by_turns t.rows)) (row_at t) 0 t.count (λ k l m. row_there k);
}
  where
    row_there : (k : ℕ) → number_row (t.count ∷ by_turns t.rows) k ≡ row_at t k
    row_there k =
        let one : 1 + 2 * k ≡ suc (2 * k) = omega arith in
        let two : 2 + 2 * k ≡ suc (suc (2 * k)) = omega arith in
        rw (one, two, day_there t.rows k, tolerance_there t.rows k) refl

-- so many rows of the columns, if they are too many
pub long_columns : (days tolerances : List ℕ) (n : ℕ) → 32 < n → load_refusal (each (column_row days tolerances) 0 n) ≡ some 22
long_columns days tolerances n h = long_refused _ (rw (length_each (column_row days tolerances) 0 n) h)

-- as many rows as the shorter column
pub shorter : (days tolerances : List ℕ) (n : ℕ) → n ≡ min (length days) (length tolerances) → (l : Result Table Refusal) → Loads (each (column_row days tolerances) 0 n) l → Loads (column_rows days tolerances) l
shorter days tolerances n e l p = subst (λ (m : ℕ). Loads (each (column_row days tolerances) 0 m) l) e p

-- ---- THE BUILT-IN FOUR ROWS are a table that loading accepts
pub built_in_accepted : load_refusal built_in ≡ none
unfolding first sentence some_bad_row
built_in_accepted = refl

pub built_in_loads : (l : Result Table Refusal) → Loads (column_rows (2 ∷ 7 ∷ 30 ∷ 90 ∷ []) (10 ∷ 25 ∷ 100 ∷ 400 ∷ [])) l → (table_of (loaded l) ≡ built_in) × ClearedAfter (loaded l)
unfolding first sentence some_bad_row each
built_in_loads l p = (p.1, p.2)
