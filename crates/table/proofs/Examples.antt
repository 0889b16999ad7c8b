-- TABLES IN NUMBERS. Rows, written out, and what document 02's item 6 says of them: the definitions and the code cannot be changed together without these rows.
-- Each line is computed.
use Rattle.std.specs.Prelude.{◌≡◌, refl, List, [], ◌∷◌, ◌++◌, ℕ, zero, suc, ◌<◌, replicate, Ok, Err, Some, None}
use Rattle.std.proofs.Math.Option.{some, none}
use Rattle.std.proofs.Common.{arith}
use Rattle.distance.proofs.Examples.{Computes}
use Rattle.distance.specs.Laws.All.{All, all_none, all_more}
use Rattle.format.specs.Format.{each}
use Rattle.record.specs.Checks.{Row, first, sentence, some_bad_row, load_refusal}
use Rattle.record.specs.Answers.{gives, turns_away}
use Rattle.record.proofs.Examples.{row}
use Rattle.table.specs.Answers.{table_of, on_day}
use Rattle.record.specs.declared.refusal.Refusal.TheVariants.{BadRowCount}
use Rattle.table.proofs.Laws.Lent.{Held}
use Rattle.table.specs.declared.Table.{Table}
use Rattle.table.specs.declared.Row.{Row as RowStruct}
use Rattle.table.specs.Table.{column_rows, table_at, last_row, days_give, tolerance_answer, built_in}

-- ---- two columns are as many rows as the shorter has
pub column_rows_computed : Computes (λ (c : List ℕ × List ℕ). column_rows c.0 c.1) (((2 ∷ 7 ∷ [], 10 ∷ 25 ∷ 400 ∷ []), row 2 10 ∷ row 7 25 ∷ []) ∷ ((2 ∷ 7 ∷ [], 10 ∷ []), row 2 10 ∷ []) ∷ (([], 10 ∷ []), []) ∷ [])
unfolding each
column_rows_computed = refl

-- ---- the built-in table: "from day 2, 10; from day 7, 25; from day 30, 100; from day 90, 400. Days 0 and 1 apply no tolerance"
pub days_computed : Computes (days_give built_in) ((0, none) ∷ (1, none) ∷ (2, some 10) ∷ (6, some 10) ∷ (7, some 25) ∷ (29, some 25) ∷ (30, some 100) ∷ (89, some 100) ∷ (90, some 400) ∷ (65535, some 400) ∷ [])
unfolding last_row
days_computed = refl

-- .. and another: "nothing before the first row", the first and the last day of each row, and the last row for ever
pub hall_computed : Computes (days_give (row 14 5 ∷ row 60 5 ∷ row 365 32000 ∷ [])) ((0, none) ∷ (13, none) ∷ (14, some 5) ∷ (59, some 5) ∷ (60, some 5) ∷ (364, some 5) ∷ (365, some 32000) ∷ (65535, some 32000) ∷ [])
unfolding last_row
hall_computed = refl

-- ---- a struct: as many rows as its count says, the day and the tolerance of each
abbrev pub struct_row : (day tolerance : ℕ) → RowStruct
struct_row d e = record { day = record { 0 = d }; tolerance = record { 0 = e } }

pub struct_computed : table_of (record { count = 2; rows = struct_row 2 10 ∷ struct_row 7 25 ∷ struct_row 9 99 ∷ [] }) ≡ row 2 10 ∷ row 7 25 ∷ []
unfolding each
struct_computed = refl

-- .. and one with all its room, which the struct can hold whatever its count says: no hypothesis of `has_numbers` is empty
abbrev pub full : (count : ℕ) → Table
full count = record { count = count; rows = replicate 32 (struct_row 7 12) }

pub full_held : (count : ℕ) → count < 65536 → Held (full count)
full_held count h = record { room = refl; count_16 = h; rows_16 = go 32 }
  where
    go : (n : ℕ) → All (λ (r : RowStruct). (r.day.0 < 65536) × (r.tolerance.0 < 65536)) (replicate n (struct_row 7 12))
    go zero = all_none
    go (suc n) = all_more {m = struct_row 7 12} (omega arith, omega arith) (go n)

-- ---- tables as numbers, 65 each: the built-in one, one of a single row, and one whose count says 40, of which only 32 can stand there
abbrev pub zeros : (n : ℕ) → List ℕ
zeros n = each (λ k. 0) 0 n

abbrev pub built_in_numbers : List ℕ
built_in_numbers = 4 ∷ 2 ∷ 10 ∷ 7 ∷ 25 ∷ 30 ∷ 100 ∷ 90 ∷ 400 ∷ zeros 56

abbrev pub own_numbers : List ℕ
own_numbers = 1 ∷ 7 ∷ 12 ∷ zeros 62

abbrev pub forty : List ℕ
forty = 40 ∷ 7 ∷ 12 ∷ zeros 62

pub tables_computed : Computes (table_at (built_in_numbers ++ own_numbers ++ forty)) ((0, built_in) ∷ (1, row 7 12 ∷ []) ∷ (2, row 7 12 ∷ each (λ k. row 0 0) 0 39) ∷ (3, []) ∷ [])
unfolding each
tables_computed = refl

-- whatever its rows are, it is turned away by its count; and a table that isn't lent whole has no rows
pub numbers_refused : Computes (λ (l : List ℕ). load_refusal (table_at l 0)) ((built_in_numbers, none) ∷ (forty, some 22) ∷ (4 ∷ 2 ∷ 10 ∷ 7 ∷ 25 ∷ 30 ∷ 100 ∷ 90 ∷ 400 ∷ zeros 55, some 22) ∷ [])
unfolding first sentence some_bad_row each
numbers_refused = refl

-- ---- what the code's answer says of a day
pub answers_computed :
    Computes on_day
    ((Ok None, gives none) ∷ (Ok (Some (record { 0 = 25 })), gives (some 25)) ∷ (Err BadRowCount, turns_away 22) ∷ [])
answers_computed = refl

-- .. and what a table is asked for one: its refusal first
pub days_answered : Computes (λ (r : List Row × ℕ). tolerance_answer r.0 r.1)
    (((built_in, 1), gives none)
    ∷ ((built_in, 7), gives (some 25))
    ∷ (([], 7), turns_away 22)
    ∷ ((row 2 32001 ∷ [], 7), turns_away 23)
    ∷ [])
unfolding first sentence some_bad_row last_row
days_answered = refl
