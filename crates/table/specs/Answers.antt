-- What the structs and enums of the code say, as the papers' rows, numbers and values. `declared.X` is the struct or enum X of the code, `TheVariants` its cases,
-- and `.0` the number in a struct of one field.
use Rattle.std.specs.Prelude.{◌≡◌, List, [], ℕ, ◌≤◌, get_or, replicate, Option as Optional, Result, Ok, Err, zero, suc}
use Rattle.std.proofs.Math.Option.{Option, some, none}
use Rattle.distance.specs.Options.{option_by}
use Rattle.format.specs.Format.{each}
use Rattle.record.specs.Checks.{Row, load_refusal}
use Rattle.record.specs.Answers.{Answer, answer_by, refused, unless}
use Rattle.record.specs.declared.refusal.Refusal.{Refusal}
use Rattle.table.specs.declared.Row.{Row as RowStruct}
use Rattle.table.specs.declared.RowTolerance.{RowTolerance}
use Rattle.table.specs.declared.Table.{Table}

-- ---- a table: as many rows as its count says. It has room for 32; what would stand behind them is taken for rows of 0, and decides nothing, since a count above
-- 32 is turned away whatever the rows are (`long_refused` of Laws/Checking.antt).
abbrev pub no_row : RowStruct
no_row = record { day = record { 0 = 0 }; tolerance = record { 0 = 0 } }

abbrev pub row_of : RowStruct → Row
row_of r = record { day = r.day.0; row_tolerance = r.tolerance.0 }

abbrev pub row_in : List RowStruct → ℕ → Row
row_in rows k = row_of (get_or rows k no_row)

abbrev pub row_at : Table → ℕ → Row
row_at t = row_in t.rows

abbrev pub table_of : Table → List Row
table_of t = each (row_at t) 0 t.count

-- The row before a position, if there is one.
abbrev pub row_before : Table → ℕ → Option Row
row_before t zero = none
row_before t (suc k) = some (row_at t k)

-- Behind its rows a table that was loaded has nothing but 0.
abbrev pub ClearedAfter : Table → Type 0
ClearedAfter t = (k : ℕ) → t.count ≤ k → row_at t k ≡ row_of no_row

-- ---- what loading these rows says: the refusal, or the table of the rows; beside a refusal stands a table without rows
abbrev pub no_table : Table
no_table = record { count = 0; rows = replicate 32 no_row }

abbrev pub loaded : Result Table Refusal → Table
loaded (Ok t) = t
loaded (Err r) = no_table

abbrev pub Loads : List Row → Result Table Refusal → Type 0
Loads rows l = (refused l ≡ load_refusal rows) × (table_of (loaded l) ≡ unless (load_refusal rows) [] rows) × ClearedAfter (loaded l)

-- The tolerance that a table gives a day, or none, or the refusal.
abbrev pub tolerance_of : RowTolerance → ℕ
tolerance_of e = e.0

abbrev pub on_day : Result (Optional RowTolerance) Refusal → Answer (Option ℕ)
on_day = answer_by (option_by tolerance_of)
