-- A HALL'S OWN AGING TABLE. Document 02, item 6: "They load rows of day and tolerance in place of the built-in four, and aging by days is handed the table. It
-- applies the last row whose day isn't above the asked one, and nothing before the first row, for every table that loading accepts, the built-in one being a case
-- of it". A table is a list of rows (`Row` of the record's Checks.antt, where its checks stand).
use Rattle.std.specs.Prelude.{◌≡◌, cond, List, [], ◌∷◌, ◌++◌, ℕ, ◌+◌, ◌*◌, ◌<◌, ◌≤◌, min, leb, length, get_or, take, drop}
use Rattle.std.proofs.Math.Option.{Option, some, none}
use Rattle.distance.specs.Laws.All.{All}
use Rattle.format.specs.Format.{each}
use Rattle.record.specs.Checks.{Row, load_refusal}
use Rattle.record.specs.Answers.{Answer, answer}

-- ---- rows as they are lent: a column of days and one of tolerances, and as many rows as both columns have
abbrev pub column_row : (days tolerances : List ℕ) → ℕ → Row
column_row days tolerances k = record { day = get_or days k 0; row_tolerance = get_or tolerances k 0 }

abbrev pub column_rows : (days tolerances : List ℕ) → List Row
column_rows days tolerances = each (column_row days tolerances) 0 (min (length days) (length tolerances))

-- ---- tables as they are lent, one after the other: each is 65 numbers, how many rows it has and then the day and the tolerance of each by turns, with room for 32
-- rows. Table k, counted from 0; one of which not all numbers are lent has no rows.
abbrev pub number_row : (numbers : List ℕ) → ℕ → Row
number_row numbers k = record { day = get_or numbers (1 + 2 * k) 0; row_tolerance = get_or numbers (2 + 2 * k) 0 }

abbrev pub numbers_table : (numbers : List ℕ) → List Row
numbers_table numbers = each (number_row numbers) 0 (get_or numbers 0 0)

abbrev pub table_at : (tables : List ℕ) → (k : ℕ) → List Row
table_at tables k = cond (leb (65 * k + 65) (length tables)) (numbers_table (take 65 (drop (65 * k) tables))) []

-- ---- "the built-in four". Document 01: "from day 2, 10; from day 7, 25; from day 30, 100; from day 90, 400.", in centimetres
abbrev pub built_in : List Row
built_in =
    record { day = 2; row_tolerance = 10 }
    ∷ record { day = 7; row_tolerance = 25 }
    ∷ record { day = 30; row_tolerance = 100 }
    ∷ record { day = 90; row_tolerance = 400 }
    ∷ []

-- ---- "It applies the last row whose day isn't above the asked one, and nothing before the first row": the row's tolerance, in centimetres. `so_far` is what the
-- rows before these gave.
unfoldable pub last_row : (so_far : Option ℕ) → List Row → (days : ℕ) → Option ℕ
last_row so_far [] days = so_far
last_row so_far (r ∷ rows) days = last_row (cond (leb r.day days) (some r.row_tolerance) so_far) rows days

abbrev pub days_give : List Row → (days : ℕ) → Option ℕ
days_give rows days = last_row none rows days

-- What it means: rows may stand before it, its day isn't above the asked one, and all after it are above. (`last_exactly` of Laws/Rows.antt: a tolerance is given
-- exactly if it is such a row's; `none_exactly`: none exactly if every row is above.)
pub record IsLastRow (d e : ℕ) (rows : List Row) : Type 0 where
  pub before : List Row
  pub row : Row
  pub after : List Row
  pub stands : rows ≡ before ++ row ∷ after
  pub not_above : row.day ≤ d
  pub later : All (λ (r : Row). d < r.day) after
  pub gives_it : row.row_tolerance ≡ e

-- What a table is asked for a day: it is turned away as loading would, or gives a tolerance or none.
abbrev pub tolerance_answer : List Row → (days : ℕ) → Answer (Option ℕ)
tolerance_answer rows days = answer (load_refusal rows) (days_give rows days)
