use Rattle.std.proofs.Common.{◌≡◌, sym, length, min}
use Rattle.record.specs.declared.refusal.Refusal.TheVariants.{BadRowCount}
use Rattle.table.specs.Table.{column_rows}
use Rattle.table.specs.Answers.{table_of}
use Rattle.table.proofs.Laws.Lent.{loads_refused, loads_table, loads_passed, long_columns}
use Rattle.table.proofs.load.Goals as goal
use Rattle.table.proofs.load.Goals.{After-filled-table}

-- as many rows as the shorter column
filled : (c : After-filled-table) → table_of c.filled-table.result ≡ column_rows c.args.days.now c.args.tolerances.now
filled c = rw c.min-n.ensures at c.filled-table.ensures.0

pub returns-then-n-gt32 : goal.returns-then-n-gt32
returns-then-n-gt32 c =
    let days = c.args.days.now in
    let tolerances = c.args.tolerances.now in
    loads_refused _ BadRowCount (long_columns days tolerances (min (length days) (length tolerances)) (rw c.min-n.ensures at c.if-n-gt32.true))

pub returns-in_err-check : goal.returns-in_err-check
returns-in_err-check c =
    let e = filled (goal.at-returns-in_err-check c).After-filled-table in
    loads_passed _ _ c.from_residual.result c.from_residual.ensures.1 (rw e at (sym c.in_err-check.ensures))

pub returns : goal.returns
returns c =
    let e = filled (goal.at-returns c).After-filled-table in
    loads_table _ c.filled-table.result e c.filled-table.ensures.1 (rw e at (sym c.in_ok-check.ensures))
