use Rattle.std.proofs.Common.{rules, tests, arith, refl}
use Rattle.table.specs.Table.{column_row}
use Rattle.table.proofs.Laws.Lent.{filled_by, filled_table}
use Rattle.table.proofs.filled.Goals as goal

pub returns : goal.returns
returns c =
    let n = c.args.n in
    let row = column_row c.args.days.now c.args.tolerances.now in
    filled_table row n (record { count = n; rows = c.from_fn.result }) (filled_by n row (λ k r q room call. (search rules, λ l. search (rules, tests), λ l. search (rules, tests))) c.from_fn.result (omega arith) c.from_fn.ensures.items) refl
