use Rattle.std.proofs.Common.{◌≡◌, ◌+◌, ◌*◌, ◌-◌, refl, arith}
use Rattle.table.specs.Answers.{no_table}
use Rattle.table.proofs.Laws.Lent.{numbers_lent, not_lent}
use Rattle.table.proofs.lent.Goals as goal

pub returns-then-k-tables : goal.returns-then-k-tables
returns-then-k-tables c =
    let k = c.args.k in
    let long : 65 * k + 65 - 65 * k ≡ 65 = omega arith in
    numbers_lent c.args.tables.now k c.of_numbers.result (rw long at c.of_numbers.ensures) (omega (arith, c.if-k-tables.true))

pub returns-else-k-tables : goal.returns-else-k-tables
returns-else-k-tables c = rw c.empty.ensures (not_lent c.args.tables.now c.args.k no_table refl (omega (arith, c.if-k-tables.false)))
