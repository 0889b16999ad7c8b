use Rattle.std.proofs.Common.{rules, arith, refl, get_or}
use Rattle.table.specs.Table.{number_row}
use Rattle.table.proofs.Laws.Lent.{filled_by, numbers_are}
use Rattle.table.proofs.of_numbers.Goals as goal

pub returns : goal.returns
returns c =
    let numbers = c.args.numbers.now in
    numbers_are numbers c.requires (record { count = get_or numbers 0 0; rows = c.from_fn.result }) (filled_by 32 (number_row numbers) (λ k r q room call. (search rules, λ l. search rules, λ l. absurd (omega arith))) c.from_fn.result (omega arith) c.from_fn.ensures.items) refl
