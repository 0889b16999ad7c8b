use Rattle.std.proofs.Common.{◌≡◌, ◌≤◌, sym, ◌∙◌, ap, arith, rules, length}
use Rattle.std.proofs.Math.Option.{none}
use Rattle.record.specs.Checks.{some_bad_row}
use Rattle.table.specs.Answers.{table_of}
use Rattle.table.specs.declared.Table.{Table}
use Rattle.table.proofs.Laws.Checking.{no_rows_refused, long_refused, row_refused, all_accepted, count_is, taken}
use Rattle.table.proofs.accepted.Goals as goal
use Rattle.table.proofs.accepted.Goals.{then-count-eq0-via-then-count-eq0, then-count-eq0-via-else-count-eq0+then-count-gt32}

pub returns-then-count-eq0-clause-refusal : goal.returns-then-count-eq0-clause-refusal
returns-then-count-eq0-clause-refusal c =
    let t : Table = record { count = c.args.count; rows = c.args.rows.now } in
    let n = count_is t in
    elim c.then-count-eq0.branch [
      | then-count-eq0-via-then-count-eq0 w ↦ sym (no_rows_refused (table_of t) (n ∙ w.if-count-eq0.true))
      | then-count-eq0-via-else-count-eq0+then-count-gt32 w ↦ sym (long_refused (table_of t) (omega (arith, n, w.if-count-gt32.true)))
    ]

pub returns-then-some_bad_row-clause-refusal : goal.returns-then-some_bad_row-clause-refusal
returns-then-some_bad_row-clause-refusal c =
    let t : Table = record { count = c.args.count; rows = c.args.rows.now } in
    let n = count_is t in
    let room : length t.rows ≡ 32 = search rules in
    let few : t.count ≤ length t.rows = omega arith in
    sym (row_refused (table_of t) (omega (arith, n, c.if-count-eq0.false)) (omega (arith, n, c.if-count-gt32.false)) (ap (some_bad_row none) (sym (taken t.rows t.count few)) ∙ sym c.some_bad_row.ensures ∙ c.if-some_bad_row.true))

pub returns-clause-refusal : goal.returns-clause-refusal
returns-clause-refusal c =
    let t : Table = record { count = c.args.count; rows = c.args.rows.now } in
    let n = count_is t in
    let room : length t.rows ≡ 32 = search rules in
    let few : t.count ≤ length t.rows = omega arith in
    sym (all_accepted (table_of t) (omega (arith, n, c.if-count-eq0.false)) (omega (arith, n, c.if-count-gt32.false)) (ap (some_bad_row none) (sym (taken t.rows t.count few)) ∙ sym c.some_bad_row.ensures ∙ c.if-some_bad_row.false))

pub returns-clause-rows : goal.returns-clause-rows
returns-clause-rows c =
    let t : Table = record { count = c.args.count; rows = c.args.rows.now } in
    let room : length t.rows ≡ 32 = search rules in
    taken t.rows t.count (omega arith)
