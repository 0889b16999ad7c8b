use Rattle.std.proofs.Common.{refl, sym, ◌∙◌}
use Rattle.distance.specs.Options.{option_by}
use Rattle.table.specs.Answers.{row_of}
use Rattle.table.proofs.Laws.Checking.{bad_after, bad_end}
use Rattle.table.proofs.some_bad_row.Goals as goal

pub returns-then-bad_row : goal.returns-then-bad_row
returns-then-bad_row c =
    let next = bad_after (option_by row_of c.loop-row.before) c.args.rows.now c.loop-row.row-index c.loop-row-test.true in
    sym (c.loop-row.invariant ∙ next ∙ rw (sym c.bad_row.ensures ∙ c.if-bad_row.true) refl)

pub loop-row-preserved : goal.loop-row-preserved
loop-row-preserved c =
    let next = bad_after (option_by row_of c.loop-row.before) c.args.rows.now c.loop-row.row-index c.loop-row-test.true in
    c.loop-row.invariant ∙ next ∙ rw (sym c.bad_row.ensures ∙ c.if-bad_row.false) refl

pub returns : goal.returns
returns c = sym (c.loop-row.invariant ∙ bad_end (option_by row_of c.loop-row.before) c.args.rows.now c.loop-row.row-index c.loop-row-test.false)
