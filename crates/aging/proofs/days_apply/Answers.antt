use Rattle.std.proofs.Common.{◌≡◌, sym, ◌∙◌, ap, rules}
use Rattle.format.specs.Kinds.{layout}
use Rattle.format.specs.Format.{kind_of}
use Rattle.distance.specs.declared.Tolerance.{Tolerance}
use Rattle.record.specs.Answers.{gives}
use Rattle.record.proofs.Laws.Answers.{turned_away}
use Rattle.distance.specs.Options.{option_by}
use Rattle.table.specs.Answers.{tolerance_of, table_of}
use Rattle.aging.specs.Aging.{in_unit}
use Rattle.aging.specs.Laws.Days.{answer_in_unit}
use Rattle.aging.proofs.Laws.Days.{record_refused, table_answers}
use Rattle.aging.proofs.days_apply.Goals as goal

pub returns-in_err-kind : goal.returns-in_err-kind
returns-in_err-kind c =
    turned_away _ c.from_residual.result _ c.from_residual.ensures.1 ∙ record_refused c.args.b.now c.args.days.0 _ (table_of c.args.t) (sym c.in_err-kind.ensures.refusal)

pub returns-in_err-row : goal.returns-in_err-row
returns-in_err-row c =
    let b = c.args.b.now in
    turned_away _ c.from_residual-in_err-row.result _ c.from_residual-in_err-row.ensures.1
    ∙ ap (answer_in_unit (kind_of b)) c.in_err-row.ensures
    ∙ table_answers b c.args.days.0 (table_of c.args.t) (sym c.in_ok-kind.ensures.refusal)

pub returns : goal.returns
returns c =
    let b = c.args.b.now in
    let u : option_by (λ (e : Tolerance). e.0) c.map.result ≡ in_unit (layout c.in_ok-kind.field-0.kind) (option_by tolerance_of c.in_ok-row.row) = search rules in
    ap gives (rw c.in_ok-kind.ensures.fixes.kind_is at u)
    ∙ ap (answer_in_unit (kind_of b)) c.in_ok-row.ensures
    ∙ table_answers b c.args.days.0 (table_of c.args.t) (sym c.in_ok-kind.ensures.refusal)
