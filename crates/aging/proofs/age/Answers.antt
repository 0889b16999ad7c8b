use mathlib.Core.Path.{sym, ◌∙◌, ap}
use Rattle.record.specs.Answers.{gives}
use Rattle.record.proofs.Laws.Answers.{turned_away}
use Rattle.aging.proofs.Laws.Aging.{age_accepted, age_refused, age_done}
use Rattle.aging.proofs.age.Goals as goal

pub thin-requires : goal.thin-requires
thin-requires c = age_accepted _ c.args.e.0 (sym c.in_ok-age_says.ensures)

pub returns-in_err-age_says : goal.returns-in_err-age_says
returns-in_err-age_says c =
    let d = age_refused _ _ _ (sym c.in_err-age_says.ensures) in
    record { answer = turned_away _ c.from_residual.result _ c.from_residual.ensures.1 ∙ d.0; bytes = d.1 }

pub returns : goal.returns
returns c =
    let d = age_done c.args.b.now c.args.e.0 (sym c.in_ok-age_says.ensures) in
    record { answer = ap gives c.thin.ensures.count ∙ d.0; bytes = c.thin.ensures.bytes ∙ d.1 }
