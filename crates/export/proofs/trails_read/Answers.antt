use mathlib.Core.Path.{sym, ◌∙◌, ap}
use Rattle.record.specs.Answers.{refused}
use Rattle.export.proofs.Laws.{step_refused, step_yielded}
use Rattle.export.proofs.trails_read.Goals as goal

pub returns-in-Err : goal.returns-in-Err
returns-in-Err c = step_refused c.args.b.now _ _ _ c.number.ensures (sym c.check.ensures ∙ ap refused c.in-Err.is)

pub returns-in-Ok : goal.returns-in-Ok
returns-in-Ok c =
    let b = c.args.b.now in
    step_yielded b _ _ _ _ (sym c.check.ensures ∙ ap refused c.in-Ok.is) c.head_of.ensures.0 c.step_of.ensures c.read_at.ensures
