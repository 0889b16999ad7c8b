use mathlib.Core.Path.{sym, ◌∙◌, ap}
use Rattle.record.specs.Answers.{refused}
use Rattle.export.proofs.Laws.{head_refused, head_accepted}
use Rattle.export.proofs.trails_check.Goals as goal

pub returns-in-Err : goal.returns-in-Err
returns-in-Err c =
    head_refused c.args.b.now _ _ c.number.ensures (sym c.check.ensures ∙ ap refused c.in-Err.is)

pub returns-in-Ok : goal.returns-in-Ok
returns-in-Ok c =
    head_accepted c.args.b.now _ _ _ c.head_of-h.ensures.0 c.head_of-h.ensures.1 c.head_of-h.ensures.2 (sym c.check.ensures ∙ ap refused c.in-Ok.is)
