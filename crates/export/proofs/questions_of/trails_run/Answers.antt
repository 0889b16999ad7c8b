use mathlib.Core.Path.{◌∙◌, ap}
use Rattle.export.specs.Interface.{run_numbers}
use Rattle.export.proofs.questions_of.trails_run.Goals as goal

pub returns : goal.returns
returns c =
    let done = c.call_all.ensures in
    (c.from.ensures ∙ ap run_numbers done.0, done.1)
