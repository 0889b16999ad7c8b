use mathlib.Core.Path.{◌∙◌, ap}
use Rattle.export.specs.Interface.{value_numbers}
use Rattle.export.proofs.trails_read_all.Goals as goal

pub returns : goal.returns
returns c =
    let done = c.read_all.ensures in
    (c.from.ensures ∙ ap value_numbers done.answer, done.times, done.xs, done.ys, done.silences)
