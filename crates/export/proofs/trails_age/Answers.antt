use mathlib.Core.Path.{◌∙◌, ap}
use Rattle.export.specs.Interface.{value_numbers}
use Rattle.export.proofs.trails_age.Goals as goal

pub returns : goal.returns
returns c =
    let done = c.age.ensures in
    (c.from.ensures ∙ ap value_numbers done.answer, done.bytes)
