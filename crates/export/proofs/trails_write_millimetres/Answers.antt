use mathlib.Core.Path.{◌∙◌, ap}
use Rattle.export.specs.Interface.{value_numbers}
use Rattle.export.proofs.trails_write_millimetres.Goals as goal

pub returns : goal.returns
returns c =
    let done = c.write.ensures in
    (c.from.ensures ∙ ap value_numbers done.0, done.1)
