use mathlib.Core.Path.{◌∙◌, ap}
use Rattle.export.specs.Interface.{spot_numbers}
use Rattle.export.proofs.questions_of.trails_place.Goals as goal

pub returns : goal.returns
returns c = c.from.ensures ∙ ap spot_numbers c.place.ensures
