use mathlib.Core.Path.{◌∙◌, ap}
use Rattle.export.specs.Interface.{applied_numbers}
use Rattle.export.proofs.tables_of.trails_days_apply.Goals as goal

pub returns : goal.returns
returns c = c.from.ensures ∙ ap applied_numbers c.days_apply.ensures
