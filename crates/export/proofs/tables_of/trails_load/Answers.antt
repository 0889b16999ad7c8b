use mathlib.Core.Path.{ap}
use Rattle.export.specs.Interface.{refusal_number}
use Rattle.export.proofs.tables_of.trails_load.Goals as goal

pub returns : goal.returns
returns c =
    let loads = c.load.ensures in
    rw c.from.ensures (ap refusal_number loads.0, loads.1, loads.2)
