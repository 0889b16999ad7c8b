use mathlib.Core.Path.{sym}
use Rattle.approach.proofs.Laws.Search.{lone_told}
use Rattle.approach.proofs.trail.lone_near.Goals as goal

pub told_on-requires : goal.told_on-requires
told_on-requires c = lone_told c.in_ok-s.s c.requires (sym c.in_ok-s.ensures)
