use Rattle.std.proofs.Common.{rules}
use Rattle.legs.specs.Laws.Times.{Each}
use Rattle.legs.specs.Laws.Ranges.{FractionFits}
use Rattle.legs.proofs.Laws.Ranges.{PartsFit, parts_fit}
use Rattle.legs.proofs.Laws.Times.{both_each}
use Rattle.legs.proofs.leg.leg_times.Goals as goal
use Rattle.legs.proofs.leg.leg_times.Goals.{After-both}

parts : (c : After-both) → PartsFit c.args.a c.args.b c.args.f c.args.w.opens.0 c.args.w.closes.0
parts c = parts_fit c.requires (search rules) (search rules) (search rules)

-- the times of the leg and of the window fit, and so on with each axis
both_fits : (c : After-both) → Each FractionFits c.both.result
both_fits c = rw c.both.ensures (both_each FractionFits (rw c.whole.ensures (parts c).whole) (rw c.whole-2.ensures (parts c).window))

pub both-requires-2 : goal.both-requires-2
both-requires-2 c = let w = (goal.at-both-requires-2 c).After-both in (both_fits w, rw c.axis-x.ensures (parts w).x)

pub both-requires-3 : goal.both-requires-3
both-requires-3 c =
    let w = (goal.at-both-requires-3 c).After-both in
    (rw c.both-2.ensures (both_each FractionFits (both_fits w) (rw c.axis-x.ensures (parts w).x)), rw c.axis-y.ensures (parts w).y)
