use Rattle.thinning.proofs.+split.Given as goal
use Prim.Native.Nat.{◌-◌}

abbrev pub decreases-split : goal.decreases-split
decreases-split l = l.hi - l.lo
