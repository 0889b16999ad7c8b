use mathlib.Core.Path.{◌≡◌}
use Prim.Native.Nat.{◌-◌}
use lib.ListN.{length}
use Rattle.distance.specs.Distance.{deviation, allowance}
use Rattle.format.specs.Kinds.{layout}
use Rattle.format.specs.Format.{fix_at}
use Rattle.distance.specs.Silence.{silent}
use Rattle.thinning.specs.Marks.{MarkedTo}
use Rattle.thinning.proofs.mark_kept.Given as goal

abbrev pub invariant-loop-lo : goal.invariant-loop-lo
invariant-loop-lo l = (length l.keep ≡ length l.initial.keep) × MarkedTo deviation allowance (fix_at (layout l.fn.kind) l.b) l.e.0 silent l.n l.lo l.keep l.count

abbrev pub decreases-loop-lo : goal.decreases-loop-lo
decreases-loop-lo l = l.n - l.lo
