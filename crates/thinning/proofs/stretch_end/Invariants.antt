use mathlib.Core.Path.{◌≡◌}
use mathlib.Core.Bool.{false}
use Prim.Native.Nat.{ℕ, ◌<◌, ◌≤◌}
use Rattle.format.specs.Fixes.{nth}
use Rattle.distance.specs.Silence.{silent}
use Rattle.thinning.proofs.stretch_end.Given as goal

abbrev pub invariant-loop-hi : goal.invariant-loop-hi
invariant-loop-hi l = (k : ℕ) → l.lo ≤ k → k < l.hi → silent (nth l.fixes k) ≡ false
