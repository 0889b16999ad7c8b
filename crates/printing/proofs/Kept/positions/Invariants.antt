use Prim.Native.Nat.{◌≤◌}
use Rattle.printing.proofs.Kept.positions.Given as goal

abbrev pub invariant-loop-k : goal.invariant-loop-k
invariant-loop-k g l = l.found ≤ l.k-counter
