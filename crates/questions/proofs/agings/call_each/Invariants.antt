use mathlib.Core.Path.{◌≡◌}
use Prim.Native.Nat.{◌≤◌}
use lib.ListN.{length, take}
use Rattle.questions.specs.Agings.{run, refused_calls, calls_of}
use Rattle.questions.proofs.agings.call_each.Given as goal

abbrev pub invariant-loop-n : goal.invariant-loop-n
invariant-loop-n l =
    let done = calls_of l.tables (take l.n-index l.calls) in
    (length l.b ≡ length l.initial.b)
    × (l.b ≡ run l.initial.b done)
    × (l.refused ≡ refused_calls l.initial.b done)
    × (l.refused ≤ l.n-index)
