use Rattle.std.proofs.Common.{◌≡◌, length}
use Rattle.format.specs.Kinds.{layout}
use Rattle.aging.specs.Laws.Pack.{Packed}
use Rattle.aging.proofs.pack.Given as goal

abbrev pub invariant-loop-k : goal.invariant-loop-k
invariant-loop-k l = (length l.b ≡ length l.initial.b) × Packed (layout l.kind) l.initial.b l.keep l.k l.b l.w
