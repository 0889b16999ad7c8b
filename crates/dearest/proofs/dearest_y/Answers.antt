use mir.Facts.{to_z-of_z}
use Prim.Native.Nat.{◌-◌}
use Rattle.distance.specs.Integers.Bounds.{BothSigns}
use Rattle.dearest.proofs.Laws.Fixes.{y_even, y_odd, y_fits}
use Rattle.dearest.proofs.dearest_y.Goals as goal
use Rattle.dearest.proofs.dearest_y.Goals.{Start}

both : (s : Start) → BothSigns (s.args.n - 1 - s.args.i)
both s = y_fits s.args.n s.args.i s.requires.0 s.requires.1

pub overflow_sub-result : goal.overflow_sub-result
overflow_sub-result c = let k = both (goal.at-overflow_sub-result c).Start in rw k.plus k.minus

pub returns-then-i-eq0 : goal.returns-then-i-eq0
returns-then-i-eq0 c = rw (both (goal.at-returns-then-i-eq0 c).Start).plus (y_even _ _ c.requires.0 c.requires.1 c.if-i-eq0.true)

pub returns-else-i-eq0 : goal.returns-else-i-eq0
returns-else-i-eq0 c =
    let k = both (goal.at-returns-else-i-eq0 c).Start in
    rw k.plus (simp (to_z-of_z, k.minus) (y_odd _ _ c.requires.0 c.requires.1 c.if-i-eq0.false))
