use Prim.Native.Nat.{◌*◌, ◌<◌}
use native.Mathlib.Nat.{div-lt_iff_lt-mul}
use native.Mathlib.Omega.{arith}
use Rattle.distance.specs.Rounding.{half_up}
use Rattle.distance.proofs.Laws.Ranges.{half_up_fits}
use Rattle.distance.proofs.half_up.Goals as goal

-- from the quotient as the code has it: a wrong one that fits is refused by its value
pub overflow_cast-result : goal.overflow_cast-result
overflow_cast-result c = let two : 0 < 2 * c.args.d = omega (arith, c.requires.some) in record { sfits = (div-lt_iff_lt-mul two).1 (omega (arith, c.requires.some, c.requires.below)) }

pub returns : goal.returns
unfolding half_up
returns c = (half_up_fits c.requires).plain
