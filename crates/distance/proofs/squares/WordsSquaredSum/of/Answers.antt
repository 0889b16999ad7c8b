use mathlib.Core.Path.{◌≡◌}
use lib.IntN.{nat_abs}
use mir.Facts.{to_z-of_z}
use Rattle.distance.specs.Distance.{deviation}
use Rattle.distance.proofs.Laws.Ranges.{MagnitudesFit, magnitudes_fit}
use Rattle.distance.proofs.squares.WordsSquaredSum.of.Goals as goal
use Rattle.distance.proofs.squares.WordsSquaredSum.of.Goals.{After-deviations-x, After-unsigned_abs, After-unsigned_abs-2}

ranges : (c : After-deviations-x) → MagnitudesFit c.deviations-x.result.0 c.deviations-x.result.1
ranges c = magnitudes_fit (rw c.deviations-x.ensures.0 c.requires.x_off) (rw c.deviations-x.ensures.1 c.requires.y_off)

-- the two numbers are |Nx| and |Ny|
x_is : (c : After-unsigned_abs) → c.unsigned_abs.result ≡ nat_abs c.deviations-x.result.0
x_is c = let k = ranges (goal.at-After-unsigned_abs c).After-deviations-x in simp (to_z-of_z, k.x64) at c.unsigned_abs.ensures.value

y_is : (c : After-unsigned_abs-2) → c.unsigned_abs-2.result ≡ nat_abs c.deviations-x.result.1
y_is c = let k = ranges (goal.at-After-unsigned_abs-2 c).After-deviations-x in simp (to_z-of_z, k.y64) at c.unsigned_abs-2.ensures.value

pub sum_of_squares-requires : goal.sum_of_squares-requires
sum_of_squares-requires c =
    let k = ranges (goal.at-sum_of_squares-requires c).After-deviations-x in
    (rw (x_is (goal.at-sum_of_squares-requires c).After-unsigned_abs) k.x_40, rw (y_is c) k.y_40)

pub returns : goal.returns
unfolding deviation
returns c =
    let n = c.deviations-x in
    rw (← n.ensures.0, ← n.ensures.1, ← x_is (goal.at-returns c).After-unsigned_abs, ← y_is (goal.at-returns c).After-unsigned_abs-2) c.sum_of_squares.ensures.is
