use mathlib.Core.Path.{refl}
use mir.Facts.{to_z-of_z}
use Rattle.distance.specs.Distance.{deviation}
use Rattle.distance.proofs.Laws.Ranges.{SquaresFit, squares_fit, square_abs}
use borrow.Author.Rules.{rules}
use Rattle.distance.proofs.squares.U64SquaredSum.of.Goals as goal
use Rattle.distance.proofs.squares.U64SquaredSum.of.Goals.{After-deviations-x}

ranges : (c : After-deviations-x) → SquaresFit c.deviations-x.result.0 c.deviations-x.result.1
ranges c = squares_fit (rw c.deviations-x.ensures.0 c.requires.x_off) (rw c.deviations-x.ensures.1 c.requires.y_off)

pub overflow_mul-result : goal.overflow_mul-result
overflow_mul-result c = let k = ranges (goal.at-overflow_mul-result c).After-deviations-x in search rules

pub overflow_cast-result : goal.overflow_cast-result
overflow_cast-result c = let k = ranges (goal.at-overflow_cast-result c).After-deviations-x in search rules

pub overflow_mul-result-2 : goal.overflow_mul-result-2
overflow_mul-result-2 c = let k = ranges (goal.at-overflow_mul-result-2 c).After-deviations-x in search rules

pub overflow_cast-result-2 : goal.overflow_cast-result-2
overflow_cast-result-2 c = let k = ranges (goal.at-overflow_cast-result-2 c).After-deviations-x in search rules

pub overflow_add-result : goal.overflow_add-result
overflow_add-result c = let k = ranges (goal.at-overflow_add-result c).After-deviations-x in search rules

pub returns : goal.returns
unfolding deviation
returns c =
    let k = ranges (goal.at-returns c).After-deviations-x in
    let n = c.deviations-x in
    simp (to_z-of_z, k.x64, k.y64, k.xx, k.yy) (rw (square_abs n.result.0, square_abs n.result.1, n.ensures.0, n.ensures.1) refl)
