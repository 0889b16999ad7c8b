use mathlib.Core.Path.{refl}
use native.Mathlib.Omega.{arith}
use mir.Facts.{to_z-of_z}
use Rattle.distance.proofs.Laws.Ranges.{SquaresFit, squares_fit, square_abs}
use borrow.Author.Rules.{rules}
use Rattle.approach.proofs.Vector.length_squared.Goals as goal
use Rattle.approach.proofs.Vector.length_squared.Goals.{Start}

ranges : (s : Start) → SquaresFit s.args.self.x s.args.self.y
ranges s = squares_fit (omega (arith, s.requires.x_short)) (omega (arith, s.requires.y_short))

pub overflow_cast-result : goal.overflow_cast-result
overflow_cast-result c = let k = ranges (goal.at-overflow_cast-result c).Start in search rules

pub overflow_cast-result-2 : goal.overflow_cast-result-2
overflow_cast-result-2 c = let k = ranges (goal.at-overflow_cast-result-2 c).Start in search rules

pub overflow_add-result : goal.overflow_add-result
overflow_add-result c = let k = ranges (goal.at-overflow_add-result c).Start in search rules

pub returns : goal.returns
returns c =
    let s = (goal.at-returns c).Start in
    let k = ranges s in
    simp (to_z-of_z, k.x64, k.y64, k.xx, k.yy) (rw (square_abs s.args.self.x, square_abs s.args.self.y) refl)
