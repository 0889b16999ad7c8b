use Rattle.approach.proofs.Laws.Ranges.{ProductsFit, products_fit}
use borrow.Author.Rules.{rules}
use Rattle.approach.proofs.Vector.dot.Goals as goal
use Rattle.approach.proofs.Vector.dot.Goals.{Start}

ranges : (s : Start) → ProductsFit s.args.self s.args.w
ranges s = products_fit s.requires.0 s.requires.1

pub overflow_mul-result : goal.overflow_mul-result
overflow_mul-result c = let k = ranges (goal.at-overflow_mul-result c).Start in search rules

pub overflow_mul-result-2 : goal.overflow_mul-result-2
overflow_mul-result-2 c = let k = ranges (goal.at-overflow_mul-result-2 c).Start in search rules

pub overflow_add-result : goal.overflow_add-result
overflow_add-result c = let k = ranges (goal.at-overflow_add-result c).Start in search rules

pub returns : goal.returns
returns c = let k = ranges (goal.at-returns c).Start in search rules
