use borrow.Author.Rules.{rules}
use Rattle.distance.proofs.Laws.Ranges.{AxisFits, axis_fits}
use Rattle.distance.proofs.axis_deviation.Goals as goal
use Rattle.distance.proofs.axis_deviation.Goals.{Start}

ranges : (s : Start) → AxisFits s.args.i.0 s.args.m.0 s.args.j.0 s.args.d.0 s.args.s.0
ranges s = axis_fits (search rules) (search rules) (search rules) (search rules) (search rules)

pub overflow_cast-start : goal.overflow_cast-start
overflow_cast-start c = let k = ranges (goal.at-overflow_cast-start c).Start in search rules

pub overflow_cast-result : goal.overflow_cast-result
overflow_cast-result c = let k = ranges (goal.at-overflow_cast-result c).Start in search rules

pub overflow_sub-result : goal.overflow_sub-result
overflow_sub-result c = let k = ranges (goal.at-overflow_sub-result c).Start in search rules

pub overflow_mul-result : goal.overflow_mul-result
overflow_mul-result c = let k = ranges (goal.at-overflow_mul-result c).Start in search (rules, k.d64)

pub overflow_cast-result-3 : goal.overflow_cast-result-3
overflow_cast-result-3 c = let k = ranges (goal.at-overflow_cast-result-3 c).Start in search rules

pub overflow_sub-result-2 : goal.overflow_sub-result-2
overflow_sub-result-2 c = let k = ranges (goal.at-overflow_sub-result-2 c).Start in search rules

pub overflow_mul-result-2 : goal.overflow_mul-result-2
overflow_mul-result-2 c = let k = ranges (goal.at-overflow_mul-result-2 c).Start in search (rules, k.s64)

pub overflow_sub-result-3 : goal.overflow_sub-result-3
overflow_sub-result-3 c = let k = ranges (goal.at-overflow_sub-result-3 c).Start in search (rules, k.d64, k.s64)

pub returns : goal.returns
returns c = let k = ranges (goal.at-returns c).Start in search (rules, k.d64, k.s64)
