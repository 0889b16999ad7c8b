use Rattle.distance.specs.Fix.{fix_of}
use Rattle.distance.specs.Distance.{seconds, allowance}
use Rattle.distance.proofs.Laws.Ranges.{ReachFits, reach_fits, square_of_product}
use borrow.Author.Rules.{rules}
use Rattle.distance.proofs.allowance.Goals as goal
use Rattle.distance.proofs.allowance.Goals.{After-since-d}

ranges : (c : After-since-d) → ReachFits c.args.e.0 c.since-d.result.0
ranges c = reach_fits _ _ (search rules) (search rules)

pub overflow_mul-reach : goal.overflow_mul-reach
overflow_mul-reach c = let k = ranges (goal.at-overflow_mul-reach c).After-since-d in search rules

pub overflow_mul-result : goal.overflow_mul-result
overflow_mul-result c = let k = ranges (goal.at-overflow_mul-result c).After-since-d in search rules

pub returns : goal.returns
unfolding allowance
returns c =
    let s = c.before.before.before in
    square_of_product s.args.e.0 c.since-d.result.0 (seconds (fix_of s.args.i) (fix_of s.args.j)) c.since-d.ensures
