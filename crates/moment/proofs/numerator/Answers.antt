use Rattle.moment.proofs.Laws.Ranges.{NumeratorFits, numerator_fits}
use borrow.Author.Rules.{rules}
use Rattle.moment.proofs.numerator.Goals as goal
use Rattle.moment.proofs.numerator.Goals.{Start}

ranges : (s : Start) → NumeratorFits s.args.i.0 s.args.j.0 s.args.over.0 s.args.gone.0
ranges s = numerator_fits s.requires.0 s.requires.1 (search rules) (search rules)

pub overflow_mul-result-2 : goal.overflow_mul-result-2
overflow_mul-result-2 c = let k = ranges (goal.at-overflow_mul-result-2 c).Start in search (rules, k.s64)

pub overflow_add-result : goal.overflow_add-result
overflow_add-result c = let k = ranges (goal.at-overflow_add-result c).Start in search (rules, k.d64, k.s64)

pub returns : goal.returns
returns c = let k = ranges (goal.at-returns c).Start in search (rules, k.d64, k.s64)
