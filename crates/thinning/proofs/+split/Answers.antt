use mathlib.Core.Path.{refl}
use native.Mathlib.Omega.{arith}
use Rattle.thinning.specs.Marks.{marks_none}
use Rattle.thinning.proofs.Laws.Marks.{marks_small, judged_ends, judged_split}
use Rattle.thinning.proofs.+split.Goals as goal

pub returns-then-hi-lo-lt2 : goal.returns-then-hi-lo-lt2
returns-then-hi-lo-lt2 t c = marks_none c.if-hi-lo-lt2.true

pub returns-in_default : goal.returns-in_default
returns-in_default t c = judged_ends c.in_default.ensures.1 refl

pub returns : goal.returns
returns t c = judged_split c.in-Some.ensures refl c.split-p.ensures c.split-q.ensures

pub overflow_add-result : goal.overflow_add-result
overflow_add-result t c = omega (arith, marks_small _ _ _ _ (returns t c) (omega arith))

pub overflow_add-result-2 : goal.overflow_add-result-2
overflow_add-result-2 t c = omega (arith, marks_small _ _ _ _ (returns t c) (omega arith))
