use Rattle.std.proofs.Common.{sym, ◌∙◌}
use Rattle.rewrite.proofs.Laws.{answer_within}
use Rattle.rewrite.proofs.rewrite.Goals as goal

pub returns-clause-within : goal.returns-clause-within
returns-clause-within g c = λ n e. answer_within _ _ _ n (sym e ∙ c.write_anew.ensures.0) c.write_anew.ensures.1
