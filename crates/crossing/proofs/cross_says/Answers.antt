use mathlib.Core.Path.{sym, ◌∙◌}
use Rattle.record.proofs.Laws.Answers.{passed_on}
use Rattle.crossing.specs.Answers.{box_of}
use Rattle.crossing.proofs.Laws.Checking.{cross_refused}
use Rattle.crossing.proofs.cross_says.Goals as goal

pub returns-in_err-fixes : goal.returns-in_err-fixes
returns-in_err-fixes c =
    passed_on c.from_residual.result _ c.from_residual.ensures.1 ∙ sym (cross_refused c.args.b.now _ _ (box_of c.args.e) _ (sym c.in_err-fixes.ensures.refusal))
