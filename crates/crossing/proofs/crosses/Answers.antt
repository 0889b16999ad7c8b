use mathlib.Core.Path.{sym}
use Rattle.record.proofs.Laws.Answers.{turned_away}
use Rattle.legs.specs.Answers.{meeting}
use Rattle.crossing.specs.Answers.{box_of}
use Rattle.crossing.proofs.Laws.Checking.{refused_means, asked_means}
use Rattle.crossing.proofs.crosses.Goals as goal

pub returns-in_err-cross_says-clause-means : goal.returns-in_err-cross_says-clause-means
returns-in_err-cross_says-clause-means c =
    rw (turned_away meeting c.from_residual.result _ c.from_residual.ensures.1)
    (refused_means c.args.b.now _ _ (box_of c.args.e) _ (sym c.in_err-cross_says.ensures)).1

pub returns-clause-means : goal.returns-clause-means
returns-clause-means c = (asked_means c.args.b.now _ _ (box_of c.args.e) _ c.cross_asked.ensures).1
