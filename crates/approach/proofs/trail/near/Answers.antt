use mathlib.Core.Path.{sym}
use Rattle.distance.specs.Place.{point_of}
use Rattle.record.proofs.Laws.Answers.{turned_away}
use Rattle.approach.specs.Answers.{told}
use Rattle.approach.proofs.Laws.Checking.{refused_means, asked_means}
use Rattle.approach.proofs.trail.near.Goals as goal

pub returns-in_err-near_says-clause-meaning : goal.returns-in_err-near_says-clause-meaning
returns-in_err-near_says-clause-meaning c =
    rw (turned_away told c.from_residual.result _ c.from_residual.ensures.1) (refused_means c.args.b.now (point_of c.args.c) _ _ (sym c.in_err-near_says.ensures)).1

pub returns-clause-meaning : goal.returns-clause-meaning
returns-clause-meaning c = (asked_means c.args.b.now (point_of c.args.c) _ _ c.near_asked.ensures).1
