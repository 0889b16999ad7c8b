use Rattle.std.proofs.Common.{rules}
use Rattle.anchors.proofs.Laws.Claim.{nothing_lost}
use Rattle.anchors.proofs.read.Goals as goal

pub returns-then-is_ok-clause-exact : goal.returns-then-is_ok-clause-exact
returns-then-is_ok-clause-exact c = nothing_lost c.args.s c.args.r _ (search rules)
