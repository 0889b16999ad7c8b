use mathlib.Core.Path.{sym}
use Rattle.distance.specs.Integers.Differences.{pos_sub}
use Rattle.distance.proofs.since.Goals as goal

pub returns : goal.returns
returns c = let s = c.before.before in sym (pos_sub s.args.a.0 s.args.b.0 s.requires.0)
