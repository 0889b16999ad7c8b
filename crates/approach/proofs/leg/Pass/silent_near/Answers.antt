use mathlib.Core.Path.{sym, ◌∙◌}
use Rattle.distance.specs.Fix.{fix_of}
use Rattle.distance.specs.Place.{point_of}
use Rattle.approach.proofs.Laws.Tests.{silent_start, silent_end}
use Rattle.approach.proofs.leg.Pass.silent_near.Goals as goal
use Rattle.approach.proofs.leg.Pass.silent_near.Goals.{After-toward-p, After-toward-q}

pub returns-then-length_squared : goal.returns-then-length_squared
returns-then-length_squared c =
    c.end_near.ensures ∙ rw c.toward-p.ensures (sym (silent_start (fix_of c.args.self.a) (fix_of c.args.self.b) (point_of c.args.self.c) c.args.self.r.0
    (rw (c.length_squared.ensures, c.length_squared-2.ensures, c.toward-p.ensures, c.toward-q.ensures) at c.if-length_squared.true)))

pub returns : goal.returns
returns c =
    c.end_near-2.ensures ∙ rw c.toward-q.ensures (sym (silent_end (fix_of c.args.self.a) (fix_of c.args.self.b) (point_of c.args.self.c) c.args.self.r.0
    (rw (c.length_squared.ensures, c.length_squared-2.ensures, c.toward-p.ensures, c.toward-q.ensures) at c.if-length_squared.false)))
