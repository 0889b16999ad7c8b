use mathlib.Core.Path.{◌∙◌, ap}
use native.Mathlib.Omega.{arith}
use Rattle.std.proofs.lemmas.Bool.Decides.{nat_tests}
use Rattle.record.specs.Answers.{gives}
use Rattle.record.proofs.Laws.Trail.{lent}
use Rattle.moment.proofs.Laws.Walk.{walk_start, walk_leg, walk_found, walk_next, walk_end}
use Rattle.moment.proofs.place_on.Goals as goal

pub at-a-requires : goal.at-a-requires
at-a-requires c = let r = c.requires in (lent r.is_accepted r.kind r.count).some

pub loop-k-init : goal.loop-k-init
loop-k-init c = walk_start c.requires c.at-a.ensures

pub heard_on_leg-requires : goal.heard_on_leg-requires
heard_on_leg-requires c = walk_leg c.loop-k.invariant c.loop-k-test.true c.at-z.ensures (grind (arith, nat_tests, c.if-le.ensures, c.new.ensures))

pub returns-then-le : goal.returns-then-le
returns-then-le c =
    c.heard_on_leg.ensures
    ∙ walk_found c.loop-k.invariant c.loop-k-test.true c.at-z.ensures (grind (arith, nat_tests, c.if-le.ensures, c.new.ensures))

pub loop-k-preserved : goal.loop-k-preserved
loop-k-preserved c = walk_next c.loop-k.invariant c.loop-k-test.true c.at-z.ensures (grind (arith, nat_tests, c.if-le.ensures, c.new.ensures))

pub returns : goal.returns
returns c = ap gives c.alone.ensures ∙ walk_end c.loop-k.invariant c.loop-k-test.false
