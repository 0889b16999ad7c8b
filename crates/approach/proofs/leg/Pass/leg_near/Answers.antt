use mathlib.Core.Path.{refl, sym, ◌∙◌}
use Rattle.approach.specs.Approach.{leg_near}
use Rattle.approach.proofs.leg.Pass.leg_near.Goals as goal

pub returns-then-silent : goal.returns-then-silent
unfolding leg_near
returns-then-silent c = c.silent_near.ensures ∙ rw (sym c.silent.ensures ∙ c.if-silent.true) refl

pub returns : goal.returns
unfolding leg_near
returns c = c.heard_near.ensures ∙ rw (sym c.silent.ensures ∙ c.if-silent.false) refl
