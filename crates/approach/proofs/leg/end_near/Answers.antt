use mathlib.Core.Path.{refl, ◌∙◌, ap}
use native.Mathlib.Nat.{mul-le-mul}
use native.Mathlib.Omega.{arith}
use Rattle.approach.specs.Answers.{told}
use Rattle.approach.proofs.Laws.Tests.{then_told}
use Rattle.approach.proofs.leg.end_near.Goals as goal

pub overflow_mul-reach : goal.overflow_mul-reach
overflow_mul-reach c = omega (arith, mul-le-mul {n₁ = c.args.r.0} {m₁ = c.args.r.0} {n₂ = 320000} {m₂ = 320000} c.requires.1 c.requires.1)

pub returns : goal.returns
returns c = ap told c.then_some.ensures ∙ then_told _ _ ∙ rw c.length_squared.ensures refl
