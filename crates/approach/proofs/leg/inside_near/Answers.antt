use mathlib.Core.Path.{◌≡◌, refl, sym, ◌∙◌, ap}
use mathlib.Core.Bool.{cond}
use mathlib.Core.Option.{some, none}
use Prim.Native.Nat.{◌*◌, ◌≤◌}
use native.Mathlib.Nat.{mul-le-mul}
use native.Mathlib.Omega.{arith}
use lib.IntN.{nat_abs}
use mir.Syntax.{w64}
use mir.Facts.{to_z-of_z}
use Rattle.approach.proofs.Laws.Ranges.{ProductsFit, products_fit}
use Rattle.approach.specs.Answers.{told}
use Rattle.approach.specs.Laws.Tests.{cross_product, near_inside}
use Rattle.approach.proofs.Laws.Tests.{then_told, inside_as}
use Rattle.approach.proofs.leg.inside_near.Goals as goal
use Rattle.approach.proofs.leg.inside_near.Goals.{After-unsigned_abs, After-unsigned_abs-2, After-unsigned_abs-aside, After-square_at_most, Start}

ranges : (s : Start) → ProductsFit s.args.p s.args.m
ranges s = products_fit s.requires.0 s.requires.1

-- |p × m|, |m x| and |m y|
aside_is : (c : After-unsigned_abs-aside) → c.unsigned_abs-aside.result ≡ nat_abs (cross_product c.args.p c.args.m)
aside_is c = c.unsigned_abs-aside.ensures.value ∙ rw (to_z-of_z {w = w64} {z = c.cross_product.result} (record { sfits = c.cross_product.type_inv }) ∙ c.cross_product.ensures) refl

x_is : (c : After-unsigned_abs) → c.unsigned_abs.result ≡ nat_abs c.args.m.x
x_is c = let s = (goal.at-After-unsigned_abs c).Start in c.unsigned_abs.ensures.value ∙ rw (to_z-of_z {w = w64} {z = s.args.m.x} (ranges s).wx) refl

y_is : (c : After-unsigned_abs-2) → c.unsigned_abs-2.result ≡ nat_abs c.args.m.y
y_is c = let s = (goal.at-After-unsigned_abs-2 c).Start in c.unsigned_abs-2.ensures.value ∙ rw (to_z-of_z {w = w64} {z = s.args.m.y} (ranges s).wy) refl

-- the radius times either of the last two
x_reach : (c : After-unsigned_abs) → c.args.r.0 * c.unsigned_abs.result ≤ 102400000000
x_reach c =
    mul-le-mul {n₁ = c.args.r.0} {m₁ = c.unsigned_abs.result} {n₂ = 320000} {m₂ = 320000} c.requires.2 (rw (x_is c) c.requires.1.x_short)

y_reach : (c : After-unsigned_abs-2) → c.args.r.0 * c.unsigned_abs-2.result ≤ 102400000000
y_reach c =
    mul-le-mul {n₁ = c.args.r.0} {m₁ = c.unsigned_abs-2.result} {n₂ = 320000} {m₂ = 320000} c.requires.2 (rw (y_is c) c.requires.1.y_short)

pub overflow_mul-reach : goal.overflow_mul-reach
overflow_mul-reach c = omega (arith, x_reach c)

pub overflow_mul-reach-2 : goal.overflow_mul-reach-2
overflow_mul-reach-2 c = omega (arith, y_reach c)

pub square_at_most-requires : goal.square_at_most-requires
square_at_most-requires c =
    let k = ranges (goal.at-square_at_most-requires c).Start in
    (omega (arith, aside_is (goal.at-square_at_most-requires c).After-unsigned_abs-aside, k.cross_product_low), omega (arith, x_reach (goal.at-square_at_most-requires c).After-unsigned_abs), omega (arith, y_reach c))

-- what the test said
said : (c : After-square_at_most) → cond c.square_at_most.result (some c.args.foot) none
    ≡ near_inside c.args.p c.args.m c.args.foot c.args.r.0
said c =
    inside_as c.args.p c.args.m c.args.foot c.args.r.0 _ _ _ c.square_at_most.result (aside_is (goal.at-After-square_at_most c).After-unsigned_abs-aside) (x_is (goal.at-After-square_at_most c).After-unsigned_abs) (y_is (goal.at-After-square_at_most c).After-unsigned_abs-2) (sym c.square_at_most.ensures)

pub returns : goal.returns
returns c = ap told c.then_some.ensures ∙ then_told _ _ ∙ said (goal.at-returns c).After-square_at_most
