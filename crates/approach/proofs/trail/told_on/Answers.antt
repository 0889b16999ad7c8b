use mathlib.Core.Path.{◌≡◌, refl}
use Prim.Native.Nat.{◌*◌, ◌-◌, ◌≤◌}
use native.Mathlib.Nat.{mul-le-mul}
use native.Mathlib.Omega.{arith}
use Rattle.distance.specs.Integers.Differences.{sub_of_pos}
use Rattle.approach.proofs.trail.told_on.Goals as goal
use Rattle.approach.proofs.trail.told_on.Goals.{After-since-gone, After-since-takes}

gone_is : (c : After-since-gone) → c.since-gone.result.0 ≡ c.args.a.t.0 - c.args.first.0
gone_is c = sub_of_pos c.requires.after c.since-gone.ensures

takes_is : (c : After-since-takes) → c.since-takes.result.0 ≡ c.args.b.t.0 - c.args.a.t.0
takes_is c = sub_of_pos c.requires.rises c.since-takes.ensures

-- each product is at most 65,535 times the greatest denominator
gone_low : (c : After-since-gone) → c.args.s.den * c.since-gone.result.0 ≤ 13421568000000000
gone_low c =
    let p = c.requires in
    mul-le-mul {n₁ = c.args.s.den} {m₁ = c.since-gone.result.0} {n₂ = 204800000000} {m₂ = 65535} p.den_low (omega (arith, gone_is c, p.rises, p.last))

takes_low : (c : After-since-takes) → c.args.s.num * c.since-takes.result.0 ≤ 13421568000000000
takes_low c =
    let p = c.requires in
    mul-le-mul {n₁ = c.args.s.num} {m₁ = c.since-takes.result.0} {n₂ = 204800000000} {m₂ = 65535} (omega (arith, p.on_leg, p.den_low)) (omega (arith, takes_is c, p.after, p.last))

pub since-gone-requires : goal.since-gone-requires
since-gone-requires c = (c.requires.after, omega (arith, c.requires.rises, c.requires.last))

pub since-takes-requires : goal.since-takes-requires
since-takes-requires c = let p = c.requires in (p.rises, omega (arith, p.after, p.last))

pub overflow_mul-result : goal.overflow_mul-result
overflow_mul-result c = omega (arith, gone_low (goal.at-overflow_mul-result c).After-since-gone)

pub overflow_mul-result-2 : goal.overflow_mul-result-2
overflow_mul-result-2 c = omega (arith, takes_low (goal.at-overflow_mul-result-2 c).After-since-takes)

pub overflow_add-result : goal.overflow_add-result
overflow_add-result c = omega (arith, gone_low (goal.at-overflow_add-result c).After-since-gone, takes_low (goal.at-overflow_add-result c).After-since-takes)

pub returns : goal.returns
returns c = rw (gone_is (goal.at-returns c).After-since-gone, takes_is (goal.at-returns c).After-since-takes) refl
