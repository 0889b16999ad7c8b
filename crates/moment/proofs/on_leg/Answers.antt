use mathlib.Core.Path.{◌≡◌, refl}
use Prim.Native.Nat.{◌+◌, ◌*◌, ◌-◌}
use mir.Facts.{to_z-of_z}
use mir.Syntax.{w64}
use mir.Val.{SFits}
use Rattle.moment.proofs.Laws.Ranges.{roundable_x, roundable_y, leg_standing}
use borrow.Author.Rules.{rules}
use Rattle.moment.proofs.on_leg.Goals as goal
use Rattle.moment.proofs.on_leg.Goals.{After-numerator-y}

-- the leg's thousandths of a second, and those gone
over_is : (c : After-numerator-y) → c.until-over.result.0 ≡ 1000 * c.args.b.t.0 + 0 - (1000 * c.args.a.t.0 + 0)
over_is c = rw (c.until-over.ensures, c.new.ensures, c.new-start.ensures) refl

gone_is : (c : After-numerator-y) → c.until-gone.result.0 ≡ c.args.u.0 - (1000 * c.args.a.t.0 + 0)
gone_is c = rw (c.until-gone.ensures, c.new-start.ensures) refl

-- the numerators fit 64 bits, as what a function of that type gives
x_fits : (c : After-numerator-y) → SFits w64 c.numerator-x.result
x_fits c = search rules

y_fits : (c : After-numerator-y) → SFits w64 c.numerator-y.result
y_fits c = search rules

pub rounded-requires : goal.rounded-requires
rounded-requires c = let k = x_fits c in simp (to_z-of_z, k) (roundable_x c.requires _ _ (over_is c) (gone_is c) _ c.numerator-x.ensures)

pub rounded-requires-2 : goal.rounded-requires-2
rounded-requires-2 c =
    let s = (goal.at-rounded-requires-2 c).After-numerator-y in
    let k = y_fits s in
    simp (to_z-of_z, k) (roundable_y s.requires _ _ (over_is s) (gone_is s) _ s.numerator-y.ensures)

pub returns : goal.returns
returns c =
    let s = (goal.at-returns c).After-numerator-y in
    let x = x_fits s in
    let y = y_fits s in
    simp (to_z-of_z, x, y)
    (leg_standing s.requires _ _ (over_is s) (gone_is s) _ _ _ _ s.numerator-x.ensures s.numerator-y.ensures
    (simp (to_z-of_z, x) at c.rounded.ensures) (simp (to_z-of_z, y) at c.rounded-2.ensures))
