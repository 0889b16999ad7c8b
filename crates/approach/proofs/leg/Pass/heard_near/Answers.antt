use mathlib.Core.Path.{◌≡◌, refl, sym, ◌∙◌}
use mathlib.Core.Bool.{false}
use lib.IntN.{ℤ, pos}
use lib.Signed.{le_z}
use mir.Syntax.{w64}
use mir.Val.{to_z, of_z}
use mir.Facts.{to_z-of_z}
use Rattle.distance.specs.Fix.{fix_of}
use Rattle.distance.specs.Place.{point_of}
use Rattle.approach.specs.Approach.{toward, along, dot}
use Rattle.approach.proofs.Laws.Tests.{heard_start, heard_end, heard_foot}
use Rattle.approach.proofs.leg.Pass.heard_near.Goals as goal
use Rattle.approach.proofs.leg.Pass.heard_near.Goals.{After-toward-m, After-dot-foot, After-toward-p, Else-foot-le0, Start}

-- the product, as the code has it
abbrev foot : Start → ℤ
foot s = dot (toward (fix_of s.args.self.a) (point_of s.args.self.c)) (along (fix_of s.args.self.a) (fix_of s.args.self.b))

foot_is : (c : After-dot-foot) → to_z w64 (of_z w64 c.dot-foot.result) ≡ foot (goal.at-After-dot-foot c).Start
foot_is c = to_z-of_z {w = w64} {z = c.dot-foot.result} (record { sfits = c.dot-foot.type_inv }) ∙ c.dot-foot.ensures ∙ rw (c.toward-p.ensures, c.toward-m.ensures) refl

pub returns-then-foot-le0 : goal.returns-then-foot-le0
returns-then-foot-le0 c =
    let d = (goal.at-returns-then-foot-le0 c).After-dot-foot in
    c.end_near.ensures ∙ rw d.toward-p.ensures (sym (heard_start (fix_of d.args.self.a) (fix_of d.args.self.b) (point_of d.args.self.c) d.args.self.r.0 (rw (foot_is d) at c.if-foot-le0.true)))

-- the product is positive
behind : (c : Else-foot-le0) → le_z (foot (goal.at-Else-foot-le0 c).Start) (pos 0) ≡ false
behind c = rw (foot_is (goal.at-Else-foot-le0 c).After-dot-foot) at c.if-foot-le0.false

pub returns-then-den-num : goal.returns-then-den-num
returns-then-den-num c =
    let d = (goal.at-returns-then-den-num c).After-dot-foot in
    c.end_near-then-den-num.ensures
    ∙ rw c.toward.ensures (sym (heard_end (fix_of d.args.self.a) (fix_of d.args.self.b) (point_of d.args.self.c) d.args.self.r.0 (behind (goal.at-returns-then-den-num c).Else-foot-le0)
    (rw (c.length_squared-den.ensures, d.toward-m.ensures, foot_is d) at c.if-den-num.true)))

pub returns : goal.returns
returns c =
    let d = (goal.at-returns c).After-dot-foot in
    c.inside_near.ensures
    ∙ rw (d.toward-p.ensures, d.toward-m.ensures, c.length_squared-den.ensures, d.toward-m.ensures, foot_is d) (sym (heard_foot (fix_of d.args.self.a) (fix_of d.args.self.b) (point_of d.args.self.c) d.args.self.r.0 (behind (goal.at-returns c).Else-foot-le0)
    (rw (c.length_squared-den.ensures, d.toward-m.ensures, foot_is d) at c.if-den-num.false)))
