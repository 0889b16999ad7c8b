use mathlib.Core.Path.{◌≡◌, sym, ◌∙◌}
use Rattle.format.specs.Format.{kind_of}
use Rattle.record.proofs.Laws.Answers.{passed_on}
use Rattle.distance.specs.Place.{point_of}
use Rattle.approach.specs.Laws.Checking.{point_outside}
use Rattle.approach.proofs.Laws.Checking.{near_refused, near_16, near_none}
use Rattle.approach.proofs.trail.near_says.Goals as goal
use Rattle.approach.proofs.trail.near_says.Goals.{After-point_outside}

-- what the test said
said : (c : After-point_outside) → point_outside (kind_of c.args.b.now).limit (point_of c.args.c) c.args.r.0 ≡ c.point_outside.result
said c = sym (rw (c.limit_of.ensures, c.in_ok-fixes.ensures.fixes.kind_is) at c.point_outside.ensures)

pub returns-in_err-fixes : goal.returns-in_err-fixes
returns-in_err-fixes c =
    passed_on c.from_residual.result _ c.from_residual.ensures.1 ∙ sym (near_refused c.args.b.now (point_of c.args.c) c.args.r.0 _ (sym c.in_err-fixes.ensures.refusal))

pub returns-then-point_outside : goal.returns-then-point_outside
returns-then-point_outside c =
    let t = (goal.at-returns-then-point_outside c).After-point_outside in
    sym (near_16 t.args.b.now (point_of t.args.c) t.args.r.0 (record { accepted = sym t.in_ok-fixes.ensures.refusal }) (said t ∙ c.if-point_outside.true))

pub returns : goal.returns
returns c =
    let t = (goal.at-returns c).After-point_outside in
    sym (near_none t.args.b.now (point_of t.args.c) t.args.r.0 (record { accepted = sym t.in_ok-fixes.ensures.refusal }) (said t ∙ c.if-point_outside.false))
