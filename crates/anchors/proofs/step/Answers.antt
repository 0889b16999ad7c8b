use Rattle.std.proofs.Common.{◌≡◌, sym, ap, ◌∙◌, subst}
use Rattle.std.proofs.Math.Option.{some}
use Rattle.distance.specs.Place.{Point, point_of}
use Rattle.anchors.specs.declared.Reading.TheVariants.{Step}
use Rattle.anchors.specs.Anchors.{sixteenths, report}
use Rattle.anchors.specs.Answers.{exact_of, place_of}
use Rattle.anchors.specs.Laws.Reading.{pair, capped}
use Rattle.anchors.proofs.Laws.Reading.{finds_17, finds_18, Finds, step_found, turned_to, refused_so, found_answer}
use Rattle.anchors.proofs.step.Goals as goal
use Rattle.anchors.proofs.step.Goals.{In_ok-step}

pub returns-in_err-step : goal.returns-in_err-step
returns-in_err-step c =
    let a = c.args in
    let n = c.in_err-step.ensures in
    turned_to point_of _ _ _ _ n.ok_part (sym n.value) c.from_residual.ensures.1
    ∙ (refused_so a.s (Step a.x a.y) 17 (finds_17 (report a.s (Step a.x a.y)) (sym c.count_both.ensures ∙ ap exact_of n.ok_part))).0

-- how far the step goes
counted : (c : In_ok-step) → pair (capped (sixteenths c.args.x)) (capped (sixteenths c.args.y)) ≡ some (place_of c.in_ok-step.step)
counted c = sym c.count_both.ensures ∙ ap exact_of c.in_ok-step.ensures.ok_part

pub returns-in_err-last : goal.returns-in_err-last
returns-in_err-last c =
    let a = c.args in
    let n = c.in_err-last.ensures in
    turned_to point_of _ _ _ _ n.ok_part (sym n.value) c.from_residual-in_err-last.ensures.1
    ∙ (refused_so a.s (Step a.x a.y) 18 (finds_18 _ _ _ _ _ _ (counted (goal.at-returns-in_err-last c).In_ok-step) (sym c.last_place.ensures ∙ ap exact_of n.ok_part))).0

pub moved-requires : goal.moved-requires
moved-requires c =
    let a = c.args in
    (step_found a.s a.x a.y _ _ (counted (goal.at-moved-requires c).In_ok-step) (sym c.last_place.ensures ∙ ap exact_of c.in_ok-last.ensures.ok_part)).1

pub returns : goal.returns
returns c =
    let a = c.args in
    let found = step_found a.s a.x a.y _ _ (counted (goal.at-returns c).In_ok-step) (sym c.last_place.ensures ∙ ap exact_of c.in_ok-last.ensures.ok_part) in
    let there = subst (λ (P : Point). Finds (report a.s (Step a.x a.y)) P) (sym c.moved.ensures) found.0 in
    found_answer a.s (Step a.x a.y) _ _ there c.arrived.ensures
