use Rattle.std.proofs.Common.{sym, ap, ◌∙◌}
use Rattle.distance.specs.Place.{point_of}
use Rattle.anchors.specs.declared.Reading.TheVariants.{Absolute}
use Rattle.anchors.specs.Anchors.{report}
use Rattle.anchors.specs.Answers.{exact_of}
use Rattle.anchors.proofs.Laws.Reading.{finds_17, absolute_found, turned_to, refused_so, found_answer}
use Rattle.anchors.proofs.absolute.Goals as goal

pub returns-in_err-place : goal.returns-in_err-place
returns-in_err-place c =
    let a = c.args in
    let n = c.in_err-place.ensures in
    λ s. turned_to point_of _ _ _ _ n.ok_part (sym n.value) c.from_residual.ensures.1
    ∙ (refused_so s (Absolute a.x a.y) 17 (finds_17 (report s (Absolute a.x a.y)) (sym c.count_both.ensures ∙ ap exact_of n.ok_part))).0

pub returns : goal.returns
returns c =
    let a = c.args in
    λ s. found_answer s (Absolute a.x a.y) _ _ (absolute_found s a.x a.y _ (sym c.count_both.ensures ∙ ap exact_of c.in_ok-place.ensures.ok_part)) c.arrived.ensures
