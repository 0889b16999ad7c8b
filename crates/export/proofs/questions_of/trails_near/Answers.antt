use mir.Syntax.{w32}
use mir.Facts.{to_z-of_z}
use mathlib.Core.Path.{◌∙◌, ap}
use Rattle.distance.specs.Place.{Point}
use Rattle.approach.specs.Approach.{near_answer}
use Rattle.approach.proofs.Laws.Checking.{near_answer_means}
use Rattle.export.specs.Interface.{approach_numbers}
use Rattle.export.proofs.Laws.{same_point}
use borrow.Author.Rules.{rules}
use Rattle.export.proofs.questions_of.trails_near.Goals as goal

pub returns : goal.returns
returns c =
    let a = c.args in
    let p = c.point.ensures ∙ same_point (to_z-of_z {w = w32} {z = a.x} (search rules)) (to_z-of_z {w = w32} {z = a.y} (search rules)) in
    let b = a.b.now in
    (c.from.ensures ∙ ap approach_numbers (c.near.ensures.answer ∙ ap (λ (q : Point). near_answer b q a.radius) p), near_answer_means b _ _)
