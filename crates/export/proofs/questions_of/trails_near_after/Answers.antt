use mir.Syntax.{w32}
use mir.Facts.{to_z-of_z}
use mathlib.Core.Path.{◌∙◌, ap}
use Rattle.distance.specs.Place.{Point}
use Rattle.questions.specs.Agings.{calls_of, near_after_answer, near_left_after}
use Rattle.export.specs.Interface.{approach_numbers}
use Rattle.export.proofs.Laws.{same_point}
use borrow.Author.Rules.{rules}
use Rattle.export.proofs.questions_of.trails_near_after.Goals as goal

pub returns : goal.returns
returns c =
    let a = c.args in
    let p = c.point.ensures ∙ same_point (to_z-of_z {w = w32} {z = a.x} (search rules)) (to_z-of_z {w = w32} {z = a.y} (search rules)) in
    let done = c.near_after.ensures in
    let b = a.b.now in
    let calls = calls_of a.tables.now a.calls.now in (
      c.from.ensures ∙ ap approach_numbers (done.0 ∙ ap (λ (q : Point). near_after_answer b calls q a.radius) p),
      done.1 ∙ ap (λ (q : Point). near_left_after b calls q a.radius) p,
      done.2,
    )
