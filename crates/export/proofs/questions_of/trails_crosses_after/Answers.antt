use mir.Syntax.{w32}
use mir.Facts.{to_z-of_z}
use mathlib.Core.Path.{◌∙◌, ap}
use Rattle.export.specs.Interface.{crossing_numbers}
use Rattle.questions.specs.Agings.{calls_of, after_answer, left_after}
use Rattle.export.proofs.Laws.{same_asked, same_box}
use borrow.Author.Rules.{rules}
use Rattle.export.proofs.questions_of.trails_crosses_after.Goals as goal

pub returns : goal.returns
returns c =
    let a = c.args in
    let w = c.window.ensures in
    let e = c.edges.ensures
    ∙ same_box (to_z-of_z {w = w32} {z = a.left} (search rules)) (to_z-of_z {w = w32} {z = a.right} (search rules)) (to_z-of_z {w = w32} {z = a.bottom} (search rules)) (to_z-of_z {w = w32} {z = a.top} (search rules)) in
    let done = c.crosses_after.ensures in
    let b = a.b.now in
    let calls = calls_of a.tables.now a.calls.now in (
      c.from.ensures ∙ ap crossing_numbers (done.0 ∙ same_asked (after_answer b calls) w.0 w.1 e),
      done.1 ∙ same_asked (left_after b calls) w.0 w.1 e,
      done.2,
    )
