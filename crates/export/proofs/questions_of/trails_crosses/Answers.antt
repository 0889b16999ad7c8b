use mir.Syntax.{w32}
use mir.Facts.{to_z-of_z}
use mathlib.Core.Path.{◌∙◌, ap}
use Rattle.export.specs.Interface.{crossing_numbers}
use Rattle.crossing.specs.Crossing.{cross_answer}
use Rattle.crossing.proofs.Laws.Checking.{cross_means}
use Rattle.export.proofs.Laws.{same_asked, same_box}
use borrow.Author.Rules.{rules}
use Rattle.export.proofs.questions_of.trails_crosses.Goals as goal

pub returns : goal.returns
returns c =
    let a = c.args in
    let w = c.window-w.ensures in
    let e = c.edges-e.ensures
    ∙ same_box (to_z-of_z {w = w32} {z = a.left} (search rules)) (to_z-of_z {w = w32} {z = a.right} (search rules)) (to_z-of_z {w = w32} {z = a.bottom} (search rules)) (to_z-of_z {w = w32} {z = a.top} (search rules)) in
    let b = a.b.now in
    (c.from.ensures ∙ ap crossing_numbers (c.crosses.ensures.answer ∙ same_asked (cross_answer b) w.0 w.1 e), cross_means b _ _ _)
