use mathlib.Core.Path.{sym, ap}
use mir.Facts.{to_z-of_z}
use mir.Syntax.{w32}
use borrow.Author.Rules.{rules}
use Rattle.distance.specs.Fix.{fix_of}
use Rattle.export.proofs.Laws.{step_found}
use Rattle.reading.specs.Answers.{found}
use Rattle.export.proofs.step_of.Goals as goal

pub returns-in-Some : goal.returns-in-Some
returns-in-Some c =
    let x = to_z-of_z {w = w32} {z = c.in-Some.f.x.0} (search rules) in
    let y = to_z-of_z {w = w32} {z = c.in-Some.f.y.0} (search rules) in
    step_found _ (fix_of c.in-Some.f) _ _ _ _ x y c.from.ensures (sym (ap found c.in-Some.is))

pub returns-in-None : goal.returns-in-None
returns-in-None c = search rules
