use mathlib.Core.Path.{refl}
use mir.Facts.{to_z-of_z}
use mir.Syntax.{w32}
use borrow.Author.Rules.{rules}
use Rattle.export.proofs.Laws.{anchored_at, anchored_refused}
use Rattle.export.proofs.anchors_of.anchored_of.Goals as goal

pub returns-in-Ok : goal.returns-in-Ok
returns-in-Ok c =
    let x = to_z-of_z {w = w32} {z = c.in-Ok.p.x.0} (search rules) in
    let y = to_z-of_z {w = w32} {z = c.in-Ok.p.y.0} (search rules) in
    anchored_at _ _ _ _ _ _ _ x y c.from.ensures refl c.in-Ok.is

pub returns-in-Err : goal.returns-in-Err
returns-in-Err c = anchored_refused _ _ _ _ c.number.ensures c.in-Err.is
