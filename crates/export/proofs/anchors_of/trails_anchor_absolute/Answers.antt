use mathlib.Core.Path.{refl, ◌∙◌}
use Rattle.anchors.specs.declared.Reading.TheVariants.{Absolute}
use Rattle.anchors.proofs.Laws.Claim.{nothing_lost}
use Rattle.export.specs.Interface.{state_of}
use Rattle.export.proofs.Laws.{anchored_read}
use Rattle.export.proofs.anchors_of.trails_anchor_absolute.Goals as goal

pub returns : goal.returns
returns c =
    let a = c.args in
    (c.anchored_of.ensures ∙ anchored_read a.s _ (Absolute a.x a.y) c.read.result c.from.ensures (c.read.ensures.answer, c.read.ensures.state, c.read.ensures.exact), nothing_lost (state_of a.s) (Absolute a.x a.y) _ refl)
