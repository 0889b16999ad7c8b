use Rattle.std.specs.Int.{w16, w32}
use Rattle.std.proofs.Common.{refl, ◌∙◌, ap}
use Rattle.std.proofs.Math.Facts.{to_z-of_z}
use Rattle.format.specs.Bytes.{signed}
use Rattle.format.proofs.Laws.Kinds.{narrow}
use Rattle.format.proofs.Laws.Numbers.{bits_read, widened}
use Rattle.format.proofs.numbers.coordinate_at.Goals as goal

pub returns-in-Trail : goal.returns-in-Trail
returns-in-Trail c =
    rw (narrow c.in-Trail.is)
    (widened _ (record { sfits = c.cast_signed.type_inv }) ∙ c.cast_signed.ensures ∙ bits_read w16 2 refl refl c.two_at.result c.two_at.ensures.1
    ∙ ap (signed 2) c.two_at.ensures.0)

pub returns-in-MillimetreTrail : goal.returns-in-MillimetreTrail
returns-in-MillimetreTrail c =
    rw c.in-MillimetreTrail.is
    (to_z-of_z {w = w32} (record { sfits = c.cast_signed-in-MillimetreTrail.type_inv }) ∙ c.cast_signed-in-MillimetreTrail.ensures
    ∙ bits_read w32 4 refl refl c.four_at.result c.four_at.type_inv ∙ ap (signed 4) c.four_at.ensures)
