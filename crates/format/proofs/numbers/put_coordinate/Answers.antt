use Rattle.std.specs.Int.{w16, w32}
use Rattle.std.proofs.Common.{◌≡◌, refl, ◌∙◌, ap, arith, rules}
use Rattle.std.proofs.Math.Facts.{to_z-of_z}
use Rattle.std.proofs.lemmas.List.Edits.{sets}
use mir.Val.{SFits, to_z, of_z}
use Rattle.distance.specs.Integers.Bounds.{of_width, fits}
use Rattle.format.specs.Bytes.{InBytes, bytes_of, unsigned}
use Rattle.format.proofs.Laws.Kinds.{narrow}
use Rattle.format.proofs.Laws.Numbers.{two_written, four_written, bits_written}
use Rattle.format.proofs.numbers.put_coordinate.Goals as goal

pub returns-in-Trail : goal.returns-in-Trail
returns-in-Trail c =
    let z = c.args.c.0 in
    let w = narrow c.in-Trail.is in
    let fit : InBytes 2 z = rw w at c.requires.1 in
    let small : SFits w16 z = record { sfits = omega (arith, fit.in_bytes) } in
    let wide : SFits w32 z = fits w32 (of_width w16 small) tt in
    let bits : of_z w16 (to_z w16 (of_z w16 (to_z w32 (of_z w32 z)))) ≡ unsigned 2 z = rw (to_z-of_z {w = w32} wide, to_z-of_z {w = w16} small) (bits_written w16 2 refl refl z) in
    rw w (c.put.ensures ∙ ap (sets c.args.out.now c.args.at) (c.to_le_bytes.ensures ∙ two_written _ ∙ ap (bytes_of 2) bits))

pub returns-in-MillimetreTrail : goal.returns-in-MillimetreTrail
returns-in-MillimetreTrail c =
    let z = c.args.c.0 in
    let wide : SFits w32 z = search rules in
    let bits : of_z w32 (to_z w32 (of_z w32 z)) ≡ unsigned 4 z = rw (to_z-of_z {w = w32} wide) (bits_written w32 4 refl refl z) in
    rw c.in-MillimetreTrail.is
    (c.put-in-MillimetreTrail.ensures ∙ ap (sets c.args.out.now c.args.at) (c.to_le_bytes-in-MillimetreTrail.ensures ∙ four_written _ ∙ ap (bytes_of 4) bits))
