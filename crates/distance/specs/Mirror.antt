-- MIRRORED. Document 02, item 1: "The halls now draw lanes mirrored about the middle aisle". The aisle is where the coordinate is 0, so the mirror image of a
-- coordinate is its opposite.
use Rattle.std.specs.Prelude.{Bool, true, false, ℤ, neg_ℤ}
use Rattle.distance.specs.Fix.{Fix}
use Rattle.distance.specs.Place.{Place}

-- Which coordinates are mirrored: every x, every y, both or none.
pub record Mirror : Type 0 where
  pub in_x : Bool
  pub in_y : Bool

-- The coordinate z, mirrored or as it is.
abbrev pub mirrored : Bool → ℤ → ℤ
mirrored true z = neg_ℤ z
mirrored false z = z

abbrev pub mirrored_fix : Mirror → Fix → Fix
mirrored_fix m f = record { t = f.t; x = mirrored m.in_x f.x; y = mirrored m.in_y f.y; silence = f.silence }

abbrev pub mirrored_place : Mirror → Place → Place
mirrored_place m P = record { x = mirrored m.in_x P.x; y = mirrored m.in_y P.y; d = P.d }
