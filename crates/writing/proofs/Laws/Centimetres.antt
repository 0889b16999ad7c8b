-- The numbers of a list in centimetres fit.
use Rattle.std.specs.Prelude.{ℤ}
use Rattle.std.specs.Int.{w16, w32}
use Rattle.std.proofs.Common.{SFits, arith}
use Rattle.distance.specs.Integers.Bounds.{of_width, fits}
use Rattle.format.specs.Bytes.{InBytes}

-- 16 bits are two bytes, and fit 32
pub record CoordinateFits (z : ℤ) : Type 0 where
  pub z16 : SFits w16 z
  pub z32 : SFits w32 z
  pub two : InBytes 2 z

pub coordinate_fits : {z : ℤ} → SFits w16 z → CoordinateFits z
coordinate_fits f = record { z16 = f; z32 = fits w32 (of_width w16 f) tt; two = record { in_bytes = omega (arith, f.sfits) } }
