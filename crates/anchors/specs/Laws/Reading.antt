-- The checks of a reading as the code makes them: over whole numbers of sixteenths, those that no place comes near counted alike.
use Rattle.std.specs.Prelude.{ℕ, ◌≤◌, cond, ℤ, ◌+ℤ◌, nat_lt, unsigned_abs}
use Rattle.std.proofs.Math.Option.{Option, some, none}
use Rattle.distance.specs.Place.{Point, point_at}
use Rattle.distance.specs.Rounding.{with_sign_of}
use Rattle.record.specs.Checks.{InSixteenths, beyond}
use Rattle.anchors.specs.Anchors.{sixteenths, rounded_place}
use Rattle.anchors.specs.declared.State.{State}

-- ---- a place, or a step, in sixteenths: a point has both counts
abbrev pub exactly : Point → InSixteenths
exactly P = record { x = some P.x; y = some P.y }

abbrev pub pair : Option ℤ → Option ℤ → Option Point
pair none w = none
pair (some z) none = none
pair (some z) (some w) = some (point_at z w)

abbrev pub moved : (from by : Point) → Point
moved P d = point_at (P.x +ℤ d.x) (P.y +ℤ d.y)

-- check 19, and what is yielded
abbrev pub check_19 : Point → Option ℕ
check_19 P = cond (beyond (exactly P)) (some 19) none

abbrev pub rounded_from : Point → Point
rounded_from P = rounded_place (exactly P)

-- ---- 2²³ sixteenths and all further ones are counted alike
abbrev pub cap : ℤ → ℤ
cap z = cond (nat_lt (unsigned_abs z) 8388608) z (with_sign_of z 8388608)

abbrev pub capped : Option ℤ → Option ℤ
capped none = none
capped (some z) = some (cap z)

-- the place of a state that passes check 18
abbrev pub within : Option Point → Option Point
within none = none
within (some P) = cond (beyond (exactly P)) none (some P)

abbrev pub last_exact : State → Option Point
last_exact s = cond s.seen (within (pair (capped (sixteenths s.x)) (capped (sixteenths s.y)))) none

-- what keeps the sum of a place and a step in 32 bits
pub record Addable (P d : Point) : Type 0 where
  pub px : unsigned_abs P.x ≤ 256000
  pub py : unsigned_abs P.y ≤ 256000
  pub dx : unsigned_abs d.x ≤ 8388608
  pub dy : unsigned_abs d.y ≤ 8388608
