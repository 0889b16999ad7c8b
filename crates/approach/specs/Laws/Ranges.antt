-- What the code of one leg needs of its numbers, and what every leg of a checked record gives: places and points within ±160,000, the widest limit, and a radius up to
-- twice that.
use Rattle.std.specs.Prelude.{ℕ, ◌≤◌, nat_abs}
use Rattle.distance.specs.Fix.{Fix, widest}
use Rattle.distance.specs.Place.{Point}
use Rattle.approach.specs.declared.Vector.{Vector}

-- how far one coordinate may be from another, which is also the greatest radius; and the greatest square of a length
abbrev pub longest : ℕ
longest = 320000

abbrev pub greatest_square : ℕ
greatest_square = 204800000000

-- a point and a radius that check 16 lets pass, in a record of whatever kind
pub record PointFits (c : Point) (r : ℕ) : Type 0 where
  pub cx : nat_abs c.x ≤ widest
  pub cy : nat_abs c.y ≤ widest
  pub near_enough : r ≤ longest

pub record NearFits (a b : Fix) (c : Point) (r : ℕ) : Type 0 where
  pub ax : nat_abs a.x ≤ widest
  pub ay : nat_abs a.y ≤ widest
  pub bx : nat_abs b.x ≤ widest
  pub by : nat_abs b.y ≤ widest
  pub asked : PointFits c r

-- no difference of two such is longer than this
pub record Short (v : Vector) : Type 0 where
  pub x_short : nat_abs v.x ≤ longest
  pub y_short : nat_abs v.y ≤ longest
