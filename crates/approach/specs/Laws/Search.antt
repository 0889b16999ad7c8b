-- The search along a record's fixes for the first leg that comes near.
use Rattle.std.specs.Prelude.{◌≡◌, List}
use Prim.Native.Nat.{ℕ, ◌+◌, ◌≤◌}
use Rattle.distance.specs.Fix.{Fix}
use Rattle.distance.specs.Place.{Point}
use Rattle.format.specs.Kinds.{Kind}
use Rattle.format.specs.Format.{kind_of, count_field}
use Rattle.record.specs.Checks.{IsAccepted}
use Rattle.approach.specs.declared.Part.{Part}
use Rattle.approach.specs.Laws.Ranges.{greatest_square, PointFits}

-- ---- what the time of a part needs of its numbers
pub record ToldFits (first leg : ℕ) (a b : Fix) (s : Part) : Type 0 where
  pub early : leg ≤ 4096
  pub after : first ≤ a.t
  pub rises : a.t ≤ b.t
  pub last : b.t ≤ first + 65535
  pub den_low : s.den ≤ greatest_square
  pub on_leg : s.num ≤ s.den

-- ---- the record is accepted, its kind is K and it has n fixes; and the point and the radius are in range
pub record Seekable (K : Kind) (b : List ℕ) (n : ℕ) (c : Point) (r : ℕ) : Type 0 where
  pub is_accepted : IsAccepted b
  pub kind : K ≡ kind_of b
  pub count : n ≡ count_field b
  pub asked : PointFits c r
