-- Places and boxes of the widest kind, which are counted from −160,000 on.
use Rattle.std.specs.Prelude.{ℤ, pos, neg_ℤ, ◌≤ℤ◌}
use Rattle.distance.specs.Fix.{widest}
use Rattle.distance.specs.Box.{Box}

-- ---- places counted from −160,000 on
pub record InWidest (z : ℤ) : Type 0 where
  pub low : neg_ℤ (pos widest) ≤ℤ z
  pub high : z ≤ℤ pos widest

pub record BoxInWidest (b : Box) : Type 0 where
  pub x_low : InWidest b.x_low
  pub x_high : InWidest b.x_high
  pub y_low : InWidest b.y_low
  pub y_high : InWidest b.y_high
