-- What the functions ask of their callers and of the code's widths, and the tests of fractions, decided.
use Rattle.std.specs.Prelude.{ℕ, ◌+◌, ◌*◌, ◌≤◌}
use Rattle.distance.specs.Fix.{Fix, Bounded, widest}
use Rattle.legs.specs.declared.Fraction.{Fraction}
use Rattle.legs.specs.declared.Raised.{Raised}
use Rattle.legs.specs.declared.Frame.{Frame}

-- ---- a time of a leg, its numbers as large as those of the widest kind get: two of them multiplied are below 6.8·10¹⁵, which fits 64 bits
pub record FractionFits (f : Fraction) : Type 0 where
  pub num : f.num ≤ 65535 * (2 * widest)
  pub den : f.den ≤ 2 * widest

-- offsets of places that are within −160,000 to 160,000
pub record Low (a : Raised) : Type 0 where
  pub x : a.x.0 ≤ 2 * widest
  pub y : a.y.0 ≤ 2 * widest

pub record LowFrame (f : Frame) : Type 0 where
  pub left : f.left.0 ≤ 2 * widest
  pub right : f.right.0 ≤ 2 * widest
  pub bottom : f.bottom.0 ≤ 2 * widest
  pub top : f.top.0 ≤ 2 * widest

-- what a leg from a to b and a box must be: no end before its start, and no place above the highest
pub record LegFits (a b : Raised) (f : Frame) : Type 0 where
  pub order : a.t.0 ≤ b.t.0
  pub start : Low a
  pub end : Low b
  pub frame : LowFrame f

-- ---- a fix that can be counted from zero on
pub record Reach (zero : ℕ) (a : Fix) : Type 0 where
  pub from : zero ≤ a.t
  pub to : a.t ≤ zero + 65535
  pub bounded : Bounded widest a
