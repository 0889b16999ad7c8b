-- The search along a record's fixes for the first leg that crosses.
use Rattle.std.specs.Prelude.{◌≡◌, Bool, ◌||◌, List, ℕ, ltb}
use Rattle.std.specs.Int.Signed.{lt_z}
use Rattle.distance.specs.Box.{Box}
use Rattle.format.specs.Kinds.{Kind}
use Rattle.format.specs.Format.{kind_of, count_field}
use Rattle.record.specs.Checks.{IsAccepted, outside}
use Rattle.legs.specs.declared.Frame.{Frame}
use Rattle.legs.specs.Laws.Ranges.{LowFrame}

-- ---- the checks of a window and of a box, of the trail's first and last time
abbrev pub time_outside : (s first last : ℕ) → Bool
time_outside s first last = ltb s first || ltb last s

abbrev pub window_outside : (s e first last : ℕ) → Bool
window_outside s e first last = ltb e s || (time_outside s first last || time_outside e first last)

abbrev pub edges_outside : (limit : ℕ) → Box → Bool
edges_outside limit b = outside limit b.x_low || (outside limit b.x_high || (outside limit b.y_low || (outside limit b.y_high || (lt_z b.x_high b.x_low || lt_z b.y_high b.y_low))))

-- the record is accepted, its kind is K and it has n fixes; and no number of the box is above the highest
pub record Seekable (K : Kind) (b : List ℕ) (n : ℕ) (f : Frame) : Type 0 where
  pub is_accepted : IsAccepted b
  pub kind : K ≡ kind_of b
  pub count : n ≡ count_field b
  pub frame : LowFrame f
