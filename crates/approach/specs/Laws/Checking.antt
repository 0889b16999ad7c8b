-- The question's checks, and what it gives when none of them turns the call away.
use Rattle.std.specs.Prelude.{Bool, ◌||◌, ℕ, ◌*◌, ltb}
use Rattle.distance.specs.Place.{Point}
use Rattle.record.specs.Checks.{outside}

-- ---- check 16, of a limit
abbrev pub point_outside : (limit : ℕ) → Point → (r : ℕ) → Bool
point_outside limit c r = outside limit c.x || (outside limit c.y || ltb (2 * limit) r)
