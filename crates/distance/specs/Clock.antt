-- A CLOCK MOVED BY s SECONDS, later or, if s is negative, earlier. Document 02, item 4: "a trail and its window moved by the same seconds, all still in 32 bits".
use Rattle.std.specs.Prelude.{ℕ, ℤ, pos, nat_abs, ◌+ℤ◌, ◌≤ℤ◌}
use Rattle.distance.specs.Fix.{Fix}

-- The last second of 32 bits.
abbrev pub clock_limit : ℕ
clock_limit = 4294967295

-- The second t + s, ..
abbrev pub moved : ℤ → ℕ → ℕ
moved s t = nat_abs (pos t +ℤ s)

-- .. of a t that is "still in 32 bits" when it is moved: not negative, so that the line above takes no sign away (`moved_is` of Laws/Clock.antt), and below 2³².
pub record Stays (s : ℤ) (t : ℕ) : Type 0 where
  pub from_zero : pos 0 ≤ℤ (pos t +ℤ s)
  pub in_32_bits : (pos t +ℤ s) ≤ℤ pos clock_limit

-- A fix at the same place s seconds later.
abbrev pub moved_fix : ℤ → Fix → Fix
moved_fix s a = record { t = moved s a.t; x = a.x; y = a.y; silence = a.silence }
