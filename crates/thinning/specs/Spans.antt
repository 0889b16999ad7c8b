-- What the functions of this layer ask of a record's fixes, f k at position k: every accepted record gives it (`accepted_spans` of Laws/Spans.antt).
use Rattle.std.specs.Prelude.{ℕ, ◌<◌, ◌≤◌}
use Rattle.distance.specs.Fix.{Fix}
use Rattle.distance.specs.Span.{Span, Off}

-- Any three of the first n fixes, in order, are a span and an inner fix of it within the limits.
pub record Spans (limit : ℕ) (f : ℕ → Fix) (n : ℕ) : Type 0 where
  pub spans : (i m j : ℕ) → i ≤ m → m ≤ j → j < n → Span limit (f i) (f m) (f j)

-- Whichever inner fix of the span from i, at position lo, to j, at position hi, is measured: its N is at most `top` on each axis.
pub record SpanOff (top : ℕ) (i j : Fix) (f : ℕ → Fix) (lo hi : ℕ) : Type 0 where
  pub off : (m : ℕ) → lo < m → m < hi → Off top i (f m) j
