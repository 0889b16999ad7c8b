-- ONE LEG COMPUTED: at which times of a leg each condition of a crossing holds, and the first time at which all do.
-- Times are seconds after the first fix, as fractions over |x_j − x_i|, |y_j − y_i| or 1, not reduced. Places are counted from −160,000 on,
-- so that no number is negative. What a crossing means stands in crossing/specs/Crossing.antt; that what is computed here means it is `leg_said` of
-- Laws/Legs.antt for a leg and `crossing_means` of the crossing's Laws/Crossing.antt for a trail.
-- `-` is the library's on natural numbers, which stops at 0. Each place below says why that is right there.
-- `declared.X` is the struct X of the code, and `.0` the number in a struct of one field: Raised, a fix as above; Frame, a box as above; Times, from a first
-- to a last fraction.
use Rattle.std.specs.Prelude.{cond, ℕ, ◌+◌, ◌*◌, ◌-◌, leb, ltb, ℤ, pos, nat_abs, ◌+ℤ◌}
use Rattle.std.proofs.Math.Option.{Option, some, none}
use Rattle.distance.specs.Fix.{Fix, widest}
use Rattle.distance.specs.Box.{Box}
use Rattle.legs.specs.declared.Fraction.{Fraction}
use Rattle.legs.specs.declared.Times.{Times}
use Rattle.legs.specs.declared.Raised.{Raised}
use Rattle.legs.specs.declared.Frame.{Frame}

-- ---- times
abbrev pub fraction : (n d : ℕ) → Fraction
fraction n d = record { num = n; den = d }

-- From n/d to m/d, both included.
abbrev pub times : (n m d : ℕ) → Times
times n m d = record { first = fraction n d; last = fraction m d }

-- No time at all: from 1 to 0.
abbrev pub no_times : Times
no_times = times 1 0 1

-- The later of two times, the earlier; of equals the former.
unfoldable pub later_of : Fraction → Fraction → Fraction
later_of f g = cond (leb (g.num * f.den) (f.num * g.den)) f g

unfoldable pub earlier_of : Fraction → Fraction → Fraction
earlier_of f g = cond (leb (f.num * g.den) (g.num * f.den)) f g

-- The times that are of both.
abbrev pub both : Times → Times → Times
both s t = record { first = later_of s.first t.first; last = earlier_of s.last t.last }

-- The first of them, if there is one.
unfoldable pub first_of : Times → Option Fraction
first_of t = cond (leb (t.first.num * t.last.den) (t.last.num * t.first.den)) (some t.first) none

-- ---- one axis of a leg that begins at second A, takes D seconds and goes from a to b; the edges are low and high
-- On the move, v units in all: from n units gone to m.
abbrev pub moving : (A D v n m : ℕ) → Times
moving A D v n m = times (A * v + D * n) (A * v + D * m) v

-- Times after the leg's end may be among these; `leg_times` cuts them off.
unfoldable pub axis_times : (A D a b low high : ℕ) → Times
axis_times A D a b low high =
    cond (ltb a b)
    -- rising, and above the high edge from the start: never. Else from the low edge to the high one: low − a stops at 0 where the leg starts above the low
    -- edge, which is its start; the others are differences of the greater and the less.
    (cond (ltb high a) no_times (moving A D (b - a) (low - a) (high - a)))
    -- not rising, and below the low edge from the start: never
    (cond (ltb a low) no_times
    -- falling: from the high edge to the low one; a − high stops at 0 where the leg starts below the high edge, which is its start
    (cond (ltb b a) (moving A D (a - b) (a - high) (a - low))
    -- at rest: never above the high edge, else all of the leg
    (cond (ltb high a) no_times (times A (A + D) 1))))

-- ---- a leg, in a window from second w to second v after the first fix
-- A leg ends no earlier than it begins, so its seconds are a difference of the greater and the less.
unfoldable pub leg_times : (a b : Raised) (f : Frame) (w v : ℕ) → Times
leg_times a b f w v =
    let A = a.t.0 in
    let D = b.t.0 - a.t.0 in
    both
    (both (both (times A (A + D) 1) (times w v 1)) (axis_times A D a.x.0 b.x.0 f.left.0 f.right.0))
    (axis_times A D a.y.0 b.y.0 f.bottom.0 f.top.0)

unfoldable pub leg_first : (a b : Raised) (f : Frame) (w v : ℕ) → Option Fraction
leg_first a b f w v = first_of (leg_times a b f w v)

-- ---- a place counted from −160,000 on, which no checked place of any kind is below (`counts` of Laws/Legs.antt); a fix in seconds after the first one's, which
-- is the earliest; and a box. Only how far it is from one place to another matters, so that one place to count from serves every kind.
abbrev pub offset_of : ℤ → ℕ
offset_of z = nat_abs (z +ℤ pos widest)

abbrev pub raised : (first : ℕ) → Fix → Raised
raised first a = record { t = record { 0 = a.t - first }; x = record { 0 = offset_of a.x }; y = record { 0 = offset_of a.y } }

abbrev pub framed : Box → Frame
framed b = record {
  left = record { 0 = offset_of b.x_low };
  right = record { 0 = offset_of b.x_high };
  bottom = record { 0 = offset_of b.y_low };
  top = record { 0 = offset_of b.y_high };
}
