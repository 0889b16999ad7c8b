-- What the functions ask of their callers and of the code's widths, and the tests of fractions, decided.
use Rattle.std.specs.Prelude.{◌≡◌, ◌∷◌, [], ℕ, ◌+◌, ◌*◌, ◌-◌, ◌≤◌, ◌<◌, ℤ, pos, nat_abs, ◌+ℤ◌, T}
use Rattle.std.proofs.Math.Path.{refl}
use Rattle.std.proofs.Math.Option.{some, none}
use Rattle.std.proofs.Common.{mul-le-mul, mul-le-mul_left, arith, Fits, SFits, le-leb}
use Rattle.std.specs.Int.{w16, w32}
use Rattle.std.proofs.lemmas.Bool.{lt-leb}
use Rattle.distance.specs.Fix.{Fix, Bounded, widest}
use Rattle.distance.specs.Box.{Box}
use Rattle.legs.specs.declared.Fraction.{Fraction}
use Rattle.legs.specs.declared.Times.{Times}
use Rattle.distance.specs.declared.Duration.{Duration}
use Rattle.legs.specs.declared.Offset.{Offset}
use Rattle.legs.specs.declared.Raised.{Raised}
use Rattle.legs.specs.declared.Frame.{Frame}
use Rattle.legs.specs.Legs.{times, moving, later_of, earlier_of, first_of, axis_times, leg_times, raised, framed}
use Rattle.legs.specs.Laws.Times.{Each}
use Rattle.legs.proofs.Laws.Axis.{axis_cases}
use Rattle.std.specs.Int.Signed.{non_neg, yes_non_neg}
use Rattle.distance.specs.Integers.Differences.{nat_abs_add}
use Rattle.distance.specs.Integers.Order.{gap, le_by}
use Rattle.distance.specs.Integers.Ring.{ring, quotes, lit, vars}
use Rattle.distance.specs.Integers.Bounds.{abs_bound, Bound, ◌⊕◌, fits}
use Rattle.legs.specs.Laws.Legs.{InWidest}
use Rattle.legs.specs.Laws.Legs.{BoxInWidest}
use Rattle.legs.proofs.Laws.Legs.{placed_x, placed_y, counts, leg_each}
use Rattle.legs.specs.Laws.Ranges.{FractionFits, LegFits, Low, LowFrame}

-- ---- the tests, decided
module _ (f g : Fraction) where
  pub later_former : g.num * f.den ≤ f.num * g.den → later_of f g ≡ f
  unfolding later_of
  later_former h = rw (le-leb (g.num * f.den) (f.num * g.den) h) refl

  pub later_latter : f.num * g.den < g.num * f.den → later_of f g ≡ g
  unfolding later_of
  later_latter h = rw (lt-leb (g.num * f.den) (f.num * g.den) h) refl

  pub earlier_former : f.num * g.den ≤ g.num * f.den → earlier_of f g ≡ f
  unfolding earlier_of
  earlier_former h = rw (le-leb (f.num * g.den) (g.num * f.den) h) refl

  pub earlier_latter : g.num * f.den < f.num * g.den → earlier_of f g ≡ g
  unfolding earlier_of
  earlier_latter h = rw (lt-leb (f.num * g.den) (g.num * f.den) h) refl

module _ (t : Times) where
  pub first_some : t.first.num * t.last.den ≤ t.last.num * t.first.den → first_of t ≡ some t.first
  unfolding first_of
  first_some h = rw (le-leb (t.first.num * t.last.den) (t.last.num * t.first.den) h) refl

  pub first_none : t.last.num * t.first.den < t.first.num * t.last.den → first_of t ≡ none
  unfolding first_of
  first_none h = rw (lt-leb (t.first.num * t.last.den) (t.last.num * t.first.den) h) refl

-- ---- seconds of 16 bits times extents of 32, which fits 64
pub record GoneFits (A D v n : ℕ) : Type 0 where
  pub start : A * v < 18446744073709551616
  pub takes : D * n < 18446744073709551616
  pub sum : A * v + D * n < 18446744073709551616

pub gone_fits : {A D v n : ℕ} → Fits w16 A → Fits w16 D → Fits w32 v → Fits w32 n → GoneFits A D v n
gone_fits {A} {D} {v} {n} fA fD fv fn =
    let p : A * v ≤ 65535 * 4294967295 = mul-le-mul {n₁ = A} {m₁ = v} {n₂ = 65535} {m₂ = 4294967295} (omega (arith, fA.fits)) (omega (arith, fv.fits)) in
    let q : D * n ≤ 65535 * 4294967295 = mul-le-mul {n₁ = D} {m₁ = n} {n₂ = 65535} {m₂ = 4294967295} (omega (arith, fD.fits)) (omega (arith, fn.fits)) in
    record { start = omega arith; takes = omega arith; sum = omega arith }

-- so are those of every checked fix and box
pub low_raised : (z : ℕ) (a : Fix) → Bounded widest a → Low (raised z a)
low_raised z a h = record { x = (counts a.x (placed_x h)).small; y = (counts a.y (placed_y h)).small }

pub low_framed : (b : Box) → BoxInWidest b → LowFrame (framed b)
low_framed b h = record {
  left = (counts b.x_low h.x_low).small;
  right = (counts b.x_high h.x_high).small;
  bottom = (counts b.y_low h.y_low).small;
  top = (counts b.y_high h.y_high).small;
}

-- and then every time of the leg fits
pub seconds_fit : {n m : ℕ} → n ≤ 65535 → m ≤ 65535 → Each FractionFits (times n m 1)
seconds_fit h k = record { of_first = record { num = omega arith; den = omega arith }; of_last = record { num = omega arith; den = omega arith } }

pub axis_fits : (A D a b low high : ℕ) → A + D ≤ 65535 → a ≤ 2 * widest → b ≤ 2 * widest → low ≤ 2 * widest → high ≤ 2 * widest → Each FractionFits (axis_times A D a b low high)
axis_fits A D a b low high s ha hb hl hh = axis_cases (Each FractionFits) A D a b low high
    (λ g h. seconds_fit (omega arith) (omega arith))
    (λ g h. seconds_fit (omega arith) (omega arith))
    (λ g h. moves (b - a) (low - a) (high - a) (omega arith) (omega arith) (omega arith))
    (λ g h. moves (a - b) (a - high) (a - low) (omega arith) (omega arith) (omega arith))
    (λ e g h. seconds_fit (omega arith) s)
  where
    numerator : (v n : ℕ) → v ≤ 2 * widest → n ≤ 2 * widest → A * v + D * n ≤ 65535 * (2 * widest)
    numerator v n h k = omega (arith, mul-le-mul_left A h, mul-le-mul_left D k)

    moves : (v n m : ℕ) → v ≤ 2 * widest → n ≤ 2 * widest → m ≤ 2 * widest → Each FractionFits (moving A D v n m)
    moves v n m hv hn hm = record { of_first = record { num = numerator v n hv hn; den = hv }; of_last = record { num = numerator v m hv hm; den = hv } }

-- the parts of a leg's times, in a window of seconds of 16 bits
pub record PartsFit (a b : Raised) (f : Frame) (w v : ℕ) : Type 0 where
  pub whole : Each FractionFits (times a.t.0 (a.t.0 + (b.t.0 - a.t.0)) 1)
  pub window : Each FractionFits (times w v 1)
  pub x : Each FractionFits (axis_times a.t.0 (b.t.0 - a.t.0) a.x.0 b.x.0 f.left.0 f.right.0)
  pub y : Each FractionFits (axis_times a.t.0 (b.t.0 - a.t.0) a.y.0 b.y.0 f.bottom.0 f.top.0)

pub parts_fit : {a b : Raised} {f : Frame} {w v : ℕ} → LegFits a b f → Fits w16 b.t.0 → Fits w16 w → Fits w16 v → PartsFit a b f w v
parts_fit {a} {b} {f} l t o c =
    let s : a.t.0 + (b.t.0 - a.t.0) ≤ 65535 = omega (arith, t.fits, l.order) in
    record {
      whole = seconds_fit (omega arith) s;
      window = seconds_fit (omega (arith, o.fits)) (omega (arith, c.fits));
      x = axis_fits a.t.0 _ a.x.0 b.x.0 f.left.0 f.right.0 s l.start.x l.end.x l.frame.left l.frame.right;
      y = axis_fits a.t.0 _ a.y.0 b.y.0 f.bottom.0 f.top.0 s l.start.y l.end.y l.frame.bottom l.frame.top;
    }

pub leg_fits : {a b : Raised} {f : Frame} {w v : ℕ} → LegFits a b f → Fits w16 b.t.0 → Fits w16 w → Fits w16 v → Each FractionFits (leg_times a b f w v)
leg_fits {a} {b} {f} {w} {v} l t o c = let p = parts_fit l t o c in leg_each FractionFits a b f w v p.whole p.window p.x p.y

-- ---- a place counted from −160,000 on
pub record AboveFits (z : ℤ) : Type 0 where
  pub z32 : SFits w32 z
  pub sum : SFits w32 (z +ℤ pos widest)
  pub unsigned : T (non_neg (z +ℤ pos widest))
  pub word : Fits w32 (nat_abs (z +ℤ pos widest))

pub above_fits : {z : ℤ} → InWidest z → AboveFits z
above_fits {z} h =
    let b : nat_abs z ≤ widest = abs_bound z widest h.high h.low in
    let bz : Bound z = record { top = widest; holds = b } in
    let up : Bound (pos widest) = record { top = widest; holds = omega arith } in
    record {
      z32 = fits w32 bz tt;
      sum = fits w32 (bz ⊕ up) tt;
      unsigned = yes_non_neg {z = z +ℤ pos widest} (le_by (gap h.low) (vars (z ∷ []) (λ ρ v. simp (v 0, quotes, lit ρ) (ring _ _ ρ tt))));
      word = record { fits = omega (arith, nat_abs_add z (pos widest)) };
    }

-- ---- a struct from its parts
pub raised_parts : (t : Duration) (x y : Offset) (n i j : ℕ) → t.0 ≡ n → x.0 ≡ i → y.0 ≡ j
    → ◌≡◌ {A = Raised} (record { t = t; x = x; y = y }) (record { t = record { 0 = n }; x = record { 0 = i }; y = record { 0 = j } })
raised_parts t x y n i j p q r = rw (← p, ← q, ← r) refl
