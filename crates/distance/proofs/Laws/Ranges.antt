-- What the functions ask of 32 and 64 bits, one list of facts for each function, proved once.
use Rattle.std.specs.Prelude.{◌≡◌, refl, true, false, ℕ, ◌+◌, ◌*◌, ◌≤◌, ◌<◌, T, ℤ, nat_abs, pos, negsuc, ◌-ℤ◌, ◌*ℤ◌, ◌≤ℤ◌, ◌<ℤ◌}
use Rattle.std.proofs.Common.{sym, ap, mul-le-mul, div-lt_iff_lt-mul, arith, Fits, SFits, to_z, to_z-of_z}
use Rattle.std.specs.Int.Signed.{non_neg, lt_z, lt_z_yes}
use Rattle.std.specs.Int.{w16, w32, w64}
use Rattle.std.proofs.Math.Facts.{to_z_pos}
use Rattle.distance.specs.Distance.{N, squared}
use Rattle.distance.specs.Rounding.{half_up, with_sign_of, rounded}
use Rattle.distance.specs.Span.{one_word, greatest_N, Roundable}
use Rattle.distance.proofs.Laws.Deviation.{squared_is}
use Rattle.distance.specs.Integers.Differences.{diffs}
use Rattle.distance.specs.Integers.Order.{le_of_lt_z}
use Rattle.distance.specs.Integers.Bounds.{Bound, ◌⊝◌, ◌⊛◌, of_width, fits}

-- a duration is a number of 16 bits
abbrev of_duration : (n : ℕ) → Fits w16 n → Bound (pos n)
of_duration n f = record { top = 65535; holds = omega (arith, f.fits) }

-- N, from places of 32 bits and durations: every part of it fits 64
pub record AxisFits (i m j : ℤ) (d s : ℕ) : Type 0 where
  pub i32 : SFits w32 i
  pub m32 : SFits w32 m
  pub j32 : SFits w32 j
  pub i64 : SFits w64 i
  pub m64 : SFits w64 m
  pub j64 : SFits w64 j
  pub d64 : to_z w64 d ≡ pos d
  pub s64 : to_z w64 s ≡ pos s
  pub m_i : SFits w64 (m -ℤ i)
  pub j_i : SFits w64 (j -ℤ i)
  pub m_i_d : SFits w64 ((m -ℤ i) *ℤ pos d)
  pub j_i_s : SFits w64 ((j -ℤ i) *ℤ pos s)
  pub all : SFits w64 (N i m j (pos d) (pos s))

pub axis_fits : {i m j : ℤ} {d s : ℕ} → SFits w32 i → SFits w32 m → SFits w32 j → Fits w16 d → Fits w16 s → AxisFits i m j d s
axis_fits {d} {s} fi fm fj fd fs =
    let m_i = of_width w32 fm ⊝ of_width w32 fi in
    let j_i = of_width w32 fj ⊝ of_width w32 fi in
    let m_i_d = m_i ⊛ of_duration d fd in
    let j_i_s = j_i ⊛ of_duration s fs in
    record {
      i32 = fi;
      m32 = fm;
      j32 = fj;
      i64 = fits w64 (of_width w32 fi) tt;
      m64 = fits w64 (of_width w32 fm) tt;
      j64 = fits w64 (of_width w32 fj) tt;
      d64 = to_z-of_z {w = w64} {z = pos d} (fits w64 (of_duration d fd) tt);
      s64 = to_z-of_z {w = w64} {z = pos s} (fits w64 (of_duration s fs) tt);
      m_i = fits w64 m_i tt;
      j_i = fits w64 j_i tt;
      m_i_d = fits w64 m_i_d tt;
      j_i_s = fits w64 j_i_s tt;
      all = fits w64 (m_i_d ⊝ j_i_s) tt;
    }

-- the two squares of |N| ≤ 3,037,000,499 fit 63 bits, and their sum 64
pub record SquaresFit (x y : ℤ) : Type 0 where
  pub x64 : SFits w64 x
  pub y64 : SFits w64 y
  pub xx : SFits w64 (x *ℤ x)
  pub yy : SFits w64 (y *ℤ y)
  pub xx_unsigned : T (non_neg (x *ℤ x))
  pub yy_unsigned : T (non_neg (y *ℤ y))
  pub xx_u64 : Fits w64 (nat_abs (x *ℤ x))
  pub yy_u64 : Fits w64 (nat_abs (y *ℤ y))
  pub sum : nat_abs (x *ℤ x) + nat_abs (y *ℤ y) < 18446744073709551616

-- a square, which the code casts to an unsigned number
pub square_abs : (x : ℤ) → nat_abs (x *ℤ x) ≡ squared x
square_abs x = ap nat_abs (sym (squared_is x))

pub squares_fit : {x y : ℤ} → nat_abs x ≤ one_word → nat_abs y ≤ one_word → SquaresFit x y
squares_fit {x} {y} hx hy =
    let bx : Bound x = record { top = one_word; holds = hx } in
    let by : Bound y = record { top = one_word; holds = hy } in
    record {
      x64 = fits w64 bx tt;
      y64 = fits w64 by tt;
      xx = fits w64 (bx ⊛ bx) tt;
      yy = fits w64 (by ⊛ by) tt;
      xx_unsigned = rw (← squared_is x) tt;
      yy_unsigned = rw (← squared_is y) tt;
      xx_u64 = record { fits = omega (arith, (bx ⊛ bx).holds) };
      yy_u64 = record { fits = omega (arith, (by ⊛ by).holds) };
      sum = omega (arith, (bx ⊛ bx).holds, (by ⊛ by).holds);
    }

-- |N| of any record's span, of which the sum of squares has two words
pub record MagnitudesFit (x y : ℤ) : Type 0 where
  pub x64 : SFits w64 x
  pub y64 : SFits w64 y
  pub x_opposite : nat_abs x ≤ 9223372036854775807
  pub y_opposite : nat_abs y ≤ 9223372036854775807
  pub x_40 : nat_abs x < 1099511627776
  pub y_40 : nat_abs y < 1099511627776

pub magnitudes_fit : {x y : ℤ} → nat_abs x ≤ greatest_N → nat_abs y ≤ greatest_N → MagnitudesFit x y
magnitudes_fit {x} {y} hx hy =
    let bx : Bound x = record { top = greatest_N; holds = hx } in
    let by : Bound y = record { top = greatest_N; holds = hy } in
    record {
      x64 = fits w64 bx tt;
      y64 = fits w64 by tt;
      x_opposite = omega arith;
      y_opposite = omega arith;
      x_40 = omega arith;
      y_40 = omega arith;
    }

-- e·D and its square, of numbers of 16 bits
pub record ReachFits (e d : ℕ) : Type 0 where
  pub reach : e * d < 18446744073709551616
  pub square : e * d * (e * d) < 18446744073709551616

pub reach_fits : (e d : ℕ) → Fits w16 e → Fits w16 d → ReachFits e d
reach_fits e d f g =
    let h : e * d ≤ 65535 * 65535 = mul-le-mul {n₁ = e} {m₁ = d} {n₂ = 65535} {m₂ = 65535} (omega (arith, f.fits)) (omega (arith, g.fits)) in
    record { reach = omega arith; square = omega (arith, mul-le-mul h h) }

pub square_of_product : (e d : ℕ) (D : ℤ) → pos d ≡ D → e * d * (e * d) ≡ e * e * squared D
square_of_product e d D h = rw (← h) (omega arith)

-- ---- rounding. The magnitude of a number of 64 bits that isn't the least: below 0 it is 0 − z, ..
pub record Negated (z : ℤ) : Type 0 where
  pub less : SFits w64 (pos 0 -ℤ z)
  pub unsigned : T (non_neg (pos 0 -ℤ z))
  pub word : Fits w64 (nat_abs (pos 0 -ℤ z))
  pub is : nat_abs (pos 0 -ℤ z) ≡ nat_abs z

pub negated : (z : ℤ) → nat_abs z ≤ 9223372036854775807 → lt_z z (pos 0) ≡ true → Negated z
negated (pos n) h t = absurd (let g : pos n <ℤ pos 0 = lt_z_yes (rw t tt) in omega (arith, simp diffs at g))
negated (negsuc n) h t = record { less = record { sfits = omega arith }; unsigned = tt; word = record { fits = omega arith }; is = omega arith }

-- .. and else z itself
pub record NotNegative (z : ℤ) : Type 0 where
  pub unsigned : T (non_neg z)
  pub word : Fits w64 (nat_abs z)

pub not_negative : (z : ℤ) → nat_abs z ≤ 9223372036854775807 → lt_z z (pos 0) ≡ false → NotNegative z
not_negative (pos n) h t = record { unsigned = tt; word = record { fits = omega arith } }
not_negative (negsuc n) h t = absurd (let g : pos 0 ≤ℤ negsuc n = le_of_lt_z t in g.le)

-- n/d rounded fits 32 bits, on either side of 0
half_up_small : (n d : ℕ) → 1 ≤ d → n ≤ 2147483647 * d → half_up n d < 2147483648
unfolding half_up
half_up_small n d one h = (div-lt_iff_lt-mul (let two : 0 < 2 * d = omega arith in two)).1 (omega arith)

pub record HalfUpFits (n d : ℕ) : Type 0 where
  pub whole32 : SFits w32 (pos (half_up n d))
  pub plain : to_z w32 (half_up n d) ≡ pos (half_up n d)

pub half_up_fits : {n d : ℕ} → Roundable (pos n) d → HalfUpFits n d
half_up_fits {n} {d} h = let q = half_up_small n d h.some h.below in record { whole32 = record { sfits = q }; plain = to_z_pos w32 q }

pub record RoundedFits (n : ℤ) (d : ℕ) : Type 0 where
  pub n64 : SFits w64 n
  pub opposite_fits : nat_abs n ≤ 9223372036854775807
  pub roundable : Roundable (pos (nat_abs n)) d
  pub less32 : SFits w32 (pos 0 -ℤ pos (half_up (nat_abs n) d))

pub rounded_fits : {n : ℤ} {d : ℕ} → Fits w32 d → Roundable n d → RoundedFits n d
rounded_fits {n} {d} f h =
    let small = half_up_small (nat_abs n) d h.some h.below in
    let bn : Bound n = record { top = 9223372030412324865; holds = omega (arith, h.below, f.fits) } in
    let zero : Bound (pos 0) = record { top = 0; holds = omega arith } in
    let whole : Bound (pos (half_up (nat_abs n) d)) = record { top = 2147483647; holds = omega arith } in
    record {
      n64 = fits w64 bn tt;
      opposite_fits = omega (arith, bn.holds);
      roundable = record { some = h.some; below = h.below };
      less32 = fits w32 (zero ⊝ whole) tt;
    }

-- what is then said: the sign of n
pub below_rounded : (n : ℤ) (d : ℕ) → lt_z n (pos 0) ≡ true → pos 0 -ℤ pos (half_up (nat_abs n) d) ≡ rounded n (pos d)
unfolding rounded with_sign_of
below_rounded (pos n) d t = absurd (let g : pos n <ℤ pos 0 = lt_z_yes (rw t tt) in omega (arith, simp diffs at g))
below_rounded (negsuc n) d t = simp diffs

pub above_rounded : (n : ℤ) (d : ℕ) → lt_z n (pos 0) ≡ false → pos (half_up (nat_abs n) d) ≡ rounded n (pos d)
unfolding rounded with_sign_of
above_rounded (pos n) d t = refl
above_rounded (negsuc n) d t = absurd (let g : pos 0 ≤ℤ negsuc n = le_of_lt_z t in g.le)
