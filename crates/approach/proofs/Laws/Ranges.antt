-- What the code of one leg needs of its numbers, and what every leg of a checked record gives: places and points within ±160,000, the widest limit, and a radius up to
-- twice that.
use Rattle.std.specs.Prelude.{ℕ, ◌≤◌, ℤ, nat_abs, ◌-ℤ◌, ◌*ℤ◌}
use Rattle.std.proofs.Common.{mul-le-mul, arith, SFits}
use Rattle.std.specs.Int.{w32, w64}
use Rattle.distance.specs.Fix.{Fix, widest}
use Rattle.distance.specs.Place.{Point}
use Rattle.distance.specs.Integers.Bounds.{Bound, ◌⊕◌, ◌⊝◌, ◌⊛◌, of_width, fits}
use Rattle.approach.specs.declared.Vector.{Vector}
use Rattle.approach.specs.Approach.{toward, along, length_squared, dot}
use Rattle.approach.specs.Laws.Tests.{cross_product}
use Rattle.approach.specs.Laws.Ranges.{NearFits, Short, greatest_square, longest}

abbrev of : (z : ℤ) {n : ℕ} → nat_abs z ≤ n → Bound z
of z {n} h = record { top = n; holds = h }

between : (i j : ℤ) → nat_abs i ≤ widest → nat_abs j ≤ widest → nat_abs (j -ℤ i) ≤ longest
between i j h k = (of j k ⊝ of i h).holds

module _ {a b : Fix} {c : Point} {r : ℕ} (f : NearFits a b c r) where
  pub short_start : Short (toward a c)
  short_start = record { x_short = between a.x c.x f.ax f.asked.cx; y_short = between a.y c.y f.ay f.asked.cy }

  pub short_end : Short (toward b c)
  short_end = record { x_short = between b.x c.x f.bx f.asked.cx; y_short = between b.y c.y f.by f.asked.cy }

  pub short_leg : Short (along a b)
  short_leg = record { x_short = between a.x b.x f.ax f.bx; y_short = between a.y b.y f.ay f.by }

-- ---- from one coordinate to another, of whatever 32 bits say
pub record AxisFits (i j : ℤ) : Type 0 where
  pub i32 : SFits w32 i
  pub j32 : SFits w32 j
  pub i64 : SFits w64 i
  pub j64 : SFits w64 j
  pub j_i : SFits w64 (j -ℤ i)

pub axis_fits : {i j : ℤ} → SFits w32 i → SFits w32 j → AxisFits i j
axis_fits {i} {j} h k =
    let s = of_width w32 {z = i} h in
    let t = of_width w32 {z = j} k in
    record { i32 = h; j32 = k; i64 = fits w64 s tt; j64 = fits w64 t tt; j_i = fits w64 (t ⊝ s) tt }

-- ---- sums and differences of two products
pub record ProductsFit (v w : Vector) : Type 0 where
  pub vx : SFits w64 v.x
  pub vy : SFits w64 v.y
  pub wx : SFits w64 w.x
  pub wy : SFits w64 w.y
  pub xx : SFits w64 (v.x *ℤ w.x)
  pub yy : SFits w64 (v.y *ℤ w.y)
  pub xy : SFits w64 (v.x *ℤ w.y)
  pub yx : SFits w64 (v.y *ℤ w.x)
  pub sum : SFits w64 (dot v w)
  pub difference : SFits w64 (cross_product v w)
  pub dot_low : nat_abs (dot v w) ≤ greatest_square
  pub cross_product_low : nat_abs (cross_product v w) ≤ greatest_square

pub products_fit : {v w : Vector} → Short v → Short w → ProductsFit v w
products_fit {v} {w} h k =
    let xx = of v.x h.x_short ⊛ of w.x k.x_short in
    let yy = of v.y h.y_short ⊛ of w.y k.y_short in
    let xy = of v.x h.x_short ⊛ of w.y k.y_short in
    let yx = of v.y h.y_short ⊛ of w.x k.x_short in
    record {
      vx = fits w64 (of v.x h.x_short) tt;
      vy = fits w64 (of v.y h.y_short) tt;
      wx = fits w64 (of w.x k.x_short) tt;
      wy = fits w64 (of w.y k.y_short) tt;
      xx = fits w64 xx tt;
      yy = fits w64 yy tt;
      xy = fits w64 xy tt;
      yx = fits w64 yx tt;
      sum = fits w64 (xx ⊕ yy) tt;
      difference = fits w64 (xy ⊝ yx) tt;
      dot_low = (xx ⊕ yy).holds;
      cross_product_low = (xy ⊝ yx).holds;
    }

-- the square of a length
pub length_squared_low : {v : Vector} → Short v → length_squared v ≤ greatest_square
length_squared_low {v} h = omega (arith, mul-le-mul {n₁ = nat_abs v.x} {m₁ = nat_abs v.x} {n₂ = longest} {m₂ = longest} h.x_short h.x_short, mul-le-mul {n₁ = nat_abs v.y} {m₁ = nat_abs v.y} {n₂ = longest} {m₂ = longest} h.y_short h.y_short)
