-- THE TESTS OF ONE LEG AS THE CODE MAKES THEM, without the denominator: an end of the leg by its own distance, and the foot of the perpendicular by |p × m| / |m|. Each
-- says what the definition says.
use Rattle.std.specs.Prelude.{◌≡◌, Bool, true, false, cond, [], ◌∷◌, ℕ, ◌+◌, ◌*◌, ◌≤◌, ◌<◌, leb, ℤ, pos, ◌+ℤ◌, ◌-ℤ◌, ◌*ℤ◌}
use Rattle.std.proofs.Math.Path.{refl, sym}
use Rattle.std.proofs.Common.{◌∙◌, ap, true≢false, arith}
use Rattle.std.proofs.Math.Option.{some, none}
use Rattle.std.proofs.Math.IntN.{nat_abs}
use Rattle.std.specs.Bool.{then_some}
use Rattle.std.specs.Int.Signed.{le_z, yes_non_neg, pos-nat_abs}
use borrow.Author.Tests.{le-leb, lt-leb}
use Rattle.distance.specs.Fix.{Fix}
use Rattle.distance.specs.Place.{Point}
use Rattle.distance.specs.Distance.{squared}
use Rattle.distance.proofs.Laws.Deviation.{squared_is}
use Rattle.distance.specs.Integers.Ring.{ring, quotes, lit, vars}
use Rattle.distance.specs.Integers.Order.{<ℤ-≤ℤ, TestZ, z_fails, test_z}
use Rattle.distance.specs.Integers.Tests.{leb_times}
use Rattle.approach.specs.declared.Vector.{Vector}
use Rattle.approach.specs.declared.Part.{Part}
use Rattle.approach.specs.Approach.{toward, along, length_squared, dot, start_part, end_part, heard_part, silent_part, from_part, near_part}
use Rattle.approach.proofs.Laws.Parts.{far, length_squared_is, left_far, Ends, leg_ends, moves}
use Rattle.approach.specs.Answers.{told}
use Rattle.approach.specs.Laws.Tests.{cross_product, near_end, near_inside}

-- ---- the two ends
all_left : (x y : ℤ) → pos 1 *ℤ x -ℤ pos 0 *ℤ y ≡ x
all_left x y = vars (x ∷ y ∷ []) (λ ρ v. simp (v 0, v 1, quotes, lit ρ) (ring _ _ ρ tt))

all_gone : (x y : ℤ) → pos 1 *ℤ x -ℤ pos 1 *ℤ y ≡ x -ℤ y
all_gone x y = vars (x ∷ y ∷ []) (λ ρ v. simp (v 0, v 1, quotes, lit ρ) (ring _ _ ρ tt))

one_over : (r : ℕ) → r * r * (1 * 1) ≡ r * r
one_over r = omega arith

module _ (p m : Vector) (r : ℕ) where
  pub at_start : near_part start_part p m r ≡ near_end 0 p r
  unfolding near_part
  at_start = rw (all_left p.x m.x, all_left p.y m.y, one_over r) refl

  pub at_end : (q : Vector) → Ends p m q → near_part end_part p m r ≡ near_end 1 q r
  unfolding near_part
  at_end q e = rw (all_gone p.x m.x ∙ sym e.from_x, all_gone p.y m.y ∙ sym e.from_y, one_over r) refl

  -- ---- the foot N/K, with N the product and K the square of the leg's length: its distance is that of p × m over the leg's length, both sides times K
  foot_far : (N : ℕ) → pos N ≡ dot p m → length_squared (from_part (record { num = N; den = length_squared m }) p m) ≡ length_squared m * squared (cross_product p m)
  foot_far N e = ap nat_abs (left_far (record { num = N; den = length_squared m }) p m ∙ area p.x p.y m.x m.y (pos N) (pos (length_squared m)) e (length_squared_is m) ∙ ap (λ (z : ℤ). pos (length_squared m) *ℤ z) (sym (squared_is (cross_product p m))))
    where
      area : (a b u v n k : ℤ) → n ≡ a *ℤ u +ℤ b *ℤ v → k ≡ u *ℤ u +ℤ v *ℤ v → far (record { x = a; y = b }) (record { x = u; y = v }) n k ≡ k *ℤ ((a *ℤ v -ℤ b *ℤ u) *ℤ (a *ℤ v -ℤ b *ℤ u))
      area a b u v n k e f = vars (a ∷ b ∷ u ∷ v ∷ []) (λ ρ x. simp (e, f, x 0, x 1, x 2, x 3, quotes) (ring _ _ ρ tt))

  foot_reach : r * r * (length_squared m * length_squared m) ≡ length_squared m * (r * nat_abs m.x * (r * nat_abs m.x) + r * nat_abs m.y * (r * nat_abs m.y))
  foot_reach = omega arith

  pub at_foot : (N : ℕ) → pos N ≡ dot p m → 1 ≤ length_squared m → near_part (record { num = N; den = length_squared m }) p m r ≡ near_inside p m (record { num = N; den = length_squared m }) r
  unfolding near_part
  at_foot N e moving = rw (foot_far N e, foot_reach, leb_times (length_squared m) (squared (cross_product p m)) (r * nat_abs m.x * (r * nat_abs m.x) + r * nat_abs m.y * (r * nat_abs m.y)) moving) refl

-- ---- a leg with no silence, by what the product says
module _ (a b : Fix) (c : Point) (r : ℕ) where
  abbrev foot : ℤ
  foot = dot (toward a c) (along a b)

  pub heard_start : le_z foot (pos 0) ≡ true → near_part (heard_part a b c) (toward a c) (along a b) r ≡ near_end 0 (toward a c) r
  unfolding heard_part
  heard_start h = rw h (at_start (toward a c) (along a b) r)

  -- behind the start the product is a natural number
  pub positive : le_z foot (pos 0) ≡ false → (pos (nat_abs foot) ≡ foot) × (1 ≤ length_squared (along a b))
  positive h = go (le_z foot (pos 0)) (test_z foot (pos 0)) h
    where
      go : (t : Bool) → TestZ foot (pos 0) t → t ≡ false → (pos (nat_abs foot) ≡ foot) × (1 ≤ length_squared (along a b))
      go true t e = absurd (true≢false e)
      go false (z_fails g) e = (pos-nat_abs foot (yes_non_neg (<ℤ-≤ℤ g)), moves (toward a c) (along a b) g)

  reaches : le_z foot (pos 0) ≡ false → le_z (pos (length_squared (along a b))) foot ≡ leb (length_squared (along a b)) (nat_abs foot)
  reaches h = ap (λ (z : ℤ). le_z (pos (length_squared (along a b))) z) (sym (positive h).0)

  pub heard_end : le_z foot (pos 0) ≡ false → length_squared (along a b) ≤ nat_abs foot → near_part (heard_part a b c) (toward a c) (along a b) r ≡ near_end 1 (toward b c) r
  unfolding heard_part
  heard_end h k = rw (h, reaches h, le-leb (length_squared (along a b)) (nat_abs foot) k) (at_end (toward a c) (along a b) r (toward b c) (leg_ends a b c))

  pub heard_foot : le_z foot (pos 0) ≡ false → nat_abs foot < length_squared (along a b)
      → near_part (heard_part a b c) (toward a c) (along a b) r ≡ near_inside (toward a c) (along a b) (record { num = nat_abs foot; den = length_squared (along a b) }) r
  unfolding heard_part
  heard_foot h k = rw (h, reaches h, lt-leb (length_squared (along a b)) (nat_abs foot) k) (at_foot (toward a c) (along a b) r (nat_abs foot) (positive h).0 (positive h).1)

  -- ---- and a silent one
  pub silent_start : length_squared (toward a c) ≤ length_squared (toward b c) → near_part (silent_part a b c) (toward a c) (along a b) r ≡ near_end 0 (toward a c) r
  unfolding silent_part
  silent_start h = rw (le-leb (length_squared (toward a c)) (length_squared (toward b c)) h) (at_start (toward a c) (along a b) r)

  pub silent_end : length_squared (toward b c) < length_squared (toward a c) → near_part (silent_part a b c) (toward a c) (along a b) r ≡ near_end 1 (toward b c) r
  unfolding silent_part
  silent_end h = rw (lt-leb (length_squared (toward a c)) (length_squared (toward b c)) h) (at_end (toward a c) (along a b) r (toward b c) (leg_ends a b c))

-- ---- what each test gives
-- the end of a span: the place at it, if it lies within r, and none else
module _ (num : ℕ) (v : Vector) (r : ℕ) where
  pub end_comes : length_squared v ≤ r * r → some (record { num = num; den = 1 }) ≡ near_end num v r
  end_comes h = rw (le-leb (length_squared v) (r * r) h) refl

  pub end_stays : r * r < length_squared v → none ≡ near_end num v r
  end_stays h = rw (lt-leb (length_squared v) (r * r) h) refl

pub then_told : {A : Type 0} (t : Bool) (a : A) → told (then_some t a) ≡ cond t (some a) none
then_told true a = refl
then_told false a = refl

pub inside_as : (p m : Vector) (s : Part) (r x y z : ℕ) (t : Bool) → x ≡ nat_abs (cross_product p m) → y ≡ nat_abs m.x → z ≡ nat_abs m.y → leb (x * x) (r * y * (r * y) + r * z * (r * z)) ≡ t
    → cond t (some s) none ≡ near_inside p m s r
inside_as p m s r x y z t e f g h = rw (← e, ← f, ← g, h) refl
