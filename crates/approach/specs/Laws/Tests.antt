-- THE TESTS OF ONE LEG AS THE CODE MAKES THEM, without the denominator: an end of the leg by its own distance, and the foot of the perpendicular by |p × m| / |m|. Each
-- says what the definition says.
use Rattle.std.specs.Prelude.{cond, ℕ, ◌+◌, ◌*◌, leb, ℤ, ◌-ℤ◌, ◌*ℤ◌}
use Rattle.std.proofs.Math.Option.{Option, some, none}
use Rattle.std.proofs.Math.IntN.{nat_abs}
use Rattle.distance.specs.Distance.{squared}
use Rattle.approach.specs.declared.Vector.{Vector}
use Rattle.approach.specs.declared.Part.{Part}
use Rattle.approach.specs.Approach.{length_squared}

-- p × m
abbrev pub cross_product : Vector → Vector → ℤ
cross_product v w = v.x *ℤ w.y -ℤ v.y *ℤ w.x

-- the end that is num of the leg, 0 or 1, from which v goes to the point
abbrev pub near_end : (num : ℕ) → Vector → (r : ℕ) → Option Part
near_end num v r = cond (leb (length_squared v) (r * r)) (some (record { num = num; den = 1 })) none

-- a part inside the leg: (p × m)² ≤ (r·mx)² + (r·my)²
abbrev pub near_inside : (p m : Vector) → Part → (r : ℕ) → Option Part
near_inside p m s r = cond (leb (squared (cross_product p m)) (r * nat_abs m.x * (r * nat_abs m.x) + r * nat_abs m.y * (r * nat_abs m.y))) (some s) none
