-- THE SAME APPROACH IN CENTIMETRES AND IN MILLIMETRES: of the same trail in the two units (`Tenfold` of the record's
-- Tenfold.antt), and of the same point and radius in them, the radius question names the same leg and time, says no of
-- both, or refuses both with the same number: `near_answer_tenfold` of Laws/Tenfold.antt.
use Rattle.std.specs.Prelude.{◌≡◌, ◌*◌, ◌≤◌, pos, ◌*ℤ◌}
use Rattle.std.proofs.Math.Option.{Option, some, none}
use Rattle.distance.specs.Place.{Point, point_at}
use Rattle.approach.specs.declared.Approach.{Approach}

-- A point with both coordinates times ten.
abbrev pub tenfold_point : Point → Point
tenfold_point c = point_at (pos 10 *ℤ c.x) (pos 10 *ℤ c.y)

-- The same leg, and the time A is the time G: item 2's "a fraction of free form, denominator above 0", by its value.
pub record SameOnLeg (A G : Approach) : Type 0 where
  pub same_leg : A.leg ≡ G.leg
  pub same_value : A.num * G.den ≡ G.num * A.den
  pub at_least : 1 ≤ A.den
  pub other_at_least : 1 ≤ G.den

-- Yes with the same leg and the same time, or no.
abbrev pub SameApproach : Option Approach → Option Approach → Type 0
SameApproach none none = Unit
SameApproach (some A) (some G) = SameOnLeg A G
SameApproach none (some G) = ⊥
SameApproach (some A) none = ⊥
