-- WHEN WAS IT NEAR? Document 02, item 2: "Hygiene asks by a point and an unsigned radius, in whole centimetres. The answer is yes exactly if at some fractional
-- time of the trail the place is within the radius. Yes names the first leg that comes that close (counted from 0, or 0 for a one-fix trail) and the earliest time
-- of closest approach on it, a fraction of free form, denominator above 0, after the first fix." Item 5: "For crossings and radius questions only the two ends of a
-- silent leg count." Item 8: "points, radii [..] are in the record's unit." `declared.X` is the struct X of the code.
use Rattle.std.specs.Prelude.{cond, List, [], ◌∷◌, ℕ, suc, ◌+◌, ◌*◌, ◌-◌, ◌≤◌, ◌<◌, leb, ℤ, pos, nat_abs, ◌+ℤ◌, ◌-ℤ◌, ◌*ℤ◌}
use Rattle.std.proofs.Math.Option.{Option, some, none}
use Rattle.std.specs.Int.Signed.{le_z}
use Rattle.distance.specs.Fix.{Fix}
use Rattle.distance.specs.Distance.{squared}
use Rattle.distance.specs.Place.{Time, From, Until, AskedOf, first_time, after_first, Point, point_place, place, Near, NoFurther}
use Rattle.distance.specs.Silence.{silent, OutsideSilences}
use Rattle.format.specs.Format.{kind_of, fixes}
use Rattle.record.specs.Checks.{Given, asked_of, nothing, refusal_of, approaching, checks, sentence, FirstHolds}
use Rattle.record.specs.Answers.{Answer, gives, turns_away, answer, or_else}
use Rattle.approach.specs.declared.Vector.{Vector}
use Rattle.approach.specs.declared.Part.{Part}
use Rattle.approach.specs.declared.Approach.{Approach}

-- ---- what the question means
-- The fractional time u is one of the trail and outside silences, whose ends are outside, and the trail's place then is within r of the point.
pub record Comes (l : List Fix) (c : Point) (r : ℕ) (u : Time) : Type 0 where
  pub asked : AskedOf l u
  pub heard : OutsideSilences l u
  pub near : Near r (place l u) (point_place c)

-- Leg i of a trail goes from a to b, "counted from 0, or 0 for a one-fix trail", whose only fix is both.
pub data IsLeg : List Fix → ℕ → Fix → Fix → Type 0 where
  lone : {a : Fix} → IsLeg (a ∷ []) 0 a a
  here : {a b : Fix} {l : List Fix} → IsLeg (a ∷ b ∷ l) 0 a b
  further : {a b c : Fix} {l : List Fix} {i : ℕ} {d e : Fix} → IsLeg (b ∷ c ∷ l) i d e → IsLeg (a ∷ b ∷ c ∷ l) (suc i) d e

-- A time of the leg from a to b, both ends included, that is outside silences: of a silent leg it is one of the two ends.
pub record OnLeg (l : List Fix) (a b : Fix) (u : Time) : Type 0 where
  pub from : From a.t u
  pub until : Until b.t u
  pub heard : OutsideSilences l u

-- Yes: leg i, and the time n/d seconds after the first fix.
pub record ToldNear (l : List Fix) (c : Point) (r i n d : ℕ) : Type 0 where
  pub start : Fix
  pub end : Fix
  pub leg : IsLeg l i start end
  pub some_denominator : 1 ≤ d
  -- the time is of that leg, and then the place is within the radius
  pub on_leg : OnLeg l start end (after_first l n d some_denominator)
  pub near : Near r (place l (after_first l n d some_denominator)) (point_place c)
  -- it is the first that comes that close: at no time of a leg before it is the place within the radius
  pub first : (j : ℕ) (a b : Fix) → IsLeg l j a b → j < i → (u : Time) → OnLeg l a b u → Near r (place l u) (point_place c) → ⊥
  -- no time of that leg is closer ..
  pub closest : (u : Time) → OnLeg l start end u → NoFurther (point_place c) (place l (after_first l n d some_denominator)) (place l u)
  -- .. and none that is as close is earlier
  pub earliest : (u : Time) → OnLeg l start end u → NoFurther (point_place c) (place l u) (place l (after_first l n d some_denominator)) → (d * first_time l + n) * u.q ≤ u.p * d

-- No: at no time of the trail.
abbrev pub DeniedNear : List Fix → Point → (r : ℕ) → Type 0
DeniedNear l c r = (u : Time) → Comes l c r u → ⊥

abbrev pub MeansNear : List Fix → Point → (r : ℕ) → Option Approach → Type 0
MeansNear l c r (some A) = ToldNear l c r A.leg A.num A.den
MeansNear l c r none = DeniedNear l c r

-- ---- the same computed, leg by leg
-- From a fix to the point, and along a leg; the square of a length, and the product of two vectors.
abbrev pub toward : Fix → Point → Vector
toward a c = record { x = c.x -ℤ a.x; y = c.y -ℤ a.y }

abbrev pub along : Fix → Fix → Vector
along a b = record { x = b.x -ℤ a.x; y = b.y -ℤ a.y }

abbrev pub length_squared : Vector → ℕ
length_squared v = squared v.x + squared v.y

abbrev pub dot : Vector → Vector → ℤ
dot v w = v.x *ℤ w.x +ℤ v.y *ℤ w.y

-- A part num/den of a leg: its start, its end, or one between them.
abbrev pub start_part : Part
start_part = record { num = 0; den = 1 }

abbrev pub end_part : Part
end_part = record { num = 1; den = 1 }

-- THE CLOSEST PART of a leg that is no silence: the foot of the perpendicular from the point, which is dot/length-squared of the leg; the start if the foot is there or
-- before it, and the end if the foot is there or behind it. Of a leg at rest it is the start. (Between the two the product is positive, so that its sign is not lost.)
unfoldable pub heard_part : Fix → Fix → Point → Part
heard_part a b c =
    let foot = dot (toward a c) (along a b) in
    cond (le_z foot (pos 0)) start_part (cond (le_z (pos (length_squared (along a b))) foot) end_part (record { num = nat_abs foot; den = length_squared (along a b) }))

-- Of a silent leg: the nearer of "the two ends", and the start if they are as near.
unfoldable pub silent_part : Fix → Fix → Point → Part
silent_part a b c = cond (leb (length_squared (toward a c)) (length_squared (toward b c))) start_part end_part

abbrev pub closest_part : Fix → Fix → Point → Part
closest_part a b c = cond (silent a) (silent_part a b c) (heard_part a b c)

-- From a part of a leg to the point, times the part's denominator; p goes from the leg's start to the point, and m along the leg.
abbrev pub from_part : Part → (p m : Vector) → Vector
from_part s p m = record { x = pos s.den *ℤ p.x -ℤ pos s.num *ℤ m.x; y = pos s.den *ℤ p.y -ℤ pos s.num *ℤ m.y }

-- The part, if it is within r of the point.
unfoldable pub near_part : Part → (p m : Vector) → (r : ℕ) → Option Part
near_part s p m r = cond (leb (length_squared (from_part s p m)) (r * r * (s.den * s.den))) (some s) none

unfoldable pub leg_near : Fix → Fix → Point → (r : ℕ) → Option Part
leg_near a b c r = near_part (closest_part a b c) (toward a c) (along a b) r

-- The time of a part of leg i, in seconds after the first fix: over the part's denominator, and not reduced. No time of a trail is before its first, and none of a
-- leg before its start, so that no difference is cut off at 0.
abbrev pub approach_of : (first i : ℕ) → Fix → Fix → Part → Approach
approach_of first i a b s = record { leg = i; num = s.den * (a.t - first) + s.num * (b.t - a.t); den = s.den }

abbrev pub told_on : (first i : ℕ) → Fix → Fix → Option Part → Option Approach
told_on first i a b none = none
told_on first i a b (some s) = some (approach_of first i a b s)

-- "the first leg that comes that close", from leg i on, which begins with fix a
unfoldable pub near_from : (first i : ℕ) → Fix → List Fix → Point → (r : ℕ) → Option Approach
near_from first i a [] c r = none
near_from first i a (b ∷ l) c r = or_else (told_on first i a b (leg_near a b c r)) (near_from first (suc i) b l c r)

-- The first approach of a trail. A lone fix is a leg at rest. (`near_means` of Laws/Trail.antt: it means what is said above.)
unfoldable pub first_near : List Fix → Point → (r : ℕ) → Option Approach
first_near [] c r = none
first_near (a ∷ []) c r = told_on a.t 0 a a (leg_near a a c r)
first_near (a ∷ b ∷ l) c r = near_from a.t 0 a (b ∷ l) c r

-- ---- THE ANSWER. What the call does not take decides nothing (`approaching_alone` of the record's Laws/First.antt).
abbrev pub asked_near : Point → (r : ℕ) → Given
asked_near c r = record {
  tolerance = nothing.tolerance;
  second = nothing.second;
  thousandths = nothing.thousandths;
  start = nothing.start;
  end = nothing.end;
  box = nothing.box;
  output = nothing.output;
  table = nothing.table;
  point = c;
  radius = r;
  report = nothing.report;
}

-- On lent bytes: 1 to 9, 20 and 16.
abbrev pub near_refusal : List ℕ → Point → (r : ℕ) → Option ℕ
near_refusal b c r = refusal_of approaching b (asked_near c r)

-- The form of the fraction is named by it: over 1 if the closest place of the leg is one of its ends, and else over the square of its length.
abbrev pub near_answer : List ℕ → Point → (r : ℕ) → Answer (Option Approach)
near_answer b c r = answer (near_refusal b c r) (first_near (fixes b) c r)

-- What an answer says of lent bytes, whatever computed it. (`near_answer_means` of Laws/Checking.antt: `near_answer` says it truly.)
abbrev pub NearMeans : List ℕ → Point → (r : ℕ) → Answer (Option Approach) → Type 0
NearMeans b c r (gives o) = MeansNear (fixes b) c r o
NearMeans b c r (turns_away k) = FirstHolds (sentence (kind_of b) (asked_of b (asked_near c r))) k (checks approaching)
