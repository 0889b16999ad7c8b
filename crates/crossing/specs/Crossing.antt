-- CROSSING A BOX. Document 01: "The intersect question, for a box with its edges included and a window of whole seconds (32 bits, on the fixes' own
-- clock), both ends included. Yes exactly if at some fractional time of the window the interpolated place is in the box. Yes carries the earliest such
-- time, in seconds after the first fix, as a fraction. Its value is fixed; its form is free, with a denominator from 1 to 32,000. No carries nothing." Document 02,
-- item 8: "Boxes [..] are in the record's unit. [..] a crossing fraction's denominator may reach 320,000", for kind 2: twice the limit of its places, as for kind 1.
-- Item 5: "For crossings [..] only the two ends of a silent leg count."
use Rattle.std.specs.Prelude.{◌≡◌, cond, List, [], ◌∷◌, ℕ, ◌+◌, ◌*◌, ◌≤◌, ◌-◌}
use Rattle.std.proofs.Math.Option.{Option, some, none}
use Rattle.distance.specs.Fix.{Fix}
use Rattle.distance.specs.Place.{Time, From, Until, first_time, after_first, place}
use Rattle.distance.specs.Silence.{silent, OutsideSilences}
use Rattle.distance.specs.Box.{Box, In}
use Rattle.format.specs.Kinds.{Kind}
use Rattle.format.specs.Format.{kind_of, fixes}
use Rattle.record.specs.Checks.{Given, asked_of, nothing, refusal_of, crossing, checks, sentence, FirstHolds}
use Rattle.record.specs.Answers.{Answer, gives, turns_away, answer, or_else}
use Rattle.legs.specs.declared.Fraction.{Fraction}
use Rattle.legs.specs.Legs.{raised, framed, leg_first}
use Rattle.legs.specs.declared.Frame.{Frame}

-- ---- what the question means
-- The fractional time u is of the window from s to e and outside silences, whose ends are outside, and the trail's place then is in the box.
pub record Crosses (l : List Fix) (box : Box) (s e : ℕ) (u : Time) : Type 0 where
  pub opened : From s u
  pub closed : Until e u
  pub heard : OutsideSilences l u
  pub inside : In box (place l u)

-- Yes: n/d seconds after the first fix it crosses, and no time of the window that is earlier does. The limit is that of the trail's places.
pub record Told (limit : ℕ) (l : List Fix) (box : Box) (s e n d : ℕ) : Type 0 where
  pub some_denominator : 1 ≤ d
  pub small_denominator : d ≤ 2 * limit
  pub crosses : Crosses l box s e (after_first l n d some_denominator)
  pub earliest : (u : Time) → Crosses l box s e u → (d * first_time l + n) * u.q ≤ u.p * d

-- No: no time of the window does.
abbrev pub Denied : List Fix → Box → (s e : ℕ) → Type 0
Denied l box s e = (u : Time) → Crosses l box s e u → ⊥

-- What yes with a time means, and what no means.
abbrev pub Means : (limit : ℕ) → List Fix → Box → (s e : ℕ) → Option Fraction → Type 0
Means limit l box s e (some f) = Told limit l box s e f.num f.den
Means limit l box s e none = Denied l box s e

-- ---- when two answers say the same: the told time f is the time g. "Its value is fixed; its form is free, with a denominator from 1 to 32,000.", which is twice
-- the limit of its kind's places, as 320,000 is in item 8.
pub record SameTime (K : Kind) (f g : Fraction) : Type 0 where
  pub same_value : f.num * g.den ≡ g.num * f.den
  pub at_least : 1 ≤ f.den
  pub at_most : f.den ≤ 2 * K.limit

-- Yes with the same time, or no.
abbrev pub SameCrossing : Kind → Option Fraction → Option Fraction → Type 0
SameCrossing K none none = Unit
SameCrossing K (some f) (some g) = SameTime K f g
SameCrossing K none (some g) = ⊥
SameCrossing K (some f) none = ⊥

-- ---- the same computed: the first leg that crosses. The last fix, or a lone one, is a leg of no seconds from itself to itself, and so is what counts of a
-- silent leg before its end, with which the next leg begins.
abbrev pub followed : Fix → Fix → Fix
followed a b = cond (silent a) a b

unfoldable pub first_from : (first : ℕ) → Fix → List Fix → Frame → (w v : ℕ) → Option Fraction
first_from first a [] f w v = leg_first (raised first a) (raised first a) f w v
first_from first a (b ∷ l) f w v = or_else (leg_first (raised first a) (raised first (followed a b)) f w v) (first_from first b l f w v)

-- The first crossing of a trail, in seconds after its first fix. (`crossing_means` of Laws/Crossing.antt: it means what is said above.) Check 13 has seen to
-- it that the window doesn't begin before the first fix, so that no second less the first fix's is cut off at 0.
unfoldable pub first_crossing : List Fix → Box → (s e : ℕ) → Option Fraction
first_crossing [] box s e = none
first_crossing (a ∷ l) box s e = first_from a.t a l (framed box) (s - a.t) (e - a.t)

-- ---- THE ANSWER. What the call does not take decides nothing (`crossing_alone` of the record's Laws/First.antt).
abbrev pub asked_crossing : (s e : ℕ) → Box → Given
asked_crossing s e box = record {
  tolerance = nothing.tolerance;
  second = nothing.second;
  thousandths = nothing.thousandths;
  start = s;
  end = e;
  box = box;
  output = nothing.output;
  table = nothing.table;
  point = nothing.point;
  radius = nothing.radius;
  report = nothing.report;
}

-- On lent bytes: "the crossing 1 to 9, 13, 14", and 20 after 9.
abbrev pub cross_refusal : List ℕ → (s e : ℕ) → Box → Option ℕ
cross_refusal b s e box = refusal_of crossing b (asked_crossing s e box)

-- It names the form of the fraction, as document 02's item 4 asks: the one that `first_crossing` computes of the first leg that crosses, and `Means` is what it
-- means. It isn't reduced: over how far this leg goes in x, or in y, if that coordinate comes to the box just then, and over 1 if the leg or the window begins
-- just then; of equal times the first of leg, window, x and y. It is the same whatever the clock says (`cross_answer_moved` of Laws/Moved.antt).
abbrev pub cross_answer : List ℕ → (s e : ℕ) → Box → Answer (Option Fraction)
cross_answer b s e box = answer (cross_refusal b s e box) (first_crossing (fixes b) box s e)

-- What an answer says of lent bytes, whatever computed it: yes and no mean what is said above, of the record's fixes and the limit of its kind; and a refusal's
-- number is that of the first of the crossing's checks whose sentence holds. (`cross_means` of Laws/Checking.antt: `cross_answer` says it truly.)
abbrev pub CrossMeans : List ℕ → (s e : ℕ) → Box → Answer (Option Fraction) → Type 0
CrossMeans b s e box (gives o) = Means (kind_of b).limit (fixes b) box s e o
CrossMeans b s e box (turns_away k) = FirstHolds (sentence (kind_of b) (asked_of b (asked_crossing s e box))) k (checks crossing)
