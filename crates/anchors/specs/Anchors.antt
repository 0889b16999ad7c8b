-- CEILING ANCHORS. Document 02, item 3: "New anchors send either an absolute place in f32 centimetres or a step from the last place, also two floats."
-- A float is the kit's: `nan`, an infinity `inf s`, or `fin s m e`, the number m · 2ᵉ, negative where s is true; 2ᵉ is the fraction up e / down e.
-- `declared.X` is the struct or enum X of the code, and `TheVariants` are the cases of an enum.
use Rattle.std.specs.Prelude.{◌≡◌, ℕ, ◌*◌, ◌/◌, ◌%◌, Bool, true, false, cond, ℤ, pos, neg_ℤ, ◌==◌, Float}
use Rattle.std.proofs.Math.Option.{Option, some, none}
use Rattle.std.specs.Float.{nan, inf, fin, binary32}
use Rattle.std.specs.Float.Ieee.{up, down, add}
use Rattle.std.specs.Float.Ieee.Exact.{HasValue}
use Rattle.distance.specs.Place.{Point, point_at}
use Rattle.distance.specs.Rounding.{rounded}
use Rattle.record.specs.Checks.{InSixteenths, Report, uncounted, beyond, new_place, anchor_refusal}
use Rattle.record.specs.Answers.{Answer, answer, unless}
use Rattle.anchors.specs.declared.State.{State}
use Rattle.anchors.specs.declared.Reading.{Reading}
use Rattle.anchors.specs.declared.Reading.TheVariants.{Absolute, Step}

-- ---- A VALUE "counted in sixteenths, nothing lost"
-- n, or −n. There is one 0, so −0.0 counts as 0.0 does.
abbrev pub negative_if : Bool → ℕ → ℤ
negative_if false n = pos n
negative_if true n = neg_ℤ (pos n)

-- How many sixteenths a float is: 16 · m · 2ᵉ, if that is a whole number. One that "isn't finite or isn't a whole number of sixteenths" has no count.
unfoldable pub sixteenths : Float → Option ℤ
sixteenths nan = none
sixteenths (inf s) = none
sixteenths (fin s m e) = cond (m * up e * 16 % down e == 0) (some (negative_if s (m * up e * 16 / down e))) none

-- What that means (`sixteenths_exactly` of Laws/Sixteenths.antt): x is z/16. By the kit's `HasValue`, x is finite, has this sign and is n/16 in size.
pub record IsSixteenths (x : Float) (z : ℤ) : Type 0 where
  pub negative : Bool
  pub n : ℕ
  pub value : HasValue x negative n 16
  pub is : negative_if negative n ≡ z

abbrev pub counts : (x y : Float) → InSixteenths
counts x y = record { x = sixteenths x; y = sixteenths y }

-- ---- A READING. What the checks ask of it, and of the state that it is given:
abbrev pub report : State → Reading → Report
report s (Absolute x y) = record { is_step = false; sent = counts x y; flag = s.seen; last = counts s.x s.y }
report s (Step x y) = record { is_step = true; sent = counts x y; flag = s.seen; last = counts s.x s.y }

-- "Each reading also yields the rounded fix place by Item 1's rule." A place that is accepted has its counts (`new_place_counted`), so the 0 decides nothing.
abbrev pub rounded_count : Option ℤ → ℤ
rounded_count none = pos 0
rounded_count (some z) = rounded z (pos 16)

abbrev pub rounded_place : InSixteenths → Point
rounded_place c = point_at (rounded_count c.x) (rounded_count c.y)

-- "The state holds the last place as floats": those that were sent, and after a step the sums of the language, rounded to an f32 if they had to be. Where a
-- reading is accepted nothing is rounded (`NothingLost`). The flag is "on from the first accepted absolute place".
abbrev pub new_state : State → Reading → State
new_state s (Absolute x y) = record { x = x; y = y; seen = true }
new_state s (Step x y) = record { x = add binary32 s.x x; y = add binary32 s.y y; seen = true }

-- THE ANSWER to a reading: the rounded place, or the refusal.
abbrev pub anchor_answer : State → Reading → Answer Point
anchor_answer s r = answer (anchor_refusal (report s r)) (rounded_place (new_place (report s r)))

-- .. and the state afterwards: "A refused reading changes no state."
abbrev pub state_after : State → Reading → State
state_after s r = unless (anchor_refusal (report s r)) s (new_state s r)

-- The state is at a place, exactly: the flag is on, and its two floats count what the place has, which are whole numbers and within the limits.
pub record StandsAt (s : State) (c : InSixteenths) : Type 0 where
  pub flag : s.seen ≡ true
  pub place : counts s.x s.y ≡ c
  pub counted : uncounted c ≡ false
  pub inside : beyond c ≡ false

-- What holds of it: an accepted reading leaves the state at the new place, "nothing lost".
abbrev pub NothingLost : State → Reading → (afterwards : State) → Type 0
NothingLost s r t = anchor_refusal (report s r) ≡ none → StandsAt t (new_place (report s r))
