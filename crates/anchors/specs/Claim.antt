-- THE CLAIM ABOUT ANY LIST OF READINGS. Document 02, item 3: "The state holds the last place as floats, and after any list of readings, each given the state that
-- the one before left, with an accepted absolute place in it, it equals the exact sum counted in sixteenths, nothing lost, of the last accepted absolute place and
-- the steps accepted since."
use Rattle.std.specs.Prelude.{◌≡◌, ℕ, min, true, false, cond, List, [], ◌∷◌, ◌++◌, length, ◌==◌, slice_index, slice_index_or, Float}
use Rattle.std.specs.Float.{nan}
use Rattle.format.specs.Format.{each}
use Rattle.record.specs.Checks.{InSixteenths, moved_by, anchor_refusal}
use Rattle.record.specs.Answers.{unless}
use Rattle.anchors.specs.declared.State.{State}
use Rattle.anchors.specs.declared.Reading.{Reading}
use Rattle.anchors.specs.declared.Reading.TheVariants.{Absolute, Step}
use Rattle.anchors.specs.Anchors.{counts, report, state_after, StandsAt}

-- "each given the state that the one before left"
unfoldable pub after_all : State → List Reading → State
after_all s [] = s
after_all s (r ∷ rs) = after_all (state_after s r) rs

-- The readings of a list that are accepted, in their order.
unfoldable pub accepted : State → List Reading → List Reading
accepted s [] = []
accepted s (r ∷ rs) = unless (anchor_refusal (report s r)) [] (r ∷ []) ++ accepted (state_after s r) rs

-- Steps and nothing else: how far each goes in x and in y.
unfoldable pub steps : List (Float × Float) → List Reading
steps [] = []
steps (d ∷ l) = Step d.0 d.1 ∷ steps l

-- "the exact sum" of a place and such steps
unfoldable pub total : InSixteenths → List (Float × Float) → InSixteenths
total c [] = c
total c (d ∷ l) = total (moved_by c (counts d.0 d.1)) l

-- THE CLAIM, from any state at all, whoever made it. What is accepted of a list is steps alone, or it has a last absolute place with steps alone after it, and
-- nothing else (`parts` of Laws/Claim.antt).
pub record AnchorClaim (s : State) (rs : List Reading) : Type 0 where
  -- "with an accepted absolute place in it": x, y is the last one
  pub exact : (before : List Reading) (x y : Float) (since : List (Float × Float)) → accepted s rs ≡ before ++ (Absolute x y ∷ steps since)
      → StandsAt (after_all s rs) (total (counts x y) since)
  -- with none in it nothing is lost either: the steps go from the place that was handed in, with its flag on ..
  pub handed_in : (d : Float × Float) (since : List (Float × Float)) → accepted s rs ≡ steps (d ∷ since)
      → (s.seen ≡ true) × StandsAt (after_all s rs) (total (counts s.x s.y) (d ∷ since))
  -- .. and where nothing is accepted it is the very state that was handed in
  pub unchanged : accepted s rs ≡ [] → after_all s rs ≡ s
  -- "a state whose flag, on from the first accepted absolute place, is off": until then flag and place are as they were handed in
  pub before_first : s.seen ≡ false → (since : List (Float × Float)) → accepted s rs ≡ steps since → after_all s rs ≡ s

-- ---- a list as it is lent, a column each for which readings are steps (all but those of 0), for x and for y; it is as long as the shortest
abbrev pub reading_of : (step : ℕ) (x y : Float) → Reading
reading_of k x y = cond (k == 0) (Absolute x y) (Step x y)

abbrev pub column_reading : List ℕ → List Float → List Float → ℕ → Reading
column_reading ks xs ys k = reading_of (slice_index ks k) (slice_index_or xs k nan) (slice_index_or ys k nan)

abbrev pub column_readings : List ℕ → List Float → List Float → List Reading
column_readings ks xs ys = each (column_reading ks xs ys) 0 (min (length ks) (min (length xs) (length ys)))
