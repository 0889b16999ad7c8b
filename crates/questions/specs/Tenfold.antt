-- CENTIMETRES AND MILLIMETRES, as one claim about a trail that is recorded in both, and about a whole list of agings of it, with every question that may be asked
-- of the two records after it. Document 02, item 8, says that "The meaning is shown one time [..] for both units"; this is what ties the two together, and what
-- halls that move from one to the other rely on: a record of kind 1 with every coordinate times ten, as kind 2, aged at ten times the tolerance, keeps the same
-- positions with the same count, and places and crossings are the same lengths and times. b begins with a record of kind 1 and c with the same trail's of kind 2:
-- `Tenfold` of the record's Tenfold.antt, which holds of b and `tenfold_record b`. The claim is proved in Laws/Tenfold.antt: `tenfold_claim` of any two such
-- buffers, and `made_tenfold` of b and `tenfold_record b`.
use Rattle.std.specs.Prelude.{◌≡◌, Bool, List, [], ◌∷◌, ℕ, ◌*◌}
use Rattle.distance.specs.Box.{Box}
use Rattle.distance.specs.Tenfold.{tenfold_box}
use Rattle.format.specs.Kinds.{millimetre_trail}
use Rattle.format.specs.Format.{fixes}
use Rattle.record.specs.Answers.{Answer, SameAnswer}
use Rattle.record.specs.Tenfold.{Tenfold}
use Rattle.thinning.specs.Marks.{kept_by}
use Rattle.aging.specs.Aging.{Call, left_by, answered}
use Rattle.aging.specs.Tenfold.{ten_times, TenfoldCall}
use Rattle.moment.specs.Moment.{place_answer}
use Rattle.moment.specs.Tenfold.{TenfoldPlace}
use Rattle.crossing.specs.Crossing.{SameCrossing}
use Rattle.questions.specs.Agings.{run, run_answer, after_answer}
use Rattle.questions.specs.Claim.{book, bound_after}

-- Two lists of the same agings, the one in centimetres and the other in millimetres. A list with an aging at more than 6,000 and at most 32,000 centimetres has
-- none in millimetres.
pub data TenfoldCalls : (in_centimetres in_millimetres : List Call) → Type 0 where
  no_calls : TenfoldCalls [] []
  and_then : {q r : Call} {calls tens : List Call} → TenfoldCall q r → TenfoldCalls calls tens → TenfoldCalls (q ∷ calls) (r ∷ tens)

-- What each call of a list answers, of the buffer as the one before left it.
unfoldable pub all_answered : List ℕ → List Call → List (Answer ℕ)
all_answered b [] = []
all_answered b (c ∷ calls) = answered b c ∷ all_answered (left_by b c) calls

pub record TenfoldClaim (b c : List ℕ) (calls tens : List Call) : Type 0 where
  -- every call answers the same count, or the same refusal, and so does the list
  pub same_counts : all_answered c tens ≡ all_answered b calls
  pub same_answer : run_answer c tens ≡ run_answer b calls
  -- after the lists it is the same trail in both units, under the same mark ..
  pub same_trail : Tenfold (run b calls) (run c tens)
  -- .. with the fixes of the same positions: marks that tell them of b tell them of c
  pub positions : (marks : List Bool) → fixes (run b calls) ≡ kept_by marks 0 (fixes b) → fixes (run c tens) ≡ kept_by marks 0 (fixes c)
  -- the book's E is ten times as great in millimetres, and so is the bound that it counts as
  pub same_E : (book c tens).E ≡ ten_times (book b calls).E
  pub same_bound : bound_after c tens ≡ 10 * bound_after b calls
  -- the place at every moment: ten times over the same denominator, or the same refusal
  pub places : (s m : ℕ) → SameAnswer TenfoldPlace (place_answer (run c tens) s m) (place_answer (run b calls) s m)
  -- a crossing of the box in millimetres: the same time, no, or the same refusal
  pub crossings : (s e : ℕ) (box : Box) → SameAnswer (SameCrossing millimetre_trail) (after_answer c tens s e (tenfold_box box)) (after_answer b calls s e box)
