-- A RECORD WITH ITS CLOCK MOVED. Document 02, item 4: "a trail [..] moved by the same seconds, all still in 32 bits".
-- With its question moved alike, a moved record gets the answer that it got: `cross_answer_moved` of the crossing's Laws/Moved.antt, `near_answer_moved` of
-- the approach's, `place_answer_moved` of the moment's, `aged_moved` of the aging's, and after any list of agings `after_answer_moved` and `near_after_moved` of the
-- questions'.
use Rattle.std.specs.Prelude.{◌≡◌, List, ℕ, ℤ}
use Rattle.std.proofs.Math.Option.{none}
use Rattle.distance.specs.Fix.{Fix}
use Rattle.distance.specs.Clock.{Stays, moved_fix}
use Rattle.distance.specs.Laws.All.{All}
use Rattle.format.specs.Format.{fixes, changed}
use Rattle.record.specs.Checks.{head_refusal}

-- Every time of its fixes is moved by s, and nothing else.
abbrev pub moved_record : ℤ → List ℕ → List ℕ
moved_record s b = changed (moved_fix s) b

-- "all still in 32 bits": every time of the record, whether a check of its fixes or of the question turns it away or none. Of bytes that one of checks 1 to 6
-- turns away nothing is asked: those look at no fix, so that whatever stands there decides nothing.
pub record Movable (s : ℤ) (b : List ℕ) : Type 0 where
  pub all_stay : head_refusal b ≡ none → All (λ (a : Fix). Stays s a.t) (fixes b)
