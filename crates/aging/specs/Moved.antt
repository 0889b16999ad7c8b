-- AN AGING OF A RECORD WITH ITS CLOCK MOVED: what is the same, and what is moved (`aged_moved` of proofs/Laws/Moved.antt).
use Rattle.std.specs.Prelude.{◌≡◌, Bool, List, map, ℕ, ℤ}
use Rattle.std.proofs.Math.Option.{none}
use Rattle.distance.specs.Clock.{moved_fix}
use Rattle.format.specs.Format.{fixes}
use Rattle.format.specs.Laws.Changed.{SameHead}
use Rattle.record.specs.Checks.{head_refusal}
use Rattle.thinning.specs.Marks.{kept_by}
use Rattle.aging.specs.Aging.{Call, left_by, answered}

-- ---- THE LAW. Of all lent bytes and every call, and for every s, later or earlier, that keeps each time of the record in 32 bits, unless one of checks 1 to 6
-- turns the bytes away. c is b moved.
pub record AgedAlike (s : ℤ) (b c : List ℕ) (q : Call) : Type 0 where
  -- the count, or the refusal
  pub same_answer : answered c q ≡ answered b q
  -- the mark, the count of fixes and the length
  pub head_left : SameHead (left_by b q) (left_by c q)
  -- the fixes that are kept, moved
  pub fixes_left : head_refusal b ≡ none → fixes (left_by c q) ≡ map (moved_fix s) (fixes (left_by b q))
  -- and where they stood: marks that tell it of b tell it of c
  pub same_positions : head_refusal b ≡ none → (marks : List Bool) → fixes (left_by b q) ≡ kept_by marks 0 (fixes b) → fixes (left_by c q) ≡ kept_by marks 0 (fixes c)
