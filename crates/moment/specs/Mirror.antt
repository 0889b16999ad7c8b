-- THE SAME ON EACH SIDE OF THE AISLE. Document 02, item 1: "The halls now draw lanes mirrored about the middle aisle".
-- `answer_mirrored` of Laws/Mirror.antt: of a mirrored record the place question gives the mirrored answer, and refuses what it refused.
use Rattle.std.specs.Prelude.{ℕ, List}
use Rattle.distance.specs.Mirror.{Mirror, mirrored, mirrored_fix, mirrored_place}
use Rattle.format.specs.Format.{changed}
use Rattle.record.specs.Answers.{Answer, gives, turns_away}
use Rattle.moment.specs.Moment.{Standing}

-- A record with each of its fixes mirrored.
abbrev pub mirrored_record : Mirror → List ℕ → List ℕ
mirrored_record m b = changed (mirrored_fix m) b

-- The fraction and the rounded place, both mirrored.
abbrev pub mirrored_standing : Mirror → Standing → Standing
mirrored_standing m s = record { exact = mirrored_place m s.exact; rounded_x = mirrored m.in_x s.rounded_x; rounded_y = mirrored m.in_y s.rounded_y }

-- An answer: what is given is mirrored, and a refusal's number stays.
abbrev pub mirrored_answer : Mirror → Answer Standing → Answer Standing
mirrored_answer m (gives s) = gives (mirrored_standing m s)
mirrored_answer m (turns_away k) = turns_away k
