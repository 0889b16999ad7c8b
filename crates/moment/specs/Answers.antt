-- What the structs of the code say, as the paper's numbers and values.
-- `declared.X` is the struct X of the code, and `.0` the number in a struct of one field.
use Rattle.std.specs.Prelude.{pos, Result}
use Rattle.record.specs.declared.refusal.Refusal.{Refusal}
use Rattle.record.specs.Answers.{Answer, answer_by}
use Rattle.moment.specs.declared.Spot.{Spot}
use Rattle.moment.specs.Moment.{Standing}

-- The fraction (x/d, y/d), and the rounded place beside it.
abbrev pub standing : Spot → Standing
standing s = record { exact = record { x = s.x; y = s.y; d = pos s.d }; rounded_x = s.whole.x.0; rounded_y = s.whole.y.0 }

abbrev pub placed : Result Spot Refusal → Answer Standing
placed = answer_by standing
