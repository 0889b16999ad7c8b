-- What the structs of the code and its answers say, as the paper's numbers and values. `declared.X` is the struct X of the code, and `.0` the number in a struct
-- of one field.
use Rattle.std.specs.Prelude as code
use Rattle.std.proofs.Math.Option.{Option}
use Rattle.record.specs.declared.refusal.Refusal.{Refusal}
use Rattle.record.specs.Answers.{Answer, answer_by}
use Rattle.legs.specs.declared.Fraction.{Fraction}
use Rattle.legs.specs.Answers.{meeting}
use Rattle.crossing.specs.declared.Edges.{Edges}
use Rattle.distance.specs.Box.{Box, box_with}

-- Yes with its time, no, or the refusal.
abbrev pub crossed : code.Result (code.Option Fraction) Refusal → Answer (Option Fraction)
crossed = answer_by meeting

abbrev pub box_of : Edges → Box
box_of e = box_with e.left.0 e.right.0 e.bottom.0 e.top.0
