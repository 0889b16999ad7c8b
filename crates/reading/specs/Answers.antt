-- What the code answers, as the paper's numbers and values.
use Rattle.std.specs.Prelude as std
use Rattle.std.specs.Prelude.{ℕ, Result}
use Rattle.std.proofs.Math.Option.{Option}
use Rattle.distance.specs.declared.Fix as code
use Rattle.distance.specs.Fix.{Fix, fix_of}
use Rattle.distance.specs.Options.{option_by}
use Rattle.format.specs.Kinds.{units}
use Rattle.format.specs.declared.Unit.{Unit}
use Rattle.record.specs.declared.refusal.Refusal.{Refusal}
use Rattle.record.specs.Answers.{Answer, answer_by}

-- The fix that a reader yielded, or none.
abbrev pub found : std.Option code.Fix → Option Fix
found = option_by fix_of

-- What the reader of all fixes answered: the record's count, or the refusal.
abbrev pub read_count : Result ℕ Refusal → Answer ℕ
read_count = answer_by (λ (n : ℕ). n)

-- The unit of the fixes that a reader yields, or the refusal.
abbrev pub unit_said : Result Unit Refusal → Answer ℕ
unit_said = answer_by units
