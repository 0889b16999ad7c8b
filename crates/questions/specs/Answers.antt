-- What the code answers, as the paper's numbers and values.
use Rattle.std.specs.Prelude.{ℕ, Result}
use Rattle.record.specs.declared.refusal.Refusal.{Refusal}
use Rattle.record.specs.Answers.{Answer, answer_by}

-- How many calls of a list were turned away, or the record's refusal.
abbrev pub ran : Result ℕ Refusal → Answer ℕ
ran = answer_by (λ (n : ℕ). n)
