-- What the code's answers say, as the paper's numbers and values. `.0` is the number in a struct of one field.
use Rattle.std.specs.Prelude.{ℕ, Result, Option as Optional}
use Rattle.std.proofs.Math.Option.{Option}
use Rattle.distance.specs.Options.{option_by}
use Rattle.distance.specs.declared.Tolerance.{Tolerance}
use Rattle.record.specs.Answers.{Answer, answer_by}
use Rattle.record.specs.declared.refusal.Refusal.{Refusal}

-- What an aging answered: the count, or the number of its refusal.
abbrev pub counted : Result ℕ Refusal → Answer ℕ
counted = answer_by (λ (n : ℕ). n)

-- The tolerance that days apply to a record, or none, or the number of the refusal.
abbrev pub applied : Result (Optional Tolerance) Refusal → Answer (Option ℕ)
applied = answer_by (option_by (λ (e : Tolerance). e.0))
