-- What the results of the code say, as the paper's numbers and values.
use Rattle.std.specs.Prelude.{◌≡◌, ℕ, Result, Ok, Err}
use Rattle.std.proofs.Math.Option.{Option, some, none}
use Rattle.record.specs.declared.refusal.Refusal.{Refusal}
use Rattle.record.specs.Answers.{Answer, gives, turns_away, answer_by, number_of}

-- What the writer answered: the record's length, or the refusal.
abbrev pub wrote : Result ℕ Refusal → Answer ℕ
wrote = answer_by (λ (n : ℕ). n)

-- How a caller may number its errors: those that a refusal is turned into (`takes_up`) have the paper's number, and its
-- own have any.
abbrev pub Numbers : {E : Type 0} → (takes_up : Refusal → E → Type 0) → (E → ℕ) → Type 0
Numbers takes_up number = (r : Refusal) (e : _) → takes_up r e → number e ≡ number_of r

-- The number of the error, or none. Of refusals by the paper's numbers it is `refused` (`refused_plainly` of
-- proofs/Laws/Answers.antt).
abbrev pub refused_by : {A E : Type 0} → (E → ℕ) → Result A E → Option ℕ
refused_by number (Ok a) = none
refused_by number (Err e) = some (number e)

-- What the writer answered a caller with errors of its own: the record's length, or the error's number. Of refusals it
-- is `wrote` (`wrote_plainly` there).
abbrev pub wrote_by : {E : Type 0} → (E → ℕ) → Result ℕ E → Answer ℕ
wrote_by number (Ok n) = gives n
wrote_by number (Err e) = turns_away (number e)
