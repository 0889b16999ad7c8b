-- What the structs of the code and its answers say, as the paper's numbers and values. `declared.X` is the struct X of the code, and `.0` the number in a struct
-- of one field.
use Rattle.std.specs.Prelude.{Result, Option as CodeOption}
use Rattle.std.proofs.Math.Option.{Option}
use Rattle.distance.specs.Options.{option_by}
use Rattle.record.specs.declared.refusal.Refusal.{Refusal}
use Rattle.record.specs.Answers.{Answer, answer_by}
use Rattle.approach.specs.declared.Part.{Part}
use Rattle.approach.specs.declared.Approach.{Approach}

-- An option of the code is one of the papers.
abbrev pub told : {A : Type 0} → CodeOption A → Option A
told {A} = option_by (λ (a : A). a)

-- The closest part of a leg, if it is near.
abbrev pub nearing : CodeOption Part → Option Part
nearing = told

-- Yes with its leg and time, no, or the refusal.
abbrev pub approached : Result (CodeOption Approach) Refusal → Answer (Option Approach)
approached = answer_by told
