-- WHAT THE CODE HAS OR HASN'T, as the papers' value: an `Option` of the code read as an option of the papers, each value through `value`.
use Rattle.std.specs.Prelude as code
use Rattle.std.proofs.Math.Option.{Option, some, none}

abbrev pub option_by : {A B : Type 0} → (A → B) → code.Option A → Option B
option_by value code.None = none
option_by value (code.Some a) = some (value a)
