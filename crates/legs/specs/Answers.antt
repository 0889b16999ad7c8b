-- What the answers of the code say, as the paper's numbers and values.
-- `declared.X` is the struct X of the code.
use Rattle.std.specs.Prelude as code
use Rattle.std.proofs.Math.Option.{Option}
use Rattle.distance.specs.Options.{option_by}
use Rattle.legs.specs.declared.Fraction.{Fraction}

-- The first time that was found, or none.
abbrev pub meeting : code.Option Fraction → Option Fraction
meeting = option_by (λ (f : Fraction). f)
