-- The list in millimetres: what it has where it has no fix, which no contract reads.
use Rattle.std.specs.Prelude.{pos}
use Rattle.writing.specs.declared.MillimetreFix.{MillimetreFix}

abbrev pub no_fix : MillimetreFix
no_fix = record { t = record { 0 = 0 }; x = record { 0 = pos 0 }; y = record { 0 = pos 0 } }
