-- The list in centimetres: what it has where it has no fix, which no contract reads.
use Rattle.std.specs.Prelude.{pos}
use Rattle.writing.specs.declared.CentimetreFix.{CentimetreFix}

abbrev pub no_fix : CentimetreFix
no_fix = record { t = record { 0 = 0 }; x = record { 0 = pos 0 }; y = record { 0 = pos 0 } }
