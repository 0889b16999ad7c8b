-- The list with silences: what it has where it has no fix, which no contract reads.
use Rattle.std.specs.Prelude.{pos}
use Rattle.writing.specs.declared.SilenceFix.{SilenceFix}

abbrev pub no_fix : SilenceFix
no_fix = record { t = record { 0 = 0 }; x = record { 0 = pos 0 }; y = record { 0 = pos 0 }; silence = record { 0 = 0 } }
