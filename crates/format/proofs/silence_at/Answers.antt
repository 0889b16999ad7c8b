use Rattle.std.proofs.Common.{sym, ◌∙◌}
use Rattle.format.proofs.Laws.Kinds.{silence_told, silence_untold}
use Rattle.format.proofs.Laws.Numbers.{one_byte, no_bytes_say}
use Rattle.format.proofs.silence_at.Goals as goal

pub returns-then-has_silences : goal.returns-then-has_silences
returns-then-has_silences c = rw (silence_told c.args.kind (sym c.has_silences.ensures ∙ c.if-has_silences.true)) (one_byte _ _)

pub returns-else-has_silences : goal.returns-else-has_silences
returns-else-has_silences c = rw (silence_untold c.args.kind (sym c.has_silences.ensures ∙ c.if-has_silences.false)) (no_bytes_say _ _)
