use Rattle.std.proofs.Common.{◌∙◌}
use Rattle.format.proofs.Laws.Numbers.{four_bytes}
use Rattle.format.proofs.numbers.four_at.Goals as goal

pub returns : goal.returns
returns c = c.from_le_bytes.ensures ∙ four_bytes _ _
