use Rattle.std.proofs.Common.{◌∙◌, arith}
use Rattle.format.proofs.Laws.Numbers.{two_bytes}
use Rattle.format.proofs.numbers.two_at.Goals as goal

pub returns : goal.returns
returns c = (c.from_le_bytes.ensures ∙ two_bytes _ _, omega arith)
