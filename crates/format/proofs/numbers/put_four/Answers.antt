use Rattle.std.proofs.Common.{◌∙◌, ap}
use Rattle.std.proofs.lemmas.List.Edits.{sets}
use Rattle.format.proofs.Laws.Numbers.{four_written}
use Rattle.format.proofs.numbers.put_four.Goals as goal

pub returns : goal.returns
returns c = c.put.ensures ∙ ap (sets c.args.out.now c.args.at) (c.to_le_bytes.ensures ∙ four_written c.args.n)
