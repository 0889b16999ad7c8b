use Rattle.std.proofs.Common.{◌∙◌, ap}
use Rattle.std.proofs.lemmas.List.Edits.{sets}
use Rattle.format.proofs.Laws.Numbers.{two_written, two_of_more}
use Rattle.format.proofs.numbers.put_two.Goals as goal

pub returns : goal.returns
returns c = c.put.ensures ∙ ap (sets c.args.out.now c.args.at) (c.to_le_bytes.ensures ∙ two_written _ ∙ two_of_more c.args.n)
