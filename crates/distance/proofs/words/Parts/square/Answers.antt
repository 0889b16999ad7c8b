use Rattle.distance.specs.Laws.Words.{square_parts}
use Rattle.distance.proofs.words.Parts.square.Goals as goal

pub returns : goal.returns
returns c = square_parts _ c.requires
