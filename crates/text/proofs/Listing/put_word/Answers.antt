use mathlib.Core.Path.{refl}
use native.Mathlib.Omega.{arith}
use Rattle.text.proofs.Laws.Text.{word_stored}
use Rattle.text.proofs.Listing.put_word.Goals as goal

pub returns-clause-text : goal.returns-clause-text
returns-clause-text c =
    let s = c.args.self.now in
    record { ends = refl; holds_it = word_stored s.out.now c.args.word.now s.end c.requires (omega arith) c.copy_from_slice.ensures.after }
