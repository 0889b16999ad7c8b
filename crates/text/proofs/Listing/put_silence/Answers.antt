use mathlib.Core.Path.{sym, ◌∙◌}
use Rattle.text.proofs.Laws.Text.{nothing_stored, silence_follows, none_follows}
use Rattle.text.proofs.Listing.put_silence.Goals as goal

pub returns-then-silent-clause-text : goal.returns-then-silent-clause-text
returns-then-silent-clause-text c = rw (silence_follows _ (sym c.silent.ensures ∙ c.if-silent.true)) c.put_word.ensures.text

pub returns-else-silent-clause-text : goal.returns-else-silent-clause-text
returns-else-silent-clause-text c = rw (none_follows _ (sym c.silent.ensures ∙ c.if-silent.false)) (nothing_stored _ _)
