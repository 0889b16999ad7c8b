use mathlib.Core.Path.{sym, ◌∙◌}
use Rattle.reading.proofs.Laws.Reading.{tells_accepted, tells_refusal}
use Rattle.reading.proofs.reading.refusal_at.Goals as goal

pub returns-then-at-lt-PAST_EVERY_FIX : goal.returns-then-at-lt-PAST_EVERY_FIX
returns-then-at-lt-PAST_EVERY_FIX c = sym (tells_accepted _ _ c.if-at-lt-PAST_EVERY_FIX.true)

pub returns : goal.returns
returns c = c.check.ensures ∙ sym (tells_refusal _ _ c.if-at-lt-PAST_EVERY_FIX.false)
