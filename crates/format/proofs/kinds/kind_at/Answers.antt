use Rattle.std.proofs.Common.{sym, ◌∙◌, rules}
use Rattle.format.specs.declared.Kind.TheVariants.{MillimetreTrail, SilenceTrail}
use Rattle.format.proofs.Laws.Kinds.{kind_is, kind_else}
use Rattle.format.proofs.kinds.kind_at.Goals as goal

pub returns-in-2 : goal.returns-in-2
returns-in-2 c = sym (kind_is MillimetreTrail _ (sym c.two_at.ensures.0 ∙ c.in-2.is))

pub returns-in-3 : goal.returns-in-3
returns-in-3 c = sym (kind_is SilenceTrail _ (sym c.two_at.ensures.0 ∙ c.in-3.is))

pub returns-in_default : goal.returns-in_default
returns-in_default c = sym (kind_else _ (λ z. let e = c.two_at.ensures.0 ∙ z in search rules) (λ z. let e = c.two_at.ensures.0 ∙ z in search rules))
