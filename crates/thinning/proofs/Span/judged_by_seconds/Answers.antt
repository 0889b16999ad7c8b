use mathlib.Core.Path.{sym, ◌∙◌}
use Prim.Native.Nat.{◌+◌}
use native.Mathlib.Omega.{arith}
use borrow.Author.Tests.{leb-true}
use Rattle.format.proofs.Laws.Kinds.{is_kind}
use Rattle.thinning.proofs.Laws.Spans.{fewer, short_off, any_off}
use Rattle.thinning.proofs.Span.judged_by_seconds.Goals as goal

pub judged_as-requires : goal.judged_as-requires
judged_as-requires c =
    let s = c.args.self in
    short_off _ _ (fewer (s.hi + 1) (omega (arith, s.within)) s.spans) (leb-true _ _ (sym c.one_word_holds.ensures ∙ c.if-one_word_holds.true))

pub judged_as-requires-2 : goal.judged_as-requires-2
judged_as-requires-2 c =
    let s = c.args.self in
    any_off _ _ (fewer (s.hi + 1) (omega (arith, s.within)) s.spans) (is_kind s.fixes.kind).within_widest
