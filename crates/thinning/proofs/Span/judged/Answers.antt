use mathlib.Core.Path.{◌≡◌, refl}
use Prim.Native.Nat.{◌+◌}
use native.Mathlib.Omega.{arith}
use Rattle.format.specs.Kinds.{layout}
use Rattle.thinning.proofs.Laws.Spans.{fewer, narrow_off}
use Rattle.thinning.proofs.Span.judged.Goals as goal

pub judged_as-requires : goal.judged_as-requires
judged_as-requires c =
    let s = c.named.result in
    let limit : (layout s.fixes.kind).limit ≡ 16000 = rw c.named.ensures.kind refl in
    narrow_off _ _ (omega (arith, s.inner)) (fewer (s.hi + 1) (omega (arith, s.within)) (rw limit at s.spans))

pub judged_as-requires-in-SilenceTrail : goal.judged_as-requires-in-SilenceTrail
judged_as-requires-in-SilenceTrail c =
    let s = c.named-in-SilenceTrail.result in
    let limit : (layout s.fixes.kind).limit ≡ 16000 = rw c.named-in-SilenceTrail.ensures.kind refl in
    narrow_off _ _ (omega (arith, s.inner)) (fewer (s.hi + 1) (omega (arith, s.within)) (rw limit at s.spans))
