use mathlib.Core.Path.{◌≡◌, refl, ap}
use Prim.Native.Nat.{◌+◌, ◌-◌, ◌≤◌}
use native.Mathlib.Nat.{mul-le-mul, le_refl}
use native.Mathlib.Omega.{arith}
use mir.Syntax.{w16}
use mir.Val.{Fits}
use borrow.Author.Rules.{rules}
use Rattle.distance.specs.Fix.{Fix, fix_of}
use Rattle.distance.specs.Span.{Chord}
use Rattle.distance.specs.Integers.Differences.{sub_of_pos}
use Rattle.format.proofs.Laws.Kinds.{is_kind}
use Rattle.thinning.proofs.Laws.Spans.{fewer, chord_of}
use Rattle.thinning.proofs.Span.one_word_holds.Goals as goal
use Rattle.thinning.proofs.Span.one_word_holds.Goals.{After-at-j}

-- the two fixes that were read are the span's ends
chord : (c : After-at-j) → Chord (fix_of c.at-i.result) (fix_of c.at-j.result)
chord c =
    let s = c.args.self in
    rw (c.at-i.ensures, c.at-j.ensures) (chord_of s.lo s.hi (fewer (s.hi + 1) (omega (arith, s.within)) s.spans) (omega (arith, s.inner)))

pub overflow_mul-result-2 : goal.overflow_mul-result-2
overflow_mul-result-2 c =
    let limit : c.limit_of.result ≤ 160000 = omega (arith, c.limit_of.ensures, (is_kind c.args.self.fixes.kind).within_widest) in
    let fits : Fits w16 c.since-d.result.0 = search rules in
    let d : c.since-d.result.0 ≤ 65535 = omega (arith, fits.fits) in
    record { fits = omega (arith, mul-le-mul (mul-le-mul (le_refl 2) limit) d) }

pub returns : goal.returns
returns c =
    let i = c.at-i in
    let j = c.at-j in
    let d : c.since-d.result.0 ≡ j.result.t.0 - i.result.t.0 = sub_of_pos (chord (goal.at-returns c).After-at-j).order c.since-d.ensures in
    rw (c.limit_of.ensures, d, ← ap (λ (f : Fix). f.t) i.ensures, ← ap (λ (f : Fix). f.t) j.ensures) refl
