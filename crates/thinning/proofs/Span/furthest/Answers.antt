use mathlib.Core.Path.{◌≡◌, ◌∙◌, sym}
use Prim.Native.Nat.{ℕ}
use native.Mathlib.Omega.{arith}
use borrow.Author.Tests.{ltb-true, ltb-false}
use Rattle.distance.specs.Fix.{fix_of}
use Rattle.distance.specs.Distance.{deviation}
use Rattle.distance.proofs.Laws.Order.{lt_tested}
use Rattle.format.specs.Fixes.{nth}
use Rattle.thinning.proofs.Laws.Search.{nothing_yet, search_new, search_stay, search_done}
use Rattle.thinning.proofs.Span.furthest.Goals as goal
use Rattle.thinning.proofs.Span.furthest.Goals.{then-lt, else-lt}

pub loop-k-init : goal.loop-k-init
loop-k-init g c = rw (g.met.S.SquaredSum.from_word 0 c.from-value.result c.from-value.ensures) nothing_yet

pub loop-k-preserved : goal.loop-k-preserved
loop-k-preserved g c =
    let x = c.loop-k.invariant in
    let S = g.S.SquaredSum in
    let v = S.value c.of-v.result in
    let w = S.value c.loop-k.value in
    let a = c.args in
    let far : ℕ → ℕ = λ x. deviation (fix_of a.i) (nth a.self.fixes x) (fix_of a.j) in
    let e = rw c.at.ensures at c.of-v.ensures in
    -- the test is that of the two numbers
    let t = sym (lt_tested w v c.lt.ensures (g.met.S.SquaredSum.ordered c.loop-k.value c.of-v.result)) in
    elim c.if-lt.branch [
      | then-lt y ↦ rw (y.at-is, y.value-is) (search_new {g = far} x v e (ltb-true w v (t ∙ y.if-lt.true)))
      | else-lt y ↦ rw (y.at-is, y.value-is) (search_stay {g = far} x v e (ltb-false w v (t ∙ y.if-lt.false)))
    ]

pub returns : goal.returns
returns g c =
    let l = c.loop-k in
    let e : l.k ≡ c.args.self.hi = omega (arith, c.args.self.inner) in
    search_done (rw e at l.invariant) c.args.self.inner
