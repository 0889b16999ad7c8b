use mathlib.Core.Path.{refl, ◌∙◌, ap}
use lib.Dec.{leb}
use Rattle.distance.specs.Distance.{deviation, allowance}
use Rattle.distance.proofs.Laws.Order.{le_tested}
use Rattle.format.specs.Fixes.{nth}
use Rattle.thinning.specs.Marks.{Judged}
use Rattle.thinning.proofs.Span.judged_as.Given.{Over}
use Rattle.thinning.proofs.Span.judged_as.Goals as goal
use Rattle.thinning.proofs.Span.judged_as.Goals.{After-le}

-- the test is that of the two numbers
judged_at : (g : Over) (c : After-le g)
    → Judged deviation allowance (nth c.args.self.fixes) c.args.e.0 c.args.self.lo c.args.self.hi c.furthest-m.result.0 c.le.result
judged_at g c =
    let i = c.at-i in
    let j = c.at-j in
    let v = c.furthest-m.result.1 in
    let w = c.from.result in
    let S = g.S.SquaredSum in
    let s = g.met.S.SquaredSum in
    record {
      measure = S.value v;
      furthest = rw (i.ensures, j.ensures) at c.furthest-m.ensures;
      tested =
          le_tested (S.value v) (S.value w) c.le.ensures (s.ordered v w)
          ∙ ap (leb (S.value v)) (s.from_word c.allowance.result w c.from.ensures ∙ c.allowance.ensures ∙ rw (i.ensures, j.ensures) refl);
    }

pub returns-then-le : goal.returns-then-le
returns-then-le g c = (c.furthest-m.result.0, rw c.if-le.true at (judged_at g (goal.at-returns-then-le g c).After-le))

pub returns : goal.returns
returns g c = rw c.if-le.false at (judged_at g (goal.at-returns g c).After-le)
