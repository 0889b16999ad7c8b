use mathlib.Core.Path.{◌≡◌, sym, ◌∙◌}
use native.Mathlib.Omega.{arith}
use Rattle.format.specs.Format.{kind_of}
use Rattle.record.proofs.Laws.Answers.{passed_on}
use Rattle.aging.proofs.Laws.Aging.{age_reader, age_10, age_none}
use Rattle.aging.proofs.age_says.Goals as goal
use Rattle.aging.proofs.age_says.Goals.{After-top_of}

-- the greatest tolerance that the code compares with
greatest : (c : After-top_of) → c.top_of.result ≡ (kind_of c.args.b.now).top
greatest c = rw c.in_ok-fixes.ensures.fixes.kind_is at c.top_of.ensures

pub returns-in_err-fixes : goal.returns-in_err-fixes
returns-in_err-fixes c = passed_on c.from_residual.result _ c.from_residual.ensures.1 ∙ sym (age_reader c.args.b.now _ _ (sym c.in_err-fixes.ensures.refusal))

pub returns-then-top_of-from : goal.returns-then-top_of-from
returns-then-top_of-from c =
    let top = greatest (goal.at-returns-then-top_of-from c).After-top_of in
    sym (age_10 c.args.b.now _ (sym c.in_ok-fixes.ensures.refusal) (omega (arith, top, c.if-top_of-from.true)))

pub returns : goal.returns
returns c =
    let top = greatest (goal.at-returns c).After-top_of in
    sym (age_none c.args.b.now _ (sym c.in_ok-fixes.ensures.refusal) (omega (arith, top, c.if-top_of-from.false)))
