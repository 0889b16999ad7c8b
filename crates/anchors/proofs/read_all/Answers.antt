use Rattle.std.proofs.Common.{◌∙◌, rules}
use Rattle.std.proofs.lemmas.Iterator.{YieldsList-from_slice, YieldsList-from_zip}
use Rattle.std.proofs.lemmas.Iterator.Consumers.{YieldsList-at, fold_from_yields_List}
use Rattle.anchors.specs.Anchors.{state_after}
use Rattle.anchors.specs.Claim.{reading_of}
use Rattle.anchors.proofs.Laws.Claim.{claim}
use Rattle.anchors.proofs.Laws.Gives.{columns_folded}
use Rattle.anchors.proofs.read_all.Goals as goal

pub returns-clause-state : goal.returns-clause-state
returns-clause-state c =
    let a = c.args in
    fold_from_yields_List _ (λ t p. state_after t (reading_of p.0.0 p.0.1 p.1)) a.s _ c.fold.ensures.ran
    (YieldsList-from_zip
    (YieldsList-at c.zip-2.ensures.first (YieldsList-from_zip (YieldsList-at c.zip.ensures.first (YieldsList-from_slice a.step.now c.iter.ensures.rest)) (YieldsList-from_slice a.xs.now cc)))
    (YieldsList-from_slice a.ys.now cc))
    (λ t x b q k. search rules)
    ∙ columns_folded a.s a.step.now a.xs.now a.ys.now

pub returns-clause-claim : goal.returns-clause-claim
returns-clause-claim c = claim c.args.s _
