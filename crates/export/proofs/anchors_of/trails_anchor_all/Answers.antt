use Rattle.export.proofs.Laws.{anchored_list}
use Rattle.export.proofs.anchors_of.trails_anchor_all.Goals as goal

pub returns : goal.returns
returns c =
    let a = c.args in
    anchored_list a.s _ _ _ _ c.from.ensures (c.read_all.ensures.state, c.read_all.ensures.claim) c.from-2.ensures
