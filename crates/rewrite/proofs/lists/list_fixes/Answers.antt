use Rattle.std.proofs.Common.{◌∙◌, arith}
use Rattle.rewrite.proofs.Laws.{filled_none, filled_more, filled_all, listable}
use Rattle.rewrite.proofs.lists.list_fixes.Goals as goal

pub loop-k-init : goal.loop-k-init
loop-k-init g c = filled_none _ _ _ _ _ c.requires.room

pub from_fix-requires : goal.from_fix-requires
from_fix-requires g c =
    let r = listable c.args.fixes.kind c.args.fixes.bytes.now c.args.fixes.count c.loop-k.k c.at.ensures c.requires.bounded (omega arith) in
    rw (← c.requires.kind) (record { x = r.0; y = r.1; silence = r.2 })

pub loop-k-preserved : goal.loop-k-preserved
loop-k-preserved g c = filled_more _ _ _ _ _ _ _ c.loop-k.invariant (omega arith) (c.from_fix.ensures ∙ c.at.ensures)

pub returns-clause-listed : goal.returns-clause-listed
returns-clause-listed g c = filled_all _ _ _ _ _ _ c.loop-k.invariant (omega arith)
