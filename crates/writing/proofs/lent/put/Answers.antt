use Rattle.std.proofs.Common.{arith}
use Rattle.distance.specs.Fix.{Bounded, fix_of}
use Rattle.format.specs.Kinds.{layout}
use Rattle.format.proofs.Laws.Kinds.{is_kind}
use Rattle.format.proofs.Laws.Each.{all_at}
use Rattle.format.proofs.Laws.RoundTrip.{bounded_in_bytes}
use Rattle.format.proofs.Laws.Layout.{none_put, next_fits, next_put, all_put}
use Rattle.writing.proofs.lent.put.Goals as goal

pub loop-k-init : goal.loop-k-init
loop-k-init g c = none_put _ _ _ _

pub put_fix-requires : goal.put_fix-requires
put_fix-requires g c =
    let κ = g.L.Lent.kind c.args.lent in
    let f = g.L.Lent.fix c.args.lent in
    let n = g.L.Lent.count c.args.lent in
    let bounded : Bounded (layout κ).limit (fix_of c.fix.result) = rw c.fix.ensures (all_at f n c.loop-k.k c.requires.bounded (omega arith)) in
    let start = rw c.kind-kind.ensures at c.record_length.ensures in
    rw (c.kind-kind.ensures, start) (
      next_fits (layout κ) f n c.args.out.now c.loop-k.invariant (omega arith) c.requires.room,
      bounded_in_bytes (layout κ) (is_kind κ) _ bounded.x_low bounded.x_high,
      bounded_in_bytes (layout κ) (is_kind κ) _ bounded.y_low bounded.y_high,
    )

pub loop-k-preserved : goal.loop-k-preserved
loop-k-preserved g c =
    next_put _ _ _ _ c.loop-k.invariant (is_kind (g.L.Lent.kind c.args.lent)) (omega arith) _ c.fix.ensures _ (rw (c.record_length.ensures, c.kind-kind.ensures) at c.put_fix.ensures)

pub returns : goal.returns
returns g c = all_put _ _ _ _ c.loop-k.invariant (omega arith)
