use Rattle.format.specs.Kinds.{layout}
use Rattle.format.specs.Format.{fix_at, record_length}
use Rattle.format.proofs.Laws.Numbers.{fix_parts}
use Rattle.format.proofs.fix_at.Goals as goal

pub returns : goal.returns
unfolding fix_at
returns c =
    let K = layout c.args.kind in
    let p = c.place_of-at.ensures in
    let w = c.width_of-width.ensures in
    fix_parts K.width K.silence_width c.args.b.now (record_length K c.args.k) _ _ _ _
    (rw p at c.four_at.ensures) (rw p at c.coordinate_at.ensures) (rw (p, w) at c.coordinate_at-2.ensures) (rw (p, w) at c.silence_at.ensures)
