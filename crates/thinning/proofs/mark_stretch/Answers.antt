use Rattle.distance.specs.Distance.{deviation, allowance}
use Rattle.format.specs.Fixes.{nth}
use Rattle.thinning.proofs.Laws.Marks.{stretch_marked}
use Rattle.thinning.proofs.mark_stretch.Goals as goal

pub returns : goal.returns
returns c =
    let p = c.requires in
    stretch_marked deviation allowance (nth c.args.fixes.now) c.args.e.0 c.args.lo c.args.hi c.args.keep.now p.clear p.order p.marks c.split.ensures
