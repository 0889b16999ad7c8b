use mir.Facts.{to_z-of_z}
use Rattle.distance.specs.Place.{own}
use Rattle.distance.proofs.Laws.Rounding.{rounded_whole}
use Rattle.moment.proofs.Laws.Ranges.{AloneFits, alone_fits}
use borrow.Author.Rules.{rules}
use Rattle.moment.proofs.alone.Goals as goal
use Rattle.moment.proofs.alone.Goals.{Start}

across : (s : Start) → AloneFits s.args.a.x.0
across s = alone_fits (search rules)

along : (s : Start) → AloneFits s.args.a.y.0
along s = alone_fits (search rules)

pub returns : goal.returns
unfolding own
returns c =
    let s = (goal.at-returns c).Start in
    let x = across s in
    let y = along s in
    simp (to_z-of_z, x.z32, x.z64, y.z32, y.z64, rounded_whole)
