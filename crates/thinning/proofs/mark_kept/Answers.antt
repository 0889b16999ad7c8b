use mathlib.Core.Path.{◌≡◌, refl, ◌∙◌}
use native.Mathlib.Omega.{arith}
use Rattle.distance.specs.Distance.{deviation, allowance}
use Rattle.distance.specs.Silence.{silent}
use Rattle.thinning.proofs.Laws.MarkedTo.{none_marked, one_marked, marked_small, marked_says}
use Rattle.thinning.proofs.mark_kept.Goals as goal

pub loop-lo-init : goal.loop-lo-init
loop-lo-init c = (refl, none_marked deviation allowance silent _ _ _ _ c.requires.3)

pub loop-lo-preserved : goal.loop-lo-preserved
loop-lo-preserved c =
    let x = c.loop-lo.invariant in
    (c.mark_stretch-count.auto.keep ∙ x.0, one_marked deviation allowance silent _ _ _ x.1 c.stretch_end-hi.ensures c.mark_stretch-count.ensures)

pub overflow_add-count : goal.overflow_add-count
overflow_add-count c =
    let asked = c.requires in
    omega (arith, marked_small deviation allowance silent _ _ _ (loop-lo-preserved c).1 asked.0 asked.1)

pub returns : goal.returns
returns c =
    let l = c.loop-lo in
    let h = l.invariant.1.so_far in
    let end : l.lo ≡ c.args.n = omega arith in
    marked_says _ _ _ (rw end at l.invariant.1)
