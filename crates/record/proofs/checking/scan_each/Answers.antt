use native.Mathlib.Omega.{arith}
use Rattle.format.specs.Fixes.{nth}
use Rattle.record.proofs.Laws.Scan.{scanned_start, scanned_step}
use Rattle.record.proofs.checking.scan_each.Goals as goal

pub loop-k-init : goal.loop-k-init
loop-k-init c = rw c.limit_of-limit.ensures at (scanned_start _ (nth c.args.fixes) _ _ c.at.ensures c.scan_first-s.ensures)

pub loop-k-preserved : goal.loop-k-preserved
loop-k-preserved c =
    let e = c.limit_of-limit.ensures in
    let i = rw (← e) at c.loop-k.invariant in
    let r = scanned_step _ (nth c.args.fixes) c.loop-k.k _ _ (omega arith) c.at-in-loop-k.ensures (c.scan_next-s.ensures _ _ i) in
    rw e at r
