use Rattle.std.proofs.Common.{◌≡◌, ◌≤◌, ◌-◌, sym, arith, ◌∙◌}
use Rattle.format.specs.Kinds.{layout}
use Rattle.format.specs.Format.{each}
use Rattle.format.proofs.Laws.Each.{length_each, each_first}
use Rattle.record.specs.Laws.Scan.{Scanned}
use Rattle.record.proofs.Laws.Head.{positive}
use Rattle.record.proofs.Laws.Scan.{none_timed, scanned_start, scanned_step}
use Rattle.writing.specs.Writing.{asked_to_write}
use Rattle.writing.proofs.lent.scan.Goals as goal

pub returns-then-n-eq0-clause-timed : goal.returns-then-n-eq0-clause-timed
returns-then-n-eq0-clause-timed g c = none_timed _ (length_each _ 0 _ ∙ sym c.count-n.ensures ∙ c.if-n-eq0.true)

pub loop-k-init : goal.loop-k-init
loop-k-init g c = scanned_start _ _ _ _ c.fix.ensures c.scan_first-s.ensures

pub loop-k-preserved : goal.loop-k-preserved
loop-k-preserved g c = scanned_step _ _ c.loop-k.k _ _ (omega arith) c.fix-in-loop-k.ensures (c.scan_next-s.ensures _ _ c.loop-k.invariant)

pub returns : goal.returns
returns g c =
    let f = g.L.Lent.fix c.args.lent in
    let n = g.L.Lent.count c.args.lent in
    let some : 1 ≤ n = rw (← c.count-n.ensures) (positive _ c.if-n-eq0.false) in
    let end : c.loop-k.k ≡ n = omega (arith, c.count-n.ensures, c.loop-k.auto) in
    let first = each_first f 0 n some in
    let scanned : Scanned (layout (g.L.Lent.kind c.args.lent)).limit (f 0) (each f 1 (n - 1)) c.loop-k.s = rw (end, c.limit_of-limit.ensures, c.kind.ensures) at c.loop-k.invariant in
    record {
      says = λ output _. c.scan_says.ensures _ (asked_to_write (each f 0 n) output) _ _ first scanned;
      timed = rw first scanned.timed;
    }
