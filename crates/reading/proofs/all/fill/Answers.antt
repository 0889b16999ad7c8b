use mir.Facts.{to_z-of_z}
use mir.Syntax.{w32}
use mir.Val.{SFits}
use borrow.Author.Rules.{rules}
use Rattle.distance.specs.Fix.{Fix}
use Rattle.format.specs.Fixes.{nth}
use Rattle.reading.proofs.Laws.Columns.{puts_none, puts_more}
use Rattle.reading.proofs.all.fill.Goals as goal

pub loop-k-init : goal.loop-k-init
loop-k-init c = record { times = puts_none _ _ _; xs = puts_none _ _ _; ys = puts_none _ _ _; silences = puts_none _ _ _ }

pub loop-k-preserved : goal.loop-k-preserved
loop-k-preserved c =
    let at = c.loop-k in
    let i = at.invariant in
    let a = c.args in
    let f = nth a.fixes in
    let x : SFits w32 c.at-f.result.x.0 = search rules in
    let y : SFits w32 c.at-f.result.y.0 = search rules in
    let e = c.at-f.ensures in record {
      times = puts_more (λ (a : Fix). a.t) f a.ts.now at.ts _ _ at.k e i.times c.put.ensures;
      xs = puts_more (λ (a : Fix). a.x) f a.xs.now at.xs _ _ at.k e i.xs (simp (to_z-of_z, x) at c.put-in-loop-k.ensures);
      ys = puts_more (λ (a : Fix). a.y) f a.ys.now at.ys _ _ at.k e i.ys (simp (to_z-of_z, y) at c.put-in-loop-k-2.ensures);
      silences = puts_more (λ (a : Fix). a.silence) f a.silences.now at.silences _ _ at.k e i.silences c.put-in-loop-k-3.ensures;
    }
