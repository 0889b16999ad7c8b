use native.Mathlib.Omega.{arith}
use Rattle.distance.specs.Fix.{Bounded, fix_of}
use Rattle.format.specs.declared.Kind.TheVariants.{Trail}
use Rattle.format.specs.Kinds.{trail}
use Rattle.format.proofs.Laws.Kinds.{is_kind}
use Rattle.format.proofs.Laws.RoundTrip.{bounded_in_bytes}
use Rattle.format.proofs.Laws.Layout.{none_put, next_fits, next_put, all_put}
use Rattle.dearest.specs.Dearest.{dearest_fix}
use Rattle.dearest.proofs.Laws.Fixes.{bounded}
use Rattle.dearest.proofs.put_dearest.Goals as goal

pub loop-i-init : goal.loop-i-init
loop-i-init c = record { ends = c.record_length-at.ensures; put = none_put _ _ _ _ }

pub put_fix-requires : goal.put_fix-requires
put_fix-requires c =
    let at = c.loop-i in
    let inside : Bounded 16000 (fix_of c.dearest_fix.result) = rw c.dearest_fix.ensures (bounded c.args.n at.i (omega arith) c.requires.0) in (
      rw at.invariant.ends (next_fits trail (dearest_fix c.args.n) c.args.n c.args.out.now at.invariant.put (omega arith) c.requires.1),
      bounded_in_bytes trail (is_kind Trail) _ inside.x_low inside.x_high,
      bounded_in_bytes trail (is_kind Trail) _ inside.y_low inside.y_high,
    )

pub overflow_add-at : goal.overflow_add-at
overflow_add-at c = omega (arith, c.loop-i.invariant.ends, c.loop-i.invariant.put.upto, c.requires.0, c.size_of.ensures)

pub loop-i-preserved : goal.loop-i-preserved
loop-i-preserved c =
    let at = c.loop-i in record {
      ends = omega (arith, at.invariant.ends, c.size_of.ensures);
      put = next_put _ _ _ _ at.invariant.put (is_kind Trail) (omega arith) _ c.dearest_fix.ensures _ (rw at.invariant.ends at c.put_fix.ensures);
    }

pub returns : goal.returns
returns c = all_put _ _ _ _ c.loop-i.invariant.put (omega arith)
