use Rattle.std.proofs.Common.{rules}
use Rattle.input.proofs.Filled.{read_more}
use Rattle.input.proofs.read_full.Goals as goal

pub loop-done-preserved : goal.loop-done-preserved
loop-done-preserved g c = record {
  within = search rules;
  read = read_more _ _ _ _ _ _ _ c.loop-done.invariant.within c.in_ok-n.ensures.bound.0 c.loop-done.invariant.read c.in_ok-n.ensures.bytes.0;
}
