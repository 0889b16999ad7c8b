use Rattle.std.proofs.Common.{rules, arith}
use Rattle.printing.specs.Fractions.{next, at_last}
use Rattle.printing.proofs.common.Goals as goal

pub loop-b-preserved : goal.loop-b-preserved
loop-b-preserved c = next _ _ _ _ (search rules) c.loop-b.invariant

pub returns-else-a-eq0 : goal.returns-else-a-eq0
returns-else-a-eq0 c = at_last _ _ _ _ c.loop-b.invariant (omega arith) (omega arith)
