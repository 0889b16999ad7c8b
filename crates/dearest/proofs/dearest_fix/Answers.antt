use Rattle.dearest.proofs.Laws.Fixes.{fix_is}
use Rattle.dearest.proofs.dearest_fix.Goals as goal

pub returns : goal.returns
returns c = fix_is _ _ c.dearest_y.ensures
