use mathlib.Core.Path.{sym}
use native.Mathlib.Omega.{arith}
use lib.Seq.{set_out}
use Rattle.reading.proofs.all.put.Goals as goal

pub returns-else-k-column : goal.returns-else-k-column
returns-else-k-column g c = sym (set_out _ _ _ (omega arith))
