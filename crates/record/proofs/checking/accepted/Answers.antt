use mathlib.Core.Path.{sym}
use Rattle.record.proofs.Laws.Head.{head_none}
use Rattle.record.proofs.checking.accepted.Goals as goal

pub fixes_of-requires : goal.fixes_of-requires
fixes_of-requires c = head_none c.args.b.now (sym c.in_ok-check.ensures)
