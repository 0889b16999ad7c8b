use mir.Syntax.{w32}
use mir.Val.{Fits}
use mathlib.Core.Path.{refl}
use Rattle.record.proofs.Laws.Scan.{scanned_more}
use borrow.Author.Rules.{rules}
use Rattle.record.proofs.checking.scan_next.Goals as goal

pub returns : goal.returns
returns c a l h =
    let t : Fits w32 c.args.f.t.0 = search rules in
    scanned_more _ a l _ _ _ h (rw c.fix_outside.ensures refl) refl (rw c.other_silence.ensures refl) refl refl c.silent.ensures t.fits
