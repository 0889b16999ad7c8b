use mir.Syntax.{w32}
use mir.Val.{Fits}
use mathlib.Core.Path.{refl}
use Rattle.record.proofs.Laws.Scan.{scanned_first}
use borrow.Author.Rules.{rules}
use Rattle.record.proofs.checking.scan_first.Goals as goal

pub returns : goal.returns
returns c =
    let t : Fits w32 c.args.f.t.0 = search rules in
    scanned_first _ _ _ c.fix_outside.ensures refl c.other_silence.ensures refl refl c.silent.ensures t.fits
