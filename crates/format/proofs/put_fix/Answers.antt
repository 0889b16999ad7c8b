use Rattle.std.specs.Prelude.{refl, ◌+◌}
use Rattle.std.proofs.Common.{sym, ◌∙◌, rules}
use Rattle.distance.specs.Fix.{fix_of}
use Rattle.format.specs.Kinds.{layout}
use Rattle.format.specs.Format.{fix_bytes}
use Rattle.format.proofs.Laws.Kinds.{silence_told, silence_untold}
use Rattle.format.proofs.Laws.Stores.{fix_stores, silence_stored}
use Rattle.format.proofs.put_fix.Goals as goal

pub returns-then-has_silences : goal.returns-then-has_silences
unfolding fix_bytes
returns-then-has_silences c =
    let K = layout c.args.kind in
    let f = fix_of c.args.f in
    rw (silence_told c.args.kind (sym c.has_silences.ensures ∙ c.if-has_silences.true), c.put_coordinate-2.ensures, c.put_coordinate.ensures, c.put_four.ensures, c.width_of-width.ensures)
    (rw (fix_stores K.width c.args.out.now c.args.at (c.args.at + 4 + K.width) f refl) (silence_stored K.width c.args.out.now c.args.at f (search rules)))

pub returns-else-has_silences : goal.returns-else-has_silences
unfolding fix_bytes
returns-else-has_silences c =
    let K = layout c.args.kind in
    rw (silence_untold c.args.kind (sym c.has_silences.ensures ∙ c.if-has_silences.false), c.put_coordinate-2.ensures, c.put_coordinate.ensures, c.put_four.ensures, c.width_of-width.ensures)
    (fix_stores K.width c.args.out.now c.args.at (c.args.at + 4 + K.width) (fix_of c.args.f) refl)
