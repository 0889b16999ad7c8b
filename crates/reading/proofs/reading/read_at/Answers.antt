use mathlib.Core.Path.{sym, ◌∙◌, ap}
use mathlib.Core.Option.{some}
use native.Mathlib.Omega.{arith}
use Rattle.reading.proofs.Laws.Reading.{stands_true, yields_some, yields_none}
use Rattle.reading.proofs.reading.read_at.Goals as goal

-- a fix that stands there has a head before it
pub kind_at-requires : goal.kind_at-requires
kind_at-requires c = omega (arith, (stands_true c.args.b.now _ (sym c.stands.ensures ∙ c.if-stands.true)).1)

pub fix_at-requires : goal.fix_at-requires
fix_at-requires c =
    let b = c.args.b.now in
    rw c.kind_at.ensures (stands_true b _ (sym c.stands.ensures ∙ c.if-stands.true)).1

pub returns-then-stands : goal.returns-then-stands
returns-then-stands c =
    let b = c.args.b.now in
    ap some (rw c.kind_at.ensures at c.fix_at.ensures) ∙ sym (yields_some b _ (sym c.stands.ensures ∙ c.if-stands.true))

pub returns-else-stands : goal.returns-else-stands
returns-else-stands c = sym (yields_none c.args.b.now _ (sym c.stands.ensures ∙ c.if-stands.false))
