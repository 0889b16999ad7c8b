use mathlib.Core.Path.{sym, ◌∙◌}
use Prim.Native.Nat.{suc}
use Rattle.format.specs.Format.{kind_of}
use Rattle.format.proofs.Laws.Kinds.{kind_of_is, more_bytes}
use Rattle.reading.proofs.Laws.Reading.{stands_true, moves_on, moves_not}
use borrow.Author.Rules.{rules}
use Rattle.reading.proofs.reading.read_on.Goals as goal

pub overflow_add-result : goal.overflow_add-result
overflow_add-result c =
    let b = c.args.b.now in
    let k = c.args.k in
    let h = (stands_true b k (sym c.stands.ensures ∙ c.if-stands.true)).1 in
    let less = more_bytes (kind_of b) (kind_of_is b) (suc k) in
    search rules

pub returns-then-stands : goal.returns-then-stands
returns-then-stands c = sym (moves_on c.args.b.now _ (sym c.stands.ensures ∙ c.if-stands.true))

pub returns-else-stands : goal.returns-else-stands
returns-else-stands c = sym (moves_not c.args.b.now _ (sym c.stands.ensures ∙ c.if-stands.false))
