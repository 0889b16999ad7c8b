use mathlib.Core.Path.{◌∙◌}
use Rattle.format.specs.Kinds.{layout}
use Rattle.format.proofs.Laws.Stores.{head_stores}
use Rattle.format.proofs.put_head.Goals as goal

pub returns : goal.returns
returns c =
    let a = c.args in
    c.put_two-3.ensures
    ∙ rw (c.put_two-2.ensures, c.put_two.ensures, c.from.ensures, c.put_four.ensures, c.record_length.ensures)
    (head_stores (layout a.kind) _ a.mark a.n)
