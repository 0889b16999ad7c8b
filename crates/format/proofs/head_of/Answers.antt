use mathlib.Core.Path.{sym, ◌∙◌}
use native.Mathlib.Omega.{arith}
use Rattle.format.specs.Format.{kind_field, count_field, mark_field}
use Rattle.format.proofs.Laws.Layout.{of_head_short, of_head_field}
use Rattle.format.proofs.head_of.Goals as goal

pub returns-then-b-lt10 : goal.returns-then-b-lt10
returns-then-b-lt10 c =
    let b = c.args.b.now in
    (sym (of_head_short kind_field b (omega arith)), sym (of_head_short count_field b (omega arith)), sym (of_head_short mark_field b (omega arith)))

pub returns : goal.returns
returns c =
    let b = c.args.b.now in (
      c.two_at.ensures.0 ∙ sym (of_head_field kind_field b (omega arith)),
      c.two_at-2.ensures.0 ∙ sym (of_head_field count_field b (omega arith)),
      c.two_at-3.ensures.0 ∙ sym (of_head_field mark_field b (omega arith)),
    )
