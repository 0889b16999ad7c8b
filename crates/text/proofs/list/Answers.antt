use Prim.Native.Nat.{◌≤◌}
use lib.ListN.{length}
use mathlib.Core.Path.{refl}
use native.Mathlib.Omega.{arith}
use Rattle.text.specs.Text.{text}
use Rattle.text.proofs.Laws.Text.{listed}
use borrow.Author.Rules.{rules}
use Rattle.text.proofs.list.Goals as goal

pub returns-clause-text : goal.returns-clause-text
returns-clause-text c =
    let e = c.put_text.ensures in
    let room : 159765 ≤ length c.args.out.now = search rules in
    (listed (text c.args.b.now) refl e.text (omega (arith, e.short))).1
