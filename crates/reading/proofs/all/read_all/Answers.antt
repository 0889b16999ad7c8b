use mathlib.Core.Path.{sym}
use Rattle.record.proofs.Laws.Head.{accepted_head}
use borrow.Author.Rules.{rules}
use Rattle.reading.proofs.all.read_all.Goals as goal

pub overflow_cast-result : goal.overflow_cast-result
overflow_cast-result c =
    let few = (accepted_head c.args.b.now (sym c.in_ok-fixes.ensures.refusal)).few_fixes in
    let e = c.in_ok-fixes.ensures.fixes.count_is in
    search rules
