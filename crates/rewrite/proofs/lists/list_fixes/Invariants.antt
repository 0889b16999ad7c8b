use Rattle.format.specs.Kinds.{layout}
use Rattle.rewrite.proofs.Laws.{Filled}
use Rattle.rewrite.proofs.lists.list_fixes.Given as goal

abbrev pub invariant-loop-k : goal.invariant-loop-k
invariant-loop-k g l = Filled g.F.ListedFix.plain (layout l.fixes.kind) l.fixes.bytes.now l.fixes.count l.k l.list
