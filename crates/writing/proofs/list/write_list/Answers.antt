use Rattle.writing.proofs.Laws.Lists.{lent_each}
use Rattle.writing.proofs.list.write_list.Goals as goal

pub returns : goal.returns
returns g c = rw (lent_each g.F.ListedFix.plain c.args.fixes.now) at c.write_lent.ensures
