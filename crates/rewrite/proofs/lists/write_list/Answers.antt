use Rattle.rewrite.proofs.lists.write_list.Goals as goal

pub returns : goal.returns
returns g c = rw c.list_fixes.ensures.listed at c.write_list.ensures
