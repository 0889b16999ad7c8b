use Rattle.record.proofs.Laws.Head.{head_passed}
use Rattle.record.proofs.checking.fixes_of.Goals as goal

pub kind_at-requires : goal.kind_at-requires
kind_at-requires c = (head_passed c.args.b.now c.requires).ten

pub count_at-requires : goal.count_at-requires
count_at-requires c = (head_passed c.args.b.now c.requires).ten

pub invariant_of-result : goal.invariant_of-result
invariant_of-result c = record { whole = rw (c.kind_at.ensures, c.count_at.ensures.0) (head_passed c.args.b.now c.requires).whole }
