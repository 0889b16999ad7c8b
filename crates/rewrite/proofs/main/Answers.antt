use Rattle.std.proofs.Common.{sym, ap, length-take-le}
use Rattle.writing.specs.Answers.{wrote}
use Rattle.rewrite.proofs.main.Goals as goal

-- the record lies in the output
pub slice_bounds-out-end : goal.slice_bounds-out-end
slice_bounds-out-end c = c.in_ok-written.ensures.within _ (ap wrote c.in-Ok.is)

pub slice_bounds-write_all-end : goal.slice_bounds-write_all-end
slice_bounds-write_all-end c = sym (length-take-le _ _ (c.in_ok-written.ensures.within _ (ap wrote c.in-Ok.is)))
