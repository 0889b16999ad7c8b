use Rattle.std.proofs.Common.{◌≡◌, ◌∙◌}
use Rattle.table.specs.Answers.{loaded}
use Rattle.table.proofs.Laws.Lent.{built_in_loads, loaded_is}
use Rattle.table.proofs.built_in.Goals as goal

pub returns : goal.returns
returns c =
    let e : c.unwrap_or.result ≡ loaded c.load.result = c.unwrap_or.ensures ∙ rw c.empty.ensures (loaded_is c.load.result) in
    rw e (built_in_loads c.load.result c.load.ensures)
