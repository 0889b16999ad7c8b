use Rattle.std.specs.Prelude.{◌≡◌, refl, ◌+◌, ◌-◌, length, take, drop}
use Rattle.std.proofs.Common.{◌∙◌, append_assoc, drop-drop, arith}
use Rattle.std.proofs.lemmas.List.Edits.{sets-eq}
use Rattle.format.proofs.numbers.put.Goals as goal

pub returns : goal.returns
returns g c =
    let a = c.args in
    let n : a.at + g.row.N - a.at ≡ g.row.N = omega arith in
    let run = sets-eq a.bytes.now a.out.now a.at (omega arith) ∙ append_assoc (take a.at a.out.now) a.bytes.now (drop (a.at + length a.bytes.now) a.out.now) in
    rw (run, n, c.copy_from_slice.ensures.after, drop-drop g.row.N a.at a.out.now, c.told-bytes) refl
