use Rattle.std.specs.Prelude.{ℕ, ◌<◌, get_or}
use Rattle.std.proofs.Common.{arith, rules}
use Rattle.distance.specs.Fix.{fix_of}
use Rattle.format.specs.Kinds.{layout}
use Rattle.format.proofs.Laws.Kinds.{is_kind, one_more}
use Rattle.format.proofs.Laws.RoundTrip.{InRange, are_bytes, fix_in_range}
use Rattle.format.proofs.move_fix.Goals as goal

pub put_fix-requires : goal.put_fix-requires
put_fix-requires c =
    let K = layout c.args.kind in
    let b = c.args.b.now in
    let bytes : (i : ℕ) → get_or b i 0 < 256 = λ i. search rules in
    let r : InRange K (fix_of c.fix_at-f.result) = rw c.fix_at-f.ensures (fix_in_range K (is_kind c.args.kind) b (are_bytes b bytes) c.args.k) in
    (omega (arith, c.place_of.ensures, one_more K c.args.w, c.requires.1), r.x_in, r.y_in)
