use mathlib.Core.Path.{◌≡◌, refl, ◌∙◌, ap}
use Prim.Native.Nat.{suc}
use native.Mathlib.Omega.{arith}
use lib.ListN.{length}
use lib.Seq.{length-sets}
use Rattle.format.specs.Kinds.{layout}
use Rattle.format.specs.Format.{record_length, fix_at, fix_bytes}
use Rattle.format.proofs.Laws.Kinds.{is_kind, longer}
use Rattle.aging.proofs.Laws.Pack.{packed_none, packed_skip, packed_more}
use Rattle.aging.proofs.pack.Goals as goal
use Rattle.aging.proofs.pack.Goals.{then-keep-k, else-keep-k}

pub loop-k-init : goal.loop-k-init
loop-k-init c = (refl, packed_none _ _ _)

-- fix k has its bytes, and so has the place w of a kept one, which is no later
pub move_fix-requires : goal.move_fix-requires
move_fix-requires c =
    let K = layout c.args.kind in
    let at = c.loop-k in
    let i = at.invariant in
    let here = longer K (suc at.k) c.args.n (omega arith) in
    let there = longer K (suc at.w) c.args.n (omega (arith, i.1.few)) in
    (omega (arith, here, i.0, c.requires.whole), omega (arith, there, i.0, c.requires.whole))

pub loop-k-preserved : goal.loop-k-preserved
loop-k-preserved c =
    let K = layout c.args.kind in
    let at = c.loop-k in
    let i = at.invariant in
    elim c.if-keep-k.branch [
      | then-keep-k x ↦
          let e = x.b-is ∙ x.move_fix.ensures in (
            ap length e ∙ length-sets at.b (record_length K at.w) (fix_bytes K (fix_at K at.b at.k)) ∙ i.0,
            rw x.w-is (packed_more K (is_kind c.args.kind) i.1 x.if-keep-k.true e),
          )
      | else-keep-k x ↦ (ap length x.b-is ∙ i.0, rw (x.b-is, x.w-is) (packed_skip K (is_kind c.args.kind) i.1 x.if-keep-k.false))
    ]

pub returns : goal.returns
returns c =
    let e : c.loop-k.k ≡ c.args.n = omega arith in
    rw e at c.loop-k.invariant.1
