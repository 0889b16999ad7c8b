use mathlib.Core.Path.{sym, ◌∙◌, ap}
use mathlib.Core.Option.{some}
use Prim.Native.Nat.{ℕ, ◌-◌}
use Rattle.distance.specs.Fix.{Fix, fix_of}
use Rattle.record.proofs.Laws.Trail.{lent}
use Rattle.approach.specs.Approach.{told_on}
use Rattle.approach.proofs.Laws.Search.{seek_start, seek_leg, seek_told, seek_found, seek_on, seek_end}
use Rattle.approach.proofs.trail.first_near.Goals as goal

pub at-first-requires : goal.at-first-requires
at-first-requires c = let r = c.requires in (lent r.is_accepted r.kind r.count).some

pub loop-k-init : goal.loop-k-init
loop-k-init c = seek_start c.requires c.at-first.ensures

pub invariant_of-pass : goal.invariant_of-pass
invariant_of-pass c = record { fits = seek_leg c.loop-k.invariant c.loop-k-test.true c.at-b.ensures }

pub told_on-requires : goal.told_on-requires
told_on-requires c =
    rw (ap (λ (f : Fix). f.t) c.at-first.ensures) (seek_told c.loop-k.invariant c.loop-k-test.true c.at-b.ensures c.in-Some.s (sym c.in-Some.ensures))

pub returns-in-Some : goal.returns-in-Some
returns-in-Some c =
    c.told_on.ensures
    ∙ ap (λ (t : ℕ). told_on t (c.loop-k.k - 1) (fix_of c.loop-k.a) (fix_of c.at-b.result) (some c.in-Some.s)) (ap (λ (f : Fix). f.t) c.at-first.ensures)
    ∙ seek_found c.loop-k.invariant c.loop-k-test.true c.at-b.ensures c.in-Some.s (sym c.in-Some.ensures)

pub loop-k-preserved : goal.loop-k-preserved
loop-k-preserved c = seek_on c.loop-k.invariant c.loop-k-test.true c.at-b.ensures (sym c.in_default.ensures)

pub returns : goal.returns
returns c = seek_end c.loop-k.invariant c.loop-k-test.false
