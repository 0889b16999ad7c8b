use mathlib.Core.Path.{◌≡◌, refl, sym, ◌∙◌, ap}
use mathlib.Core.Bool.{cond}
use Prim.Native.Nat.{◌-◌}
use Rattle.distance.specs.Silence.{silent}
use Rattle.legs.specs.Answers.{meeting}
use Rattle.format.specs.Fixes.{nth}
use Rattle.record.proofs.Laws.Trail.{lent}
use Rattle.crossing.proofs.Laws.Search.{first_reach, seek_start, seek_reach, seek_leg, seek_found, seek_next, before_within, seek_last, seek_end}
use Rattle.crossing.proofs.first_crossing.Goals as goal
use Rattle.crossing.proofs.first_crossing.Goals.{After-leg_first, then-silent, else-silent}

pub raised_at-a-requires : goal.raised_at-a-requires
raised_at-a-requires c = let r = c.requires in record { within = (lent r.is_accepted r.kind r.count).some; reach = first_reach r }

pub loop-k-init : goal.loop-k-init
loop-k-init c = seek_start _ _ c.requires c.raised_at-a.ensures

pub raised_at-z-requires : goal.raised_at-z-requires
raised_at-z-requires c = record { within = c.loop-k-test.true; reach = seek_reach c.loop-k.invariant c.loop-k-test.true }

pub at-requires : goal.at-requires
at-requires c = before_within c.loop-k.invariant

pub leg_first-requires : goal.leg_first-requires
leg_first-requires c =
    let t = c.silent.ensures ∙ ap silent c.at.ensures in
    seek_leg c.loop-k.invariant c.loop-k-test.true c.raised_at-z.ensures
    (elim c.if-silent.branch [
      | then-silent w ↦ w.end-is ∙ rw (sym t ∙ w.if-silent.true) refl
      | else-silent w ↦ w.end-is ∙ rw (sym t ∙ w.if-silent.false) refl
    ])

-- where the leg ends, by the silence that was read
end_is : (c : After-leg_first) → c.if-silent.end ≡ cond (silent (nth c.args.fixes (c.loop-k.k - 1))) c.loop-k.a c.raised_at-z.result
end_is c =
    let t = c.silent.ensures ∙ ap silent c.at.ensures in
    elim c.if-silent.branch [
      | then-silent w ↦ w.end-is ∙ rw (sym t ∙ w.if-silent.true) refl
      | else-silent w ↦ w.end-is ∙ rw (sym t ∙ w.if-silent.false) refl
    ]

pub returns-in-Some : goal.returns-in-Some
returns-in-Some c =
    sym (seek_found c.loop-k.invariant c.loop-k-test.true c.raised_at-z.ensures _ (end_is (goal.at-returns-in-Some c).After-leg_first) (sym c.leg_first.ensures ∙ ap meeting c.in-Some.is))

pub loop-k-preserved : goal.loop-k-preserved
loop-k-preserved c =
    seek_next c.loop-k.invariant c.loop-k-test.true c.raised_at-z.ensures (end_is (goal.at-loop-k-preserved c).After-leg_first) (sym c.leg_first.ensures ∙ ap meeting c.in_default.is)

pub leg_first-requires-2 : goal.leg_first-requires-2
leg_first-requires-2 c = seek_last c.loop-k.invariant

pub returns : goal.returns
returns c = c.leg_first-2.ensures ∙ sym (seek_end c.loop-k.invariant c.loop-k-test.false)
