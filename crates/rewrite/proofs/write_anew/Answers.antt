use Rattle.std.proofs.Common.{ℕ, sym}
use Rattle.record.specs.Checks.{IsAccepted}
use Rattle.record.proofs.Laws.Answers.{turned_away}
use Rattle.rewrite.proofs.Laws.{accepted_lent, accepted_bounded, anew_refused, fixes_anew}
use Rattle.rewrite.proofs.write_anew.Goals as goal
use Rattle.rewrite.proofs.write_anew.Goals.{In_ok-fixes}

accepted : (c : In_ok-fixes) → IsAccepted c.args.b.now
accepted c = record { accepted = sym c.in_ok-fixes.ensures.refusal }

pub returns-in_err-fixes : goal.returns-in_err-fixes
returns-in_err-fixes c = rw (turned_away (λ (n : ℕ). n) c.from_residual.result _ c.from_residual.ensures.1) (anew_refused _ _ _ (sym c.in_err-fixes.ensures.refusal))

pub write_list-requires : goal.write_list-requires
write_list-requires c =
    let a = accepted (goal.at-write_list-requires c).In_ok-fixes in
    let is = c.in_ok-fixes.ensures.fixes in
    record { kind = c.in-Trail.is; room = (accepted_lent _ _ a is).few; bounded = accepted_bounded _ _ a is }

pub returns-in-Trail : goal.returns-in-Trail
returns-in-Trail c =
    let a = accepted (goal.at-returns-in-Trail c).In_ok-fixes in
    fixes_anew c.in_ok-fixes.fixes _ c.args.b.now _ _ _ c.requires a c.in_ok-fixes.ensures.fixes c.in-Trail.is c.write_list.ensures

pub write_list-requires-in-MillimetreTrail : goal.write_list-requires-in-MillimetreTrail
write_list-requires-in-MillimetreTrail c =
    let a = accepted (goal.at-write_list-requires-in-MillimetreTrail c).In_ok-fixes in
    let is = c.in_ok-fixes.ensures.fixes in
    record { kind = c.in-MillimetreTrail.is; room = (accepted_lent _ _ a is).few; bounded = accepted_bounded _ _ a is }

pub returns-in-MillimetreTrail : goal.returns-in-MillimetreTrail
returns-in-MillimetreTrail c =
    let a = accepted (goal.at-returns-in-MillimetreTrail c).In_ok-fixes in
    fixes_anew c.in_ok-fixes.fixes _ c.args.b.now _ _ _ c.requires a c.in_ok-fixes.ensures.fixes c.in-MillimetreTrail.is c.write_list-in-MillimetreTrail.ensures

pub write_list-requires-in-SilenceTrail : goal.write_list-requires-in-SilenceTrail
write_list-requires-in-SilenceTrail c =
    let a = accepted (goal.at-write_list-requires-in-SilenceTrail c).In_ok-fixes in
    let is = c.in_ok-fixes.ensures.fixes in
    record { kind = c.in-SilenceTrail.is; room = (accepted_lent _ _ a is).few; bounded = accepted_bounded _ _ a is }

pub returns-in-SilenceTrail : goal.returns-in-SilenceTrail
returns-in-SilenceTrail c =
    let a = accepted (goal.at-returns-in-SilenceTrail c).In_ok-fixes in
    fixes_anew c.in_ok-fixes.fixes _ c.args.b.now _ _ _ c.requires a c.in_ok-fixes.ensures.fixes c.in-SilenceTrail.is c.write_list-in-SilenceTrail.ensures
