use mathlib.Core.Path.{sym, ◌∙◌}
use mathlib.Core.List.{List}
use mathlib.Core.Option.{Option}
use Prim.Native.Nat.{ℕ}
use Rattle.format.proofs.Laws.RoundTrip.{AreBytes, are_bytes}
use Rattle.record.proofs.Laws.Answers.{turned_away}
use Rattle.legs.specs.Answers.{meeting}
use Rattle.distance.specs.Fix.{Fix}
use Rattle.legs.specs.declared.Fraction.{Fraction}
use Rattle.crossing.specs.Answers.{box_of}
use Rattle.crossing.specs.Crossing.{cross_refusal, first_crossing}
use Rattle.questions.specs.Agings.{calls_of}
use Rattle.questions.proofs.Laws.Asked.{refused_after, not_refused_after, made_after, crossing_alike}
use Rattle.questions.proofs.Laws.Claim.{claim}
use Rattle.questions.proofs.agings.crosses_after.Goals as goal
use Rattle.questions.proofs.agings.crosses_after.Goals.{After-slice_known-1, Start}

all_bytes : (c : After-slice_known-1) → AreBytes c.args.b.now
all_bytes c = are_bytes c.args.b.now (λ i. (c.slice_known-1.given i).fits)

-- the question: its refusal of bytes, and what it gives of fixes
abbrev cross_asks : Start → List ℕ → Option ℕ
cross_asks s d = cross_refusal d s.args.w.start.0 s.args.w.end.0 (box_of s.args.e)

abbrev cross_tells : Start → List Fix → Option Fraction
cross_tells s l = first_crossing l (box_of s.args.e) s.args.w.start.0 s.args.w.end.0

pub cross_asked-requires : goal.cross_asked-requires
cross_asked-requires c =
    let s = (goal.at-cross_asked-requires c).Start in
    not_refused_after (cross_asks s) (crossing_alike _ _ (box_of s.args.e)) s.args.b.now _ (calls_of s.args.tables.now s.args.calls.now) (all_bytes (goal.at-cross_asked-requires c).After-slice_known-1) (sym c.in_ok-cross_says.ensures) c.call_each.ensures.1

pub returns-in_err-cross_says : goal.returns-in_err-cross_says
returns-in_err-cross_says c =
    let s = (goal.at-returns-in_err-cross_says c).Start in
    let said = refused_after (cross_asks s) (crossing_alike _ _ (box_of s.args.e)) (cross_tells s) s.args.b.now (calls_of s.args.tables.now s.args.calls.now) _ (sym c.in_err-cross_says.ensures) in
    (turned_away meeting c.from_residual.result _ c.from_residual.ensures.1 ∙ said.0, said.1, λ a m. claim s.args.b.now (calls_of s.args.tables.now s.args.calls.now) (all_bytes (goal.at-returns-in_err-cross_says c).After-slice_known-1) a m)

pub returns : goal.returns
returns c =
    let s = (goal.at-returns c).Start in
    let bytes = all_bytes (goal.at-returns c).After-slice_known-1 in
    let said = made_after (cross_asks s) (crossing_alike _ _ (box_of s.args.e)) (cross_tells s) s.args.b.now _ (calls_of s.args.tables.now s.args.calls.now) _ bytes (sym c.in_ok-cross_says.ensures) c.call_each.ensures.1 c.cross_asked.ensures in
    (said.0, said.1, λ a m. claim s.args.b.now (calls_of s.args.tables.now s.args.calls.now) bytes a m)
