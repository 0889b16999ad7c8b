use mathlib.Core.Path.{sym, ◌∙◌}
use mathlib.Core.List.{List}
use mathlib.Core.Option.{Option}
use Prim.Native.Nat.{ℕ}
use Rattle.format.proofs.Laws.RoundTrip.{AreBytes, are_bytes}
use Rattle.record.proofs.Laws.Answers.{turned_away}
use Rattle.approach.specs.Answers.{told}
use Rattle.distance.specs.Fix.{Fix}
use Rattle.approach.specs.declared.Approach.{Approach}
use Rattle.distance.specs.Place.{point_of}
use Rattle.approach.specs.Approach.{near_refusal, first_near}
use Rattle.questions.specs.Agings.{calls_of}
use Rattle.questions.proofs.Laws.Asked.{refused_after, not_refused_after, made_after, near_alike}
use Rattle.questions.proofs.Laws.Claim.{claim}
use Rattle.questions.proofs.agings.near_after.Goals as goal
use Rattle.questions.proofs.agings.near_after.Goals.{After-slice_known-1, Start}

all_bytes : (c : After-slice_known-1) → AreBytes c.args.b.now
all_bytes c = are_bytes c.args.b.now (λ i. (c.slice_known-1.given i).fits)

-- the question: its refusal of bytes, and what it gives of fixes
abbrev near_asks : Start → List ℕ → Option ℕ
near_asks s d = near_refusal d (point_of s.args.c) s.args.r.0

abbrev near_tells : Start → List Fix → Option Approach
near_tells s l = first_near l (point_of s.args.c) s.args.r.0

pub near_asked-requires : goal.near_asked-requires
near_asked-requires c =
    let s = (goal.at-near_asked-requires c).Start in
    not_refused_after (near_asks s) (near_alike (point_of s.args.c) s.args.r.0) s.args.b.now _ (calls_of s.args.tables.now s.args.calls.now) (all_bytes (goal.at-near_asked-requires c).After-slice_known-1) (sym c.in_ok-near_says.ensures) c.call_each.ensures.1

pub returns-in_err-near_says : goal.returns-in_err-near_says
returns-in_err-near_says c =
    let s = (goal.at-returns-in_err-near_says c).Start in
    let said = refused_after (near_asks s) (near_alike (point_of s.args.c) s.args.r.0) (near_tells s) s.args.b.now (calls_of s.args.tables.now s.args.calls.now) _ (sym c.in_err-near_says.ensures) in
    (turned_away told c.from_residual.result _ c.from_residual.ensures.1 ∙ said.0, said.1, λ a m. claim s.args.b.now (calls_of s.args.tables.now s.args.calls.now) (all_bytes (goal.at-returns-in_err-near_says c).After-slice_known-1) a m)

pub returns : goal.returns
returns c =
    let s = (goal.at-returns c).Start in
    let bytes = all_bytes (goal.at-returns c).After-slice_known-1 in
    let said = made_after (near_asks s) (near_alike (point_of s.args.c) s.args.r.0) (near_tells s) s.args.b.now _ (calls_of s.args.tables.now s.args.calls.now) _ bytes (sym c.in_ok-near_says.ensures) c.call_each.ensures.1 c.near_asked.ensures in
    (said.0, said.1, λ a m. claim s.args.b.now (calls_of s.args.tables.now s.args.calls.now) bytes a m)
