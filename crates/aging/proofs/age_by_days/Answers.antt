use Rattle.std.proofs.Common.{◌≡◌, sym, ◌∙◌, ap}
use Rattle.std.proofs.Math.Option.{some, none}
use Rattle.record.specs.Answers.{gives}
use Rattle.record.proofs.Laws.Answers.{turned_away}
use Rattle.table.specs.Answers.{table_of}
use Rattle.aging.specs.Aging.{apply_answer}
use Rattle.aging.proofs.Laws.Days.{turned_days, applied_days}
use Rattle.aging.proofs.age_by_days.Goals as goal
use Rattle.aging.proofs.age_by_days.Goals.{In-Some}

-- the days apply a tolerance
given : (c : In-Some) → apply_answer c.args.b.now c.args.days.0 (table_of c.args.t) ≡ gives (some c.in-Some.e.0)
given c = rw c.in-Some.is at (sym c.in_ok-e.ensures)

pub thin-requires : goal.thin-requires
thin-requires c = (applied_days _ _ _ _ (given (goal.at-thin-requires c).In-Some)).0

pub returns-in_err-e : goal.returns-in_err-e
returns-in_err-e c =
    let done = turned_days c.args.b.now c.args.days.0 (table_of c.args.t) _ (sym c.in_err-e.ensures) in
    record { answer = turned_away _ c.from_residual.result _ c.from_residual.ensures.1 ∙ done.0; bytes = done.1 }

pub returns-in-Some : goal.returns-in-Some
returns-in-Some c =
    let done = applied_days c.args.b.now c.args.days.0 (table_of c.args.t) _ (given (goal.at-returns-in-Some c).In-Some) in
    record { answer = ap gives c.thin.ensures.count ∙ done.1; bytes = c.thin.ensures.bytes ∙ done.2 }

pub returns-in-None : goal.returns-in-None
returns-in-None c =
    let done = applied_days c.args.b.now c.args.days.0 (table_of c.args.t) none (rw c.in-None.is at (sym c.in_ok-e.ensures)) in
    record { answer = done.1; bytes = done.2 }
