use mathlib.Core.Path.{sym, ◌∙◌}
use Prim.Native.Nat.{ℕ}
use Rattle.record.proofs.Laws.Answers.{turned_away}
use Rattle.questions.specs.Agings.{calls_of}
use Rattle.questions.proofs.Laws.Agings.{refused_run, made_run}
use Rattle.questions.proofs.agings.call_all.Goals as goal

pub returns-in_err-check : goal.returns-in_err-check
returns-in_err-check c =
    let s = c in
    let said = refused_run s.args.b.now _ (calls_of s.args.tables.now s.args.calls.now) (sym c.in_err-check.ensures) in
    (turned_away (λ (n : ℕ). n) c.from_residual.result _ c.from_residual.ensures.1 ∙ said.0, said.1)

pub returns : goal.returns
returns c =
    let s = c in
    made_run s.args.b.now _ _ (calls_of s.args.tables.now s.args.calls.now) (sym c.in_ok-check.ensures) c.call_each.ensures.0 c.call_each.ensures.1
