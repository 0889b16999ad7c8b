use Rattle.std.proofs.Common.{ℕ, List, ◌∙◌, ap}
use Rattle.record.proofs.Laws.Answers.{turned_away}
use Rattle.aging.specs.Aging.{age_answer, aged}
use Rattle.dearest.proofs.Laws.Claim.{calls_refused, calls_done}
use Rattle.dearest.proofs.age_dearest.Goals as goal

pub returns-in_err-write_dearest : goal.returns-in_err-write_dearest
returns-in_err-write_dearest c =
    let written = c.in_err-write_dearest.ensures in
    let refused = calls_refused c.args.n c.args.out.now _ written.answer in
    record { answer = turned_away _ c.from_residual.result _ c.from_residual.ensures.1 ∙ refused.0; bytes = written.bytes ∙ refused.1 }

pub returns : goal.returns
returns c =
    let written = c.in_ok-write_dearest.ensures in
    let done = calls_done c.args.n c.args.out.now _ written.answer in
    record {
      answer = c.age.ensures.answer ∙ ap (λ (b : List ℕ). age_answer b 1) written.bytes ∙ done.0;
      bytes = c.age.ensures.bytes ∙ ap (λ (b : List ℕ). aged b 1) written.bytes ∙ done.1;
    }
