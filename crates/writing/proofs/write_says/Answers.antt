use Rattle.std.proofs.Common.{◌≡◌, refl, sym, ap, ◌∙◌, arith, List, length}
use Rattle.std.proofs.Math.Option.{some}
use Rattle.distance.specs.Fix.{Fix}
use Rattle.format.specs.Kinds.{layout}
use Rattle.format.specs.Format.{record_length}
use Rattle.record.proofs.Laws.Head.{positive}
use Rattle.writing.specs.Answers.{refused_by}
use Rattle.writing.proofs.Laws.Answers.{handed_on}
use Rattle.writing.proofs.Laws.Writing.{writes_3_none, writes_3_many, writes_fix, writes_15, writes_none}
use Rattle.writing.proofs.write_says.Given.{Over}
use Rattle.writing.proofs.write_says.Goals as goal
use Rattle.writing.proofs.write_says.Goals.{After-record_length, then-n-eq0-via-then-n-eq0, then-n-eq0-via-else-n-eq0+then-n-gt4096}

pub returns-then-n-eq0-clause-refusal : goal.returns-then-n-eq0-clause-refusal
returns-then-n-eq0-clause-refusal g c = λ number numbers l e h.
    ap some (numbers _ _ c.from.ensures)
    ∙ elim c.then-n-eq0.branch [
      | then-n-eq0-via-then-n-eq0 w ↦ sym (writes_3_none _ l _ (e ∙ w.if-n-eq0.true))
      | then-n-eq0-via-else-n-eq0+then-n-gt4096 w ↦ sym (writes_3_many _ l _ (omega (arith, e)))
    ]

pub returns-in_err-scanned-clause-refusal : goal.returns-in_err-scanned-clause-refusal
returns-in_err-scanned-clause-refusal g c = λ number numbers l e h.
    ap (refused_by number) (handed_on c.from_residual.result _ c.from_residual.ensures.1)
    ∙ sym (writes_fix _ l c.args.output (λ z. c.if-n-eq0.false (sym e ∙ z)) (omega (arith, e)) _ (sym (h (positive _ c.if-n-eq0.false) (omega arith)) ∙ ap (refused_by number) c.in_err-scanned.was))

-- the length that the code compares the output with
long : (g : Over) (c : After-record_length g) (l : List Fix) → length l ≡ c.args.n → c.record_length.result ≡ record_length (layout c.args.kind) (length l)
long g c l e = c.record_length.ensures ∙ rw e refl

pub returns-then-output-record_length-clause-refusal : goal.returns-then-output-record_length-clause-refusal
returns-then-output-record_length-clause-refusal g c = λ number numbers l e h.
    ap some (numbers _ _ c.from-then-output-record_length.ensures)
    ∙ sym (writes_15 _ l c.args.output (λ z. c.if-n-eq0.false (sym e ∙ z)) (omega (arith, e)) (sym (h (positive _ c.if-n-eq0.false) (omega arith)) ∙ ap (refused_by number) c.in_ok-scanned.was) (omega (arith, long g (goal.at-returns-then-output-record_length-clause-refusal g c).After-record_length l e)))

pub returns-clause-refusal : goal.returns-clause-refusal
returns-clause-refusal g c = λ number numbers l e h. sym (writes_none _ l c.args.output (λ z. c.if-n-eq0.false (sym e ∙ z)) (omega (arith, e)) (sym (h (positive _ c.if-n-eq0.false) (omega arith)) ∙ ap (refused_by number) c.in_ok-scanned.was) (omega (arith, long g (goal.at-returns-clause-refusal g c).After-record_length l e)))
