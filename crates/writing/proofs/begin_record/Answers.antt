use Rattle.std.proofs.Common.{refl, sym, ap, ◌∙◌}
use Rattle.writing.specs.Answers.{wrote_by}
use Rattle.writing.proofs.Laws.Answers.{handed_on}
use Rattle.writing.proofs.begin_record.Goals as goal

pub returns : goal.returns
returns g c = λ number numbers l e h. (sym (c.in_ok-write_says.ensures.refusal number numbers l e h), c.record_length.ensures ∙ rw e refl, c.put_head.ensures ∙ rw e refl)

pub returns-in_err-write_says : goal.returns-in_err-write_says
returns-in_err-write_says g c = λ number numbers l e h. rw (ap (wrote_by number) (handed_on c.from_residual.result _ c.from_residual.ensures.1)) (sym (c.in_err-write_says.ensures.refusal number numbers l e h), refl)
