use Rattle.std.proofs.Common.{sym, ◌∙◌, ap, length}
use Rattle.std.proofs.Math.Seq.{length-sets}
use Rattle.format.specs.declared.Kind.TheVariants.{Trail}
use Rattle.format.specs.Kinds.{trail}
use Rattle.format.specs.Format.{header_bytes}
use Rattle.format.proofs.Laws.Kinds.{is_kind}
use Rattle.record.specs.Answers.{number_of}
use Rattle.record.proofs.Laws.Answers.{turned_away}
use Rattle.writing.specs.Answers.{wrote}
use Rattle.writing.specs.Laws.Writing.{Begun}
use Rattle.writing.proofs.Laws.Answers.{own_numbers, wrote_plainly}
use Rattle.writing.proofs.Laws.Writing.{begun_refused, begun_done}
use Rattle.dearest.specs.Dearest.{dearest}
use Rattle.dearest.proofs.Laws.Writing.{fixes_pass, length_dearest, as_the_writer, answer_as_the_writer, written_as_the_writer, dearest_fits}
use Rattle.dearest.proofs.write_dearest.Goals as goal
use Rattle.dearest.proofs.write_dearest.Goals.{After-begin_record}

-- the writer begins with the trail's fixes, of which its pass would find no fault
begun : (c : After-begin_record) → Begun trail (dearest c.args.n) c.args.out.now (wrote c.begin_record.result) c.begin_record.new.out
begun c =
    let n = c.args.n in
    rw (wrote_plainly c.begin_record.result) at (c.begin_record.ensures number_of own_numbers (dearest n) (length_dearest n) (λ one few. sym (fixes_pass n (length c.args.out.now) few)))

pub put_dearest-requires : goal.put_dearest-requires
put_dearest-requires c =
    let n = c.args.n in
    let out = c.args.out.now in
    let begins = rw c.in_ok-length.was at (begun (goal.at-put_dearest-requires c).After-begin_record) in
    let fit = dearest_fits n out (as_the_writer n out ∙ begins.0) in
    let same = ap length begins.2 ∙ length-sets out 0 (header_bytes trail 65535 (length (dearest n))) in
    (fit.1, rw same fit.2)

pub returns-in_err-length : goal.returns-in_err-length
returns-in_err-length c =
    let n = c.args.n in
    let out = c.args.out.now in
    let begins = rw c.in_err-length.was at (begun (goal.at-returns-in_err-length c).After-begin_record) in
    let k = begun_refused trail (dearest n) out _ _ begins in
    record {
      answer = turned_away _ c.from_residual.result _ c.from_residual.ensures.1 ∙ k.0 ∙ sym (answer_as_the_writer n out);
      bytes = k.1 ∙ sym (written_as_the_writer n out);
    }

pub returns : goal.returns
returns c =
    let n = c.args.n in
    let out = c.args.out.now in
    let begins = rw c.in_ok-length.was at (begun (goal.at-returns c).After-begin_record) in
    let done = begun_done trail (dearest n) out _ (is_kind Trail) _ begins _ c.put_dearest.ensures in
    record { answer = done.0 ∙ sym (answer_as_the_writer n out); bytes = done.1 ∙ sym (written_as_the_writer n out) }
