use Rattle.std.proofs.Common.{◌≡◌, sym, ◌∙◌, length, ℕ}
use Rattle.format.specs.Kinds.{layout}
use Rattle.format.specs.Format.{each}
use Rattle.format.proofs.Laws.Each.{length_each}
use Rattle.record.specs.Answers.{number_of}
use Rattle.record.proofs.Laws.Answers.{turned_away}
use Rattle.writing.specs.Answers.{wrote}
use Rattle.writing.specs.Laws.Writing.{Begun}
use Rattle.writing.proofs.Laws.Answers.{own_numbers, refused_plainly, wrote_plainly}
use Rattle.writing.proofs.Laws.Lent.{puttable, writes_lent, writes_refused}
use Rattle.writing.proofs.lent.write_lent.Goals as goal
use Rattle.writing.proofs.lent.write_lent.Given.{Over}
use Rattle.writing.proofs.lent.write_lent.Goals.{After-begin_record}

-- how the writer begins, as the fixes by position say it
begun : (g : Over) (c : After-begin_record g) → Begun (layout (g.L.Lent.kind c.args.lent)) (each (g.L.Lent.fix c.args.lent) 0 (g.L.Lent.count c.args.lent)) c.args.out.now (wrote c.begin_record.result) c.begin_record.new.out
begun g c =
    let n : length (each (g.L.Lent.fix c.args.lent) 0 (g.L.Lent.count c.args.lent)) ≡ c.count.result = length_each _ 0 _ ∙ sym c.count.ensures in
    rw (c.kind.ensures, wrote_plainly c.begin_record.result) at (c.begin_record.ensures number_of own_numbers _ n (λ one few. refused_plainly c.scan.result ∙ rw c.kind.ensures (c.scan.ensures.says _ (rw (← c.count.ensures) one))))

pub put-requires : goal.put-requires
put-requires g c =
    let b = rw c.in_ok-length.was at (begun g (goal.at-put-requires g c).After-begin_record) in
    let p = puttable (g.L.Lent.kind c.args.lent) (g.L.Lent.fix c.args.lent) _ c.args.out.now _ _ b in
    record { few = p.few; room = p.room; bounded = p.bounded }

pub returns-in_err-length : goal.returns-in_err-length
returns-in_err-length g c =
    let b = rw c.in_err-length.was at (begun g (goal.at-returns-in_err-length g c).After-begin_record) in
    rw (turned_away (λ (n : ℕ). n) c.from_residual.result _ c.from_residual.ensures.1) (writes_refused (g.L.Lent.kind c.args.lent) (g.L.Lent.fix c.args.lent) _ c.args.out.now _ _ b)

pub returns : goal.returns
returns g c =
    let b = rw c.in_ok-length.was at (begun g (goal.at-returns g c).After-begin_record) in
    writes_lent (g.L.Lent.kind c.args.lent) (g.L.Lent.fix c.args.lent) _ c.args.out.now _ _ b c.scan.ensures.timed (g.met.L.Lent.sayable c.args.lent) _ c.put.ensures
