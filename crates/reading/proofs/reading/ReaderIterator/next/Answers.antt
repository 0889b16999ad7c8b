use Rattle.std.specs.Prelude as std
use Rattle.std.specs.Prelude.{Some, None, OnSome, IfSome, IfNone, ⊤, ◌-◌, ◌<◌}
use Rattle.distance.specs.declared.Fix as code
use Rattle.distance.specs.Fix.{fix_of}
use Rattle.format.specs.Format.{count_field}
use Rattle.reading.specs.declared.reading.Reader.{Reader}
use Rattle.reading.specs.Steps.{Steps}
use Rattle.reading.proofs.Laws.Reading.{fewer_left}
use Rattle.reading.proofs.reading.ReaderIterator.next.Goals as goal

-- after a fix fewer are left, and a reader may always be asked
onward : (r s : Reader) (fix : std.Option code.Fix) → Steps r fix s
    → OnSome fix (⊤ × ⊤ × (count_field s.bytes.now - s.at < count_field r.bytes.now - r.at)) × IfSome fix (λ _. ⊤) × IfNone fix ⊤
onward r s (Some f) h = ((tt, tt, rw (h.bytes_stay, h.moves_on) (fewer_left r.bytes.now r.at (fix_of f) h.yields_it)), tt, tt)
onward r s None h = (tt, tt, tt)

pub returns-clause-goes : goal.returns-clause-goes
returns-clause-goes c =
    let h = onward c.args.self.now c.next.new.r c.next.result (record { yields_it = c.next.ensures.fix; bytes_stay = c.next.ensures.bytes; moves_on = c.next.ensures.at }) in
    record { on = λ _. h.0; keeps = h.1; rests = λ _. h.2 }
