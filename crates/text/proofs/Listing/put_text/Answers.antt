-- The reader that `read` makes stands where it begins, over the lent bytes, and says of them what the checks say.
use Rattle.std.proofs.Common.{◌≡◌, ◌∙◌, sym}
use Rattle.std.proofs.Math.Option.{some}
use Rattle.record.specs.Checks.{read_refusal}
use Rattle.record.specs.Answers.{number_of}
use Rattle.reading.specs.Reading.{told_refusal}
use Rattle.reading.proofs.Laws.Reading.{begins_tells}
use Rattle.text.proofs.Laws.Text.{text_refused}
use Rattle.text.proofs.Listing.put_text.Goals as goal
use Rattle.text.proofs.Listing.put_text.Goals.{After-read-reader}

told : (c : After-read-reader) → told_refusal c.read-reader.result.bytes.now c.read-reader.result.at ≡ read_refusal c.args.b.now
told c = rw (c.read-reader.ensures.bytes, c.read-reader.ensures.at) (begins_tells c.args.b.now)

pub put_record-requires-clause-accepted : goal.put_record-requires-clause-accepted
put_record-requires-clause-accepted c = sym (c.in-Ok.ensures ∙ told (goal.at-put_record-requires-clause-accepted c).After-read-reader)

pub returns-in-Err-clause-text : goal.returns-in-Err-clause-text
returns-in-Err-clause-text c =
    let r : read_refusal c.args.b.now ≡ some (number_of c.in-Err.refusal) = sym (c.in-Err.ensures ∙ told (goal.at-returns-in-Err-clause-text c).After-read-reader) in
    rw (text_refused c.args.b.now r) c.put_refusal.ensures.text
