-- A step of a reader: what it yields, and where it stands afterwards over the same bytes.
use Rattle.std.specs.Prelude as std
use Rattle.std.specs.Prelude.{◌≡◌}
use Rattle.distance.specs.declared.Fix as code
use Rattle.reading.specs.Answers.{found}
use Rattle.reading.specs.Reading.{yields, moves}
use Rattle.reading.specs.declared.reading.Reader.{Reader}

pub record Steps (r : Reader) (fix : std.Option code.Fix) (s : Reader) : Type 0 where
  pub yields_it : found fix ≡ yields r.bytes.now r.at
  pub bytes_stay : s.bytes ≡ r.bytes
  pub moves_on : s.at ≡ moves r.bytes.now r.at
