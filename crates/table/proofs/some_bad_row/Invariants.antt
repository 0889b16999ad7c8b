use Rattle.std.proofs.Common.{◌≡◌, map, drop}
use Rattle.std.proofs.Math.Option.{none}
use Rattle.record.specs.Checks.{some_bad_row}
use Rattle.distance.specs.Options.{option_by}
use Rattle.table.specs.Answers.{row_of}
use Rattle.table.proofs.some_bad_row.Given as goal

abbrev pub invariant-loop-row : goal.invariant-loop-row
invariant-loop-row l =
    some_bad_row none (map row_of l.rows) ≡ some_bad_row (option_by row_of l.before) (map row_of (drop l.row-index l.rows))
