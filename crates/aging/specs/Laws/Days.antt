-- Aging by days: the record's checks and then the table's, a row in a kind's unit, and what halls may count on.
use Rattle.std.specs.Prelude.{ℕ}
use Rattle.std.proofs.Math.Option.{Option}
use Rattle.format.specs.Kinds.{Kind}
use Rattle.record.specs.Answers.{Answer, gives, turns_away}
use Rattle.aging.specs.Aging.{in_unit}

-- what a table answers, in a kind's unit
abbrev pub answer_in_unit : Kind → Answer (Option ℕ) → Answer (Option ℕ)
answer_in_unit K (gives t) = gives (in_unit K t)
answer_in_unit K (turns_away k) = turns_away k
