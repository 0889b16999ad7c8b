-- THE INTERFACE'S NUMBERS: what the layers' definitions give, as programs in other languages get it. A refusal is its number, and 0 is none.
-- `declared.X` is the struct X of the code.
use Rattle.std.specs.Prelude.{◌≡◌, not, cond, List, [], ℕ, eqb, pos, nat_abs}
use Rattle.std.proofs.Math.Option.{Option, some, none}
use Rattle.distance.specs.Fix.{Fix}
use Rattle.distance.specs.Place.{Point}
use Rattle.format.specs.Format.{kind_field, count_field, mark_field}
use Rattle.record.specs.Checks.{Row, read_refusal, load_refusal}
use Rattle.record.specs.Answers.{Answer, gives, turns_away, answer, unless}
use Rattle.reading.specs.Reading.{yields}
use Rattle.table.specs.Answers.{table_of, ClearedAfter}
use Rattle.moment.specs.Moment.{Standing}
use Rattle.legs.specs.declared.Fraction.{Fraction}
use Rattle.approach.specs.declared.Approach.{Approach}
use Rattle.anchors.specs.declared.State.{State}
use Rattle.anchors.specs.declared.Reading.{Reading}
use Rattle.anchors.specs.Anchors.{anchor_answer, state_after}
use Rattle.export.specs.declared.Head.{Head}
use Rattle.export.specs.declared.Step.{Step}
use Rattle.export.specs.declared.Answer.{Answer as Numbers}
use Rattle.export.specs.declared.Loaded.{Loaded}
use Rattle.export.specs.declared.Applied.{Applied}
use Rattle.export.specs.declared.Run.{Run}
use Rattle.export.specs.declared.Spot.{Spot}
use Rattle.export.specs.declared.Crossing.{Crossing}
use Rattle.export.specs.declared.Approach.{Approach as ApproachNumbers}
use Rattle.export.specs.declared.AnchorState.{AnchorState}
use Rattle.export.specs.declared.Anchored.{Anchored}

-- A record's kind, count and mark, unless it is turned away.
abbrev pub checked_numbers : Option ℕ → List ℕ → Head
checked_numbers none b = record { refusal = 0; kind = kind_field b; count = count_field b; mark = mark_field b }
checked_numbers (some k) b = record { refusal = k; kind = 0; count = 0; mark = 0 }

abbrev pub head_numbers : List ℕ → Head
head_numbers b = checked_numbers (read_refusal b) b

-- The reader makes checks 1 to 9 and 20, and yields the fix at a position or says that none is left.
abbrev pub yield_answer : List ℕ → (position : ℕ) → Answer (Option Fix)
yield_answer b position = answer (read_refusal b) (yields b position)

-- A fix of a record of this kind, if there is one, unless there is a refusal.
abbrev pub step_numbers : (kind : ℕ) → Answer (Option Fix) → Step
step_numbers kind (gives (some f)) = record { refusal = 0; found = 1; kind = kind; t = f.t; x = f.x; y = f.y; silence = f.silence }
step_numbers kind (gives none) = record { refusal = 0; found = 0; kind = 0; t = 0; x = pos 0; y = pos 0; silence = 0 }
step_numbers kind (turns_away k) = record { refusal = k; found = 0; kind = 0; t = 0; x = pos 0; y = pos 0; silence = 0 }

-- A value, unless there is a refusal.
abbrev pub value_numbers : Answer ℕ → Numbers
value_numbers (gives n) = record { refusal = 0; value = n }
value_numbers (turns_away k) = record { refusal = k; value = 0 }

-- The number of a refusal, and 0 for none.
abbrev pub refusal_number : Option ℕ → ℕ
refusal_number none = 0
refusal_number (some k) = k

-- The table of these rows, with nothing behind them, or a table without rows and the refusal.
abbrev pub LoadNumbers : List Row → Loaded → Type 0
LoadNumbers rows l = (l.refusal ≡ refusal_number (load_refusal rows)) × (table_of l.table ≡ unless (load_refusal rows) [] rows) × ClearedAfter l.table

-- The tolerance that days apply, or none, unless there is a refusal.
abbrev pub applied_numbers : Answer (Option ℕ) → Applied
applied_numbers (gives (some e)) = record { refusal = 0; applies = 1; tolerance = e }
applied_numbers (gives none) = record { refusal = 0; applies = 0; tolerance = 0 }
applied_numbers (turns_away k) = record { refusal = k; applies = 0; tolerance = 0 }

-- How many calls of a list were turned away, unless there is a refusal.
abbrev pub run_numbers : Answer ℕ → Run
run_numbers (gives n) = record { refusal = 0; turned_away = n }
run_numbers (turns_away k) = record { refusal = k; turned_away = 0 }

-- A place's fraction, whose denominator is at least 1, and the rounded place, unless there is a refusal.
abbrev pub spot_numbers : Answer Standing → Spot
spot_numbers (gives s) = record { refusal = 0; denominator = nat_abs s.exact.d; x = s.exact.x; y = s.exact.y; whole_x = s.rounded_x; whole_y = s.rounded_y }
spot_numbers (turns_away k) = record { refusal = k; denominator = 0; x = pos 0; y = pos 0; whole_x = pos 0; whole_y = pos 0 }

-- Yes with its time or no, unless there is a refusal.
abbrev pub crossing_numbers : Answer (Option Fraction) → Crossing
crossing_numbers (gives (some f)) = record { refusal = 0; crosses = 1; numerator = f.num; denominator = f.den }
crossing_numbers (gives none) = record { refusal = 0; crosses = 0; numerator = 0; denominator = 0 }
crossing_numbers (turns_away k) = record { refusal = k; crosses = 0; numerator = 0; denominator = 0 }

-- Yes with its leg and its time or no, unless there is a refusal.
abbrev pub approach_numbers : Answer (Option Approach) → ApproachNumbers
approach_numbers (gives (some A)) = record { refusal = 0; approaches = 1; leg = A.leg; numerator = A.num; denominator = A.den }
approach_numbers (gives none) = record { refusal = 0; approaches = 0; leg = 0; numerator = 0; denominator = 0 }
approach_numbers (turns_away k) = record { refusal = k; approaches = 0; leg = 0; numerator = 0; denominator = 0 }

-- An anchor's state: every number but 0 says that the flag is on, and 1 is what says so afterwards.
abbrev pub state_of : AnchorState → State
state_of s = record { x = s.x; y = s.y; seen = not (eqb s.seen 0) }

abbrev pub state_numbers : State → AnchorState
state_numbers s = record { x = s.x; y = s.y; seen = cond s.seen 1 0 }

-- The rounded place and the new state, or the refusal and the very state that was handed in.
abbrev pub anchored_numbers : (handed : AnchorState) → Answer Point → (left : State) → Anchored
anchored_numbers h (gives P) s = record { refusal = 0; x = P.x; y = P.y; state = state_numbers s }
anchored_numbers h (turns_away k) s = record { refusal = k; x = pos 0; y = pos 0; state = h }

abbrev pub read_numbers : AnchorState → Reading → Anchored
read_numbers h r = anchored_numbers h (anchor_answer (state_of h) r) (state_after (state_of h) r)
