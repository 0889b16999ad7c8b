-- What the enums of the code say, as the paper's numbers and values.
use Rattle.std.specs.Prelude.{◌≡◌, ℕ, Result, Ok, Err}
use Rattle.std.proofs.Math.Option.{Option, some, none}
use Rattle.record.specs.declared.refusal.Refusal.{Refusal}
use Rattle.record.specs.declared.refusal.Refusal.TheVariants.{FewBytes, OtherKind, BadCount, BadLength, ShortRecord, BadMark, Misplaced, Unordered, LongSpan}
use Rattle.record.specs.declared.refusal.Refusal.TheVariants.{HighTolerance, BadThousandths, BadMoment, BadWindow, BadBox, ShortOutput, BadPoint}
use Rattle.record.specs.declared.refusal.Refusal.TheVariants.{BadReading, BadState, BadNewPlace, BadSilence, MomentInSilence, BadRowCount, BadRows}
use Rattle.record.specs.Checks as paper

-- An operation's answer: what it gives, or the number of its refusal, "and nothing more".
pub data Answer (A : Type 0) : Type 0 where
  gives : A → Answer A
  turns_away : ℕ → Answer A

abbrev pub answer : {A : Type 0} → Option ℕ → A → Answer A
answer none a = gives a
answer (some k) a = turns_away k

-- Two answers agree: both give, and what they give agrees; or both are the same refusal.
abbrev pub SameAnswer : {A B : Type 0} → (A → B → Type 0) → Answer A → Answer B → Type 0
SameAnswer agrees (gives a) (gives g) = agrees a g
SameAnswer agrees (turns_away k) (turns_away n) = k ≡ n
SameAnswer agrees (gives a) (turns_away n) = ⊥
SameAnswer agrees (turns_away k) (gives g) = ⊥

-- What is found first, if anything is.
abbrev pub or_else : {A : Type 0} → Option A → Option A → Option A
or_else (some a) r = some a
or_else none r = r

-- A lent buffer afterwards: as it was if there is a refusal, "with all lent bytes untouched".
abbrev pub unless : {A : Type 0} → Option ℕ → (before afterwards : A) → A
unless none before afterwards = afterwards
unless (some k) before afterwards = before

-- The check that a refusal of the code names, and its number.
abbrev pub check_of : Refusal → paper.Check
check_of FewBytes = paper.few_bytes
check_of OtherKind = paper.other_kind
check_of BadCount = paper.bad_count
check_of BadLength = paper.bad_length
check_of ShortRecord = paper.short_record
check_of BadMark = paper.bad_mark
check_of Misplaced = paper.misplaced
check_of Unordered = paper.unordered
check_of LongSpan = paper.long_span
check_of HighTolerance = paper.high_tolerance
check_of BadThousandths = paper.bad_thousandths
check_of BadMoment = paper.bad_moment
check_of BadWindow = paper.bad_window
check_of BadBox = paper.bad_box
check_of ShortOutput = paper.short_output
check_of BadPoint = paper.bad_point
check_of BadReading = paper.bad_reading
check_of BadState = paper.bad_state
check_of BadNewPlace = paper.bad_new_place
check_of BadSilence = paper.bad_silence
check_of MomentInSilence = paper.moment_in_silence
check_of BadRowCount = paper.bad_row_count
check_of BadRows = paper.bad_rows

abbrev pub number_of : Refusal → ℕ
number_of r = paper.number (check_of r)

-- What an operation answered: the papers' value of what it gives, or the refusal.
abbrev pub answer_by : {A B : Type 0} → (A → B) → Result A Refusal → Answer B
answer_by value (Ok a) = gives (value a)
answer_by value (Err r) = turns_away (number_of r)

-- The number of the refusal, or none.
abbrev pub refused : {A : Type 0} → Result A Refusal → Option ℕ
refused (Ok a) = none
refused (Err r) = some (number_of r)
