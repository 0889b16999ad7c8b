-- LISTS OF AGINGS. Document 01: "The list may be empty. It holds agings by tolerance and agings by days, refused ones too, on one lent buffer that
-- begins with an accepted record marked never, the original." Document 02, item 6: "in demand 3's lists each call may have another" table.
use Rattle.std.specs.Prelude.{List, [], ◌∷◌, cond, ℕ, ◌+◌, ◌-◌, ◌/◌, ◌%◌, max, ltb}
use Rattle.std.proofs.Math.Option.{Option, some, none}
use Rattle.distance.specs.Fix.{Fix}
use Rattle.distance.specs.Place.{Point}
use Rattle.distance.specs.Box.{Box}
use Rattle.format.specs.Kinds.{Kind}
use Rattle.format.specs.Format.{never, fixes}
use Rattle.record.specs.Checks.{read_refusal}
use Rattle.record.specs.Answers.{Answer, gives, turns_away, answer, unless}
use Rattle.table.specs.Table.{table_at}
use Rattle.thinning.specs.Thinning.{thinned}
use Rattle.aging.specs.Aging.{Call, by_tolerance, by_days, left_by, answered, applies}
use Rattle.legs.specs.declared.Fraction.{Fraction}
use Rattle.crossing.specs.Crossing.{cross_refusal, first_crossing}
use Rattle.approach.specs.declared.Approach.{Approach}
use Rattle.approach.specs.Approach.{near_refusal, first_near}

-- "Every call [..] gets the buffer as the call before it left it, and nobody else writes it meanwhile."
unfoldable pub run : List ℕ → List Call → List ℕ
run b [] = b
run b (c ∷ calls) = run (left_by b c) calls

-- What making a list answers: the record's refusal, and then nothing is done (`run_refused` of Laws/Agings.antt); else how many of its calls answered with a
-- refusal, each asked of the buffer as the one before left it.
abbrev pub one_if_refused : Answer ℕ → ℕ
one_if_refused (gives n) = 0
one_if_refused (turns_away k) = 1

unfoldable pub refused_calls : List ℕ → List Call → ℕ
refused_calls b [] = 0
refused_calls b (c ∷ calls) = one_if_refused (answered b c) + refused_calls (left_by b c) calls

abbrev pub run_answer : List ℕ → List Call → Answer ℕ
run_answer b calls = answer (read_refusal b) (refused_calls b calls)

-- A QUESTION ASKED AFTER A LIST, as one call: whether the question is refused is decided first, and then "all lent bytes untouched"; else the list is made and the
-- question is that of what is left. `asks` is the question's refusal of lent bytes, and `tells` what it gives of fixes. (`asked_after` of Laws/Asked.antt: it is what
-- the question alone answers of what the list leaves.)
abbrev pub answer_then : {A : Type 0} → (asks : List ℕ → Option ℕ) → (tells : List Fix → A) → List ℕ → List Call → Answer A
answer_then asks tells b calls = answer (asks b) (tells (fixes (run b calls)))

abbrev pub left_then : (asks : List ℕ → Option ℕ) → List ℕ → List Call → List ℕ
left_then asks b calls = unless (asks b) b (run b calls)

-- the crossing ..
abbrev pub after_answer : List ℕ → List Call → (s e : ℕ) → Box → Answer (Option Fraction)
after_answer b calls s e box = answer_then (λ d. cross_refusal d s e box) (λ l. first_crossing l box s e) b calls

abbrev pub left_after : List ℕ → List Call → (s e : ℕ) → Box → List ℕ
left_after b calls s e box = left_then (λ d. cross_refusal d s e box) b calls

-- .. and the radius question
abbrev pub near_after_answer : List ℕ → List Call → Point → (r : ℕ) → Answer (Option Approach)
near_after_answer b calls c r = answer_then (λ d. near_refusal d c r) (λ l. first_near l c r) b calls

abbrev pub near_left_after : List ℕ → List Call → Point → (r : ℕ) → List ℕ
near_left_after b calls c r = left_then (λ d. near_refusal d c r) b calls

-- "a plain book, fed each call's arguments and nothing from the program's record. It holds the original's fixes, never changed, and E, at first none."
-- Their kind stands beside them, as never changed: E is in its unit, and a call's tolerance is held to its limit.
pub record Book : Type 0 where
  pub kind : Kind
  pub original : List Fix
  pub E : Option ℕ

unfoldable pub new_book : Kind → List Fix → Book
new_book K l = record { kind = K; original = l; E = none }

-- "makes E the greater of E and e, or e if E was none"; a call that applies no tolerance leaves E.
unfoldable pub greater : Option ℕ → Option ℕ → Option ℕ
greater E none = E
greater none (some e) = some e
greater (some E) (some e) = some (max E e)

-- What a call's arguments make of the book: no bytes are among them.
unfoldable pub fed : Book → Call → Book
fed k c = record { kind = k.kind; original = k.original; E = greater k.E (applies k.kind c) }

unfoldable pub fed_all : Book → List Call → Book
fed_all k [] = k
fed_all k (c ∷ calls) = fed_all (fed k c) calls

-- "those that thinning, as defined above, keeps of the book's fixes at E"; "With E none, the fixes are the book's, the mark is 65,535, and E counts
-- as 0 in what follows."
unfoldable pub kept_at : Option ℕ → List Fix → List Fix
kept_at none l = l
kept_at (some E) l = thinned E l

unfoldable pub mark_of : Option ℕ → ℕ
mark_of none = never
mark_of (some E) = E

unfoldable pub counts_as : Option ℕ → ℕ
counts_as none = 0
counts_as (some E) = E

-- ---- a list of calls as numbers, beside a lent list of tables (`table_at` of the table's Table.antt). Below 65,536 a number is a tolerance. From there on it is a
-- day, n % 65,536, by one of the tables, which n / 65,536 counts from 1. Every number is a call, and every list of calls that anybody could make has its numbers and
-- tables (`by_number` and `numbers_of` of Laws/Calls.antt).
unfoldable pub call_of : (tables : List ℕ) → ℕ → Call
call_of tables n = cond (ltb n 65536) (by_tolerance n) (by_days (n % 65536) (table_at tables (n / 65536 - 1)))

unfoldable pub calls_of : (tables : List ℕ) → List ℕ → List Call
calls_of tables [] = []
calls_of tables (n ∷ l) = call_of tables n ∷ calls_of tables l
