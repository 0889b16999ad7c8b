-- WHAT IS TURNED AWAY, IN CHECKING ORDER. Document 01: "A refusal is its number and nothing more [..]; it is given if its sentence holds and no
-- earlier check of that operation fails, and never otherwise." (`first_exactly` of Laws/First.antt.)
use Rattle.std.specs.Prelude.{◌≡◌, Bool, true, false, cond, not, ◌||◌, ◌&&◌, List, [], ◌∷◌, ◌++◌, ℕ, ◌+◌, ◌*◌, ltb, leb, eqb, length, ℤ, pos, neg_ℤ, ◌+ℤ◌}
use Rattle.std.proofs.Math.Option.{Option, some, none}
use Rattle.std.specs.Int.Signed.{lt_z}
use Rattle.distance.specs.Fix.{Fix, last_of}
use Rattle.distance.specs.Distance.{seconds}
use Rattle.distance.specs.Place.{Point, point_at, moment}
use Rattle.distance.specs.Silence.{silent, in_silence}
use Rattle.distance.specs.Box.{Box, box_with}
use Rattle.format.specs.Kinds.{Kind, kinds, coded}
use Rattle.format.specs.Format.{never, length_field, kind_field, mark_field, count_field, kind_of, record_length, fixes}

-- ---- a row of a hall's aging table. Document 02, item 6: "rows of day and tolerance", the tolerance in centimetres whatever the record's kind
pub record Row : Type 0 where
  pub day : ℕ
  pub row_tolerance : ℕ

-- ---- an anchor's reading, counted. Document 02, item 3: an anchor sends "either an absolute place in f32 centimetres or a step from the last place, also two
-- floats". Here is what two of its floats are in sixteenths of a centimetre; a float that isn't finite or isn't a whole number of them has no count.
pub record InSixteenths : Type 0 where
  pub x : Option ℤ
  pub y : Option ℤ

-- A reading, and the state that it is given.
pub record Report : Type 0 where
  pub is_step : Bool
  pub sent : InSixteenths
  -- the state's flag, "on from the first accepted absolute place", and its place
  pub flag : Bool
  pub last : InSixteenths

-- ---- what a call is handed beside the bytes. A call fills in what it takes; no check that it makes looks at the rest (`reading_alone` and the laws beside it
-- in Laws/First.antt).
pub record Given : Type 0 where
  -- "The asked tolerance"
  pub tolerance : ℕ
  -- the asked moment, "a second s (32 bits) and m thousandths"
  pub second : ℕ
  pub thousandths : ℕ
  -- "a window of whole seconds"
  pub start : ℕ
  pub end : ℕ
  pub box : Box
  -- how many bytes "The output has"
  pub output : ℕ
  -- the rows of "the table handed to aging by days", or of one that is loaded
  pub table : List Row
  -- "a point and an unsigned radius"
  pub point : Point
  pub radius : ℕ
  -- an anchor's reading, and the state that it is given
  pub report : Report

pub record Asked : Type 0 where
  -- how many bytes are lent
  pub lent : ℕ
  -- the record's head, or what a list of fixes has of it
  pub length_says : ℕ
  pub kind : ℕ
  pub mark : ℕ
  pub count : ℕ
  pub trail_fixes : List Fix
  pub given : Given

-- ---- the sentences' parts
-- "outside −16,000 to 16,000", or another kind's limits
abbrev pub outside : (limit : ℕ) → ℤ → Bool
outside limit z = lt_z z (neg_ℤ (pos limit)) || lt_z (pos limit) z

abbrev pub fix_outside : (limit : ℕ) → Fix → Bool
fix_outside limit f = outside limit f.x || outside limit f.y

-- "Some x or y is outside"
unfoldable pub some_outside : (limit : ℕ) → List Fix → Bool
some_outside limit [] = false
some_outside limit (f ∷ l) = fix_outside limit f || some_outside limit l

-- "Some fix's time isn't later than the time before it", from a fix of time t on
unfoldable pub some_early_after : (t : ℕ) → List Fix → Bool
some_early_after t [] = false
some_early_after t (f ∷ l) = leb f.t t || some_early_after f.t l

unfoldable pub some_early : List Fix → Bool
some_early [] = false
some_early (f ∷ l) = some_early_after f.t l

-- what a test says of the first and the last fix; check 3 has seen to it that there are some
unfoldable pub of_ends : (Fix → Fix → Bool) → List Fix → Bool
of_ends test [] = false
of_ends test (f ∷ l) = test f (last_of f l)

-- "The last time less the first is above 65,535."
abbrev pub too_long : Fix → Fix → Bool
too_long f l = lt_z (pos 65535) (seconds f l)

-- "a silence byte is neither 0 nor 1"
abbrev pub other_silence : Fix → Bool
other_silence f = not (eqb f.silence 0 || eqb f.silence 1)

unfoldable pub some_other_silence : List Fix → Bool
some_other_silence [] = false
some_other_silence (f ∷ l) = other_silence f || some_other_silence l

-- "the last fix has 1"
abbrev pub last_silent : Fix → Fix → Bool
last_silent f l = silent l

-- "The asked moment is before the first fix or after the last", s + m/1000 seconds.
abbrev pub moment_outside : (s m : ℕ) → Fix → Fix → Bool
moment_outside s m f l = ltb (1000 * s + m) (1000 * f.t) || ltb (1000 * l.t) (1000 * s + m)

-- "either is outside the trail's times"
abbrev pub second_outside : ℕ → Fix → Fix → Bool
second_outside s f l = ltb s f.t || ltb l.t s

-- "days don't rise strictly, tolerances fall, or one is above 32,000": what is wrong with a row, after the row before it if there is one. In centimetres, so that
-- no kind's limits are asked.
abbrev pub bad_row : (before : Option Row) → Row → Bool
bad_row none r = ltb 32000 r.row_tolerance
bad_row (some q) r = leb r.day q.day || (ltb r.row_tolerance q.row_tolerance || ltb 32000 r.row_tolerance)

unfoldable pub some_bad_row : (before : Option Row) → List Row → Bool
some_bad_row before [] = false
some_bad_row before (r ∷ rows) = bad_row before r || some_bad_row (some r) rows

-- "a value isn't finite or isn't a whole number of sixteenths"
abbrev pub lacks : Option ℤ → Bool
lacks none = true
lacks (some z) = false

abbrev pub uncounted : InSixteenths → Bool
uncounted c = lacks c.x || lacks c.y

-- "outside −16,000 to 16,000" centimetres. What has no count is not said to be outside: 17 or 18 has turned it away by then (`new_place_counted` of the anchors'
-- Laws/Claim.antt).
abbrev pub far : Option ℤ → Bool
far none = false
far (some z) = outside (16 * 16000) z

abbrev pub beyond : InSixteenths → Bool
beyond c = far c.x || far c.y

-- "the new place": the one that is sent, and of a step the sum of it and the last place, each coordinate by itself
abbrev pub plus : Option ℤ → Option ℤ → Option ℤ
plus none w = none
plus (some z) none = none
plus (some z) (some w) = some (z +ℤ w)

abbrev pub moved_by : (last step : InSixteenths) → InSixteenths
moved_by c d = record { x = plus c.x d.x; y = plus c.y d.y }

abbrev pub new_place : Report → InSixteenths
new_place r = cond r.is_step (moved_by r.last r.sent) r.sent

-- "a step comes with a state whose flag [..] is off, or whose place 17 or 19 would turn away"
abbrev pub unready : Report → Bool
unready r = r.is_step && (not r.flag || (uncounted r.last || beyond r.last))

-- ---- the checks, and their numbers: document 01's fifteen, and those that document 02 adds
pub data Check : Type 0 where
  few_bytes : Check
  other_kind : Check
  bad_count : Check
  bad_length : Check
  short_record : Check
  bad_mark : Check
  misplaced : Check
  unordered : Check
  long_span : Check
  high_tolerance : Check
  bad_thousandths : Check
  bad_moment : Check
  bad_window : Check
  bad_box : Check
  short_output : Check
  bad_silence : Check
  moment_in_silence : Check
  bad_row_count : Check
  bad_rows : Check
  bad_point : Check
  bad_reading : Check
  bad_state : Check
  bad_new_place : Check

abbrev pub number : Check → ℕ
number few_bytes = 1
number other_kind = 2
number bad_count = 3
number bad_length = 4
number short_record = 5
number bad_mark = 6
number misplaced = 7
number unordered = 8
number long_span = 9
number high_tolerance = 10
number bad_thousandths = 11
number bad_moment = 12
number bad_window = 13
number bad_box = 14
number short_output = 15
number bad_point = 16
number bad_reading = 17
number bad_state = 18
number bad_new_place = 19
number bad_silence = 20
number moment_in_silence = 21
number bad_row_count = 22
number bad_rows = 23

-- ---- the sentences, each as document 01 has it for its kind, 1. Document 02, item 8: "Checks 2, 4, 6, 7, 10, 14, 15 and 16 read the record's own limits." Item 5:
-- "Checks 2, 4 and 15 take the new kind and length."
unfoldable pub sentence : Kind → Asked → Check → Bool
-- 1. "The lent bytes are fewer than 10."
sentence K a few_bytes = ltb a.lent 10
-- 2. "The kind isn't 1.", or one of those that document 02 adds
sentence K a other_kind = not (coded kinds a.kind)
-- 3. "The count is 0 or above 4,096."
sentence K a bad_count = eqb a.count 0 || ltb 4096 a.count
-- 4. "The length field isn't 10 + 8 times the count."
sentence K a bad_length = not (eqb a.length_says (record_length K a.count))
-- 5. "The lent bytes are fewer than the length field."
sentence K a short_record = ltb a.lent a.length_says
-- 6. "The mark is above 32,000 and isn't 65,535."
sentence K a bad_mark = ltb K.top a.mark && not (eqb a.mark never)
-- 7. "Some x or y is outside −16,000 to 16,000."
sentence K a misplaced = some_outside K.limit a.trail_fixes
-- 8. "Some fix's time isn't later than the time before it."
sentence K a unordered = some_early a.trail_fixes
-- 9. "The last time less the first is above 65,535."
sentence K a long_span = of_ends too_long a.trail_fixes
-- 10. "The asked tolerance is above 32,000."
sentence K a high_tolerance = ltb K.top a.given.tolerance
-- 11. "The asked thousandths are above 999."
sentence K a bad_thousandths = ltb 999 a.given.thousandths
-- 12. "The asked moment is before the first fix or after the last."
sentence K a bad_moment = of_ends (moment_outside a.given.second a.given.thousandths) a.trail_fixes
-- 13. "The window's end is before its start, or either is outside the trail's times."
sentence K a bad_window =
    ltb a.given.end a.given.start
    || (of_ends (second_outside a.given.start) a.trail_fixes || of_ends (second_outside a.given.end) a.trail_fixes)
-- 14. "A box edge is outside −16,000 to 16,000, or a low edge is above its high edge."
sentence K a bad_box =
    let b = a.given.box in
    outside K.limit b.x_low
    || (outside K.limit b.x_high || (outside K.limit b.y_low || (outside K.limit b.y_high || (lt_z b.x_high b.x_low || lt_z b.y_high b.y_low))))
-- 15. "The output has fewer than 10 + 8n bytes."
sentence K a short_output = ltb a.given.output (record_length K a.count)
-- 16. "the point is outside −16,000 to 16,000 or the radius is above 32,000": the limit of places, and twice that, as the 320,000 of item 8 is
sentence K a bad_point = outside K.limit a.given.point.x || (outside K.limit a.given.point.y || ltb (2 * K.limit) a.given.radius)
-- 17. "a value isn't finite or isn't a whole number of sixteenths"
sentence K a bad_reading = uncounted a.given.report.sent
-- 18. "a step comes with a state whose flag, on from the first accepted absolute place, is off, or whose place 17 or 19 would turn away"
sentence K a bad_state = unready a.given.report
-- 19. "the new place is outside −16,000 to 16,000"
sentence K a bad_new_place = beyond (new_place a.given.report)
-- 20. "a silence byte is neither 0 nor 1 or the last fix has 1". Kinds without that byte say 0, and are never turned away by it (`no_silence_refused` of Laws/Silence.antt).
sentence K a bad_silence = some_other_silence a.trail_fixes || of_ends last_silent a.trail_fixes
-- 21. "the moment is strictly inside a silence"
sentence K a moment_in_silence = in_silence a.trail_fixes (moment a.given.second a.given.thousandths)
-- 22. "there are no rows or more than 32"
sentence K a bad_row_count = eqb (length a.given.table) 0 || ltb 32 (length a.given.table)
-- 23. "days don't rise strictly, tolerances fall, or one is above 32,000"
sentence K a bad_rows = some_bad_row none a.given.table

-- ---- THE ORDER. Document 02, item 2: "16, after 9"; item 5: "20, directly after 9 and before 16, [..]; 21, after 12"; item 6: "directly after 9 and 20: 22, [..]; 23,
-- next". Item 3: "17, first, [..]; 18, next, [..]; 19, last", of a reading, which makes no other.
abbrev pub order : List Check
order =
    few_bytes ∷ other_kind ∷ bad_count ∷ bad_length ∷ short_record ∷ bad_mark ∷ misplaced ∷ unordered ∷ long_span ∷ bad_silence ∷ bad_row_count ∷ bad_rows ∷ bad_point
    ∷ high_tolerance ∷ bad_thousandths ∷ bad_moment ∷ moment_in_silence ∷ bad_window ∷ bad_box ∷ short_output ∷ bad_reading ∷ bad_state
    ∷ bad_new_place ∷ []

-- Those of a record's head, and those of its fixes.
abbrev pub head_checks : List Check
head_checks = few_bytes ∷ other_kind ∷ bad_count ∷ bad_length ∷ short_record ∷ bad_mark ∷ []

abbrev pub fix_checks : List Check
fix_checks = misplaced ∷ unordered ∷ long_span ∷ bad_silence ∷ []

-- "Aging makes checks 1 to 10, aging by days 1 to 9, the place question 1 to 9, 11, 12, the crossing 1 to 9, 13, 14, the reader and the listing 1 to
-- 9, the writer 3, 7, 8, 9, 15." Document 02, item 5, puts 20 after 9 in each of them, and 21 after the place question's 12. Item 6 has 22 and 23 "on loading, and
-- on the table handed to aging by days". Item 2's question makes 16 after 9 and 20. Item 3's reading of an anchor
-- makes 17, 18 and 19. Of writing item 13's trail "3 and 15 apply".
pub data Operation : Type 0 where
  reading : Operation
  writing : Operation
  aging : Operation
  aging_by_days : Operation
  placing : Operation
  crossing : Operation
  loading : Operation
  approaching : Operation
  anchoring : Operation
  writing_dearest : Operation

abbrev pub of_record : List ℕ → List ℕ
of_record l = 1 ∷ 2 ∷ 3 ∷ 4 ∷ 5 ∷ 6 ∷ 7 ∷ 8 ∷ 9 ∷ 20 ∷ l

abbrev pub makes : Operation → List ℕ
makes reading = of_record []
makes writing = 3 ∷ 7 ∷ 8 ∷ 9 ∷ 20 ∷ 15 ∷ []
makes aging = of_record (10 ∷ [])
makes aging_by_days = of_record (22 ∷ 23 ∷ [])
makes placing = of_record (11 ∷ 12 ∷ 21 ∷ [])
makes crossing = of_record (13 ∷ 14 ∷ [])
makes loading = 22 ∷ 23 ∷ []
makes approaching = of_record (16 ∷ [])
makes anchoring = 17 ∷ 18 ∷ 19 ∷ []
makes writing_dearest = 3 ∷ 15 ∷ []

abbrev pub member : ℕ → List ℕ → Bool
member n [] = false
member n (m ∷ l) = eqb n m || member n l

-- Those of a list whose numbers are selected. The rest of the list is named once: in both cases of a `cond` it would double what is to be computed with each check
-- of the order.
abbrev pub selected : List ℕ → List Check → List Check
selected s [] = []
selected s (c ∷ l) = cond (member (number c) s) (c ∷ []) [] ++ selected s l

-- An operation's checks: its selection from the order.
abbrev pub checks : Operation → List Check
checks o = selected (makes o) order

-- The number of the first of these checks whose sentence holds.
unfoldable pub first : (Check → Bool) → List Check → Option ℕ
first says [] = none
first says (c ∷ l) = cond (says c) (some (number c)) (first says l)

-- Said of a number k: the sentence of its check holds and no earlier one does. (`first_exactly` of Laws/First.antt: `first` gives k exactly then.)
pub data FirstHolds (says : Check → Bool) (k : ℕ) : List Check → Type 0 where
  this : {c : Check} {l : List Check} → says c ≡ true → number c ≡ k → FirstHolds says k (c ∷ l)
  not_before : {c : Check} {l : List Check} → says c ≡ false → FirstHolds says k l → FirstHolds says k (c ∷ l)

-- THE REFUSAL of an operation: none, or its number.
abbrev pub refusal : Kind → Operation → Asked → Option ℕ
refusal K o a = first (sentence K a) (checks o)

-- ---- what is asked of lent bytes, and of a list of fixes that is to be written
abbrev pub asked_of : List ℕ → Given → Asked
asked_of b g = record {
  lent = length b;
  length_says = length_field b;
  kind = kind_field b;
  mark = mark_field b;
  count = count_field b;
  trail_fixes = fixes b;
  given = g;
}

-- A reader takes nothing besides the bytes.
abbrev pub nothing : Given
nothing = record {
  tolerance = 0;
  second = 0;
  thousandths = 0;
  start = 0;
  end = 0;
  box = box_with (pos 0) (pos 0) (pos 0) (pos 0);
  output = 0;
  table = [];
  point = point_at (pos 0) (pos 0);
  radius = 0;
  report = record { is_step = false; sent = record { x = none; y = none }; flag = false; last = record { x = none; y = none } };
}

-- What loads a table, or ages by one, takes its rows, and what reads an anchor takes its report.
abbrev pub with_rows_and_report : List Row → Report → Given
with_rows_and_report rows r = record {
  tolerance = nothing.tolerance;
  second = nothing.second;
  thousandths = nothing.thousandths;
  start = nothing.start;
  end = nothing.end;
  box = nothing.box;
  output = nothing.output;
  table = rows;
  point = nothing.point;
  radius = nothing.radius;
  report = r;
}

abbrev pub with_table : List Row → Given
with_table rows = with_rows_and_report rows nothing.report

abbrev pub with_report : Report → Given
with_report r = with_rows_and_report nothing.table r

-- The refusal of an operation over lent bytes: by the limits of their own kind.
abbrev pub refusal_of : Operation → List ℕ → Given → Option ℕ
refusal_of o b g = refusal (kind_of b) o (asked_of b g)

abbrev pub read_refusal : List ℕ → Option ℕ
read_refusal b = refusal_of reading b nothing

-- Loading looks at no record, so it is asked of no bytes (`loading_alone` of Laws/First.antt).
abbrev pub load_refusal : List Row → Option ℕ
load_refusal rows = refusal_of loading [] (with_table rows)

-- Nor does the reading of an anchor (`anchoring_alone`).
abbrev pub anchor_refusal : Report → Option ℕ
anchor_refusal r = refusal_of anchoring [] (with_report r)

-- What checks 1 to 6 say: they look at the head alone, and at how many bytes are lent.
abbrev pub head_refusal : List ℕ → Option ℕ
head_refusal b = first (sentence (kind_of b) (asked_of b nothing)) head_checks

-- "A record is accepted if none of the reader's checks turns it away."
pub record IsAccepted (b : List ℕ) : Type 0 where
  pub accepted : read_refusal b ≡ none
