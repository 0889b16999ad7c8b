-- AGING. Document 01: "thin again what was thinned. A shift's first thinning is this same call, and there is no other."
use Rattle.std.specs.Prelude.{cond, List, ◌++◌, ℕ, ◌*◌, min, max, leb, eqb, length, drop}
use Rattle.std.proofs.Math.Option.{Option, some, none}
use Rattle.format.specs.Kinds.{Kind}
use Rattle.format.specs.Format.{never, mark_field, kind_of, record_length, fixes, record_bytes}
use Rattle.record.specs.Checks.{Row, Given, nothing, refusal_of, read_refusal, aging, aging_by_days, with_table, load_refusal}
use Rattle.record.specs.Answers.{Answer, answer, unless}
use Rattle.table.specs.Table.{days_give}
use Rattle.thinning.specs.Thinning.{thinning, thinned}

-- "the mark becomes e if it was never, else the greater of the two."
unfoldable pub new_mark : (mark e : ℕ) → ℕ
new_mark mark e = cond (eqb mark never) e (max mark e)

-- "The record's fixes are thinned at e; kept fixes close up at its start; length and count follow [..]. Bytes from the new length on are as before."
unfoldable pub thinned_record : List ℕ → (e : ℕ) → List ℕ
thinned_record b e =
    let kept = thinned e (fixes b) in
    record_bytes (kind_of b) (new_mark (mark_field b) e) kept ++ drop (record_length (kind_of b) (length kept)) b

-- ---- by tolerance: "Aging makes checks 1 to 10", and 20 after 9. What the call does not take decides nothing (`aging_alone` of the record's Laws/First.antt).
abbrev pub with_tolerance : ℕ → Given
with_tolerance e = record {
  tolerance = e;
  second = nothing.second;
  thousandths = nothing.thousandths;
  start = nothing.start;
  end = nothing.end;
  box = nothing.box;
  output = nothing.output;
  table = nothing.table;
  point = nothing.point;
  radius = nothing.radius;
  report = nothing.report;
}

abbrev pub age_refusal : List ℕ → (e : ℕ) → Option ℕ
age_refusal b e = refusal_of aging b (with_tolerance e)

-- "The answer carries a count"; and the buffer afterwards.
abbrev pub age_answer : List ℕ → (e : ℕ) → Answer ℕ
age_answer b e = answer (age_refusal b e) (thinning e (fixes b)).count

abbrev pub aged : List ℕ → (e : ℕ) → List ℕ
aged b e = unless (age_refusal b e) b (thinned_record b e)

-- ---- by days. Document 02, item 6: "aging by days is handed the table. It applies the last row whose day isn't above the asked one" (`days_give` of the table's
-- Table.antt, in centimetres). Item 8: "For kind 2 aging by days takes the lesser of 60,000 and ten times the row". Kinds 1 and 3 take the row, which no accepted
-- table has above their limit.
abbrev pub in_unit : Kind → Option ℕ → Option ℕ
in_unit K none = none
in_unit K (some row) = some (min K.top (K.per_centimetre * row))

abbrev pub days_apply : Kind → (days : ℕ) → List Row → Option ℕ
days_apply K days rows = in_unit K (days_give rows days)

-- "aging by days 1 to 9", and 20, and on its table "directly after 9 and 20" 22 and 23
abbrev pub days_refusal : List ℕ → List Row → Option ℕ
days_refusal b rows = refusal_of aging_by_days b (with_table rows)

-- The tolerance that these days apply to the record, in its unit, or none.
abbrev pub apply_answer : List ℕ → (days : ℕ) → List Row → Answer (Option ℕ)
apply_answer b days rows = answer (days_refusal b rows) (days_apply (kind_of b) days rows)

-- "the record is unchanged, the count 0", or as aging at that tolerance does.
abbrev pub count_at : Option ℕ → List ℕ → ℕ
count_at none b = 0
count_at (some e) b = (thinning e (fixes b)).count

abbrev pub record_at : Option ℕ → List ℕ → List ℕ
record_at none b = b
record_at (some e) b = thinned_record b e

abbrev pub days_answer : List ℕ → (days : ℕ) → List Row → Answer ℕ
days_answer b days rows = answer (days_refusal b rows) (count_at (days_apply (kind_of b) days rows) b)

abbrev pub aged_by_days : List ℕ → (days : ℕ) → List Row → List ℕ
aged_by_days b days rows = unless (days_refusal b rows) b (record_at (days_apply (kind_of b) days rows) b)

-- ---- "the built-in one being a case of it": aging by days as document 01 has it, by its four rows and no table. "from day 2, 10; from day 7, 25; from day 30, 100;
-- from day 90, 400. Days 0 and 1 apply no tolerance". It is aging by the built-in table (`as_before` of Laws/Days.antt).
abbrev pub four_rows_give : (days : ℕ) → Option ℕ
four_rows_give days = cond (leb 90 days) (some 400) (cond (leb 30 days) (some 100) (cond (leb 7 days) (some 25) (cond (leb 2 days) (some 10) none)))

abbrev pub four_rows_answer : List ℕ → (days : ℕ) → Answer ℕ
four_rows_answer b days = answer (read_refusal b) (count_at (in_unit (kind_of b) (four_rows_give days)) b)

abbrev pub four_rows_aged : List ℕ → (days : ℕ) → List ℕ
four_rows_aged b days = unless (read_refusal b) b (record_at (in_unit (kind_of b) (four_rows_give days)) b)

-- ---- a call of either, with its arguments: what it leaves of a buffer, and what it answers
pub data Call : Type 0 where
  by_tolerance : (e : ℕ) → Call
  -- "in demand 3's lists each call may have another"
  by_days : (days : ℕ) → List Row → Call

abbrev pub left_by : List ℕ → Call → List ℕ
left_by b (by_tolerance e) = aged b e
left_by b (by_days days rows) = aged_by_days b days rows

abbrev pub answered : List ℕ → Call → Answer ℕ
answered b (by_tolerance e) = age_answer b e
answered b (by_days days rows) = days_answer b days rows

-- The tolerance that a call applies to an accepted record of a kind, in its unit: none if check 10 turns it away, or 22 or 23 its table, or if its days give
-- none (`turned_away` of Laws/Step.antt and the laws below it).
unfoldable pub applies : Kind → Call → Option ℕ
applies K (by_tolerance e) = cond (leb e K.top) (some e) none
applies K (by_days days rows) = unless (load_refusal rows) none (days_apply K days rows)
