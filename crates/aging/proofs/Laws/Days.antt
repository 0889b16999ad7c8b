-- Aging by days: the record's checks and then the table's, a row in a kind's unit, and what halls may count on.
use Rattle.std.specs.Prelude.{◌≡◌, refl, List, [], ◌∷◌, ℕ, ◌*◌, ◌<◌, ◌≤◌}
use Rattle.std.proofs.Common.{sym, ◌∙◌, ap, mul-le-mul, mul-le-mul_left, arith}
use Rattle.std.proofs.Math.Option.{Option, some, none}
use Rattle.format.specs.Kinds.{Kind}
use Rattle.format.specs.Format.{kind_of}
use Rattle.format.proofs.Laws.Kinds.{IsKind}
use Rattle.record.specs.Checks.{Row, Check, bad_row_count, bad_rows, reading, read_refusal, checks, IsAccepted, with_table, load_refusal}
use Rattle.record.specs.Answers.{gives, turns_away, answer}
use Rattle.record.proofs.Laws.Head.{asks}
use Rattle.record.proofs.Laws.First.{none_first, some_first, none_front, reading_alone, loading_alone, some_none}
use Rattle.table.specs.Table.{last_row, days_give, tolerance_answer, built_in}
use Rattle.table.proofs.Laws.Lent.{built_in_accepted}
use Rattle.table.proofs.Laws.Days.{NoLess, more_days, from_the_start, rows_until, same_until}
use Rattle.aging.specs.Aging.{in_unit, days_apply, days_refusal, apply_answer, days_answer, aged_by_days, count_at, record_at, four_rows_answer, four_rows_aged}
use Rattle.aging.specs.Laws.Days.{answer_in_unit}

-- ---- the checks: the reader's, and then the table's
abbrev own_checks : List Check
own_checks = bad_row_count ∷ bad_rows ∷ []

module _ (b : List ℕ) (rows : List Row) where
  -- what the reader turns away aging by days turns away by the same number, whatever the table is
  pub days_reader : (k : ℕ) → read_refusal b ≡ some k → days_refusal b rows ≡ some k
  days_reader k h = some_first (asks b (with_table rows)) (checks reading) own_checks k (reading_alone b (with_table rows) ∙ h)

  -- and of an accepted record it turns away what loading does
  pub days_loading : read_refusal b ≡ none → days_refusal b rows ≡ load_refusal rows
  days_loading h = none_first (asks b (with_table rows)) (checks reading) own_checks (reading_alone b (with_table rows) ∙ h) ∙ loading_alone b [] (with_table rows) (with_table rows) refl

  -- what passes is accepted
  pub days_accepted : days_refusal b rows ≡ none → IsAccepted b
  days_accepted h = record { accepted = sym (reading_alone b (with_table rows)) ∙ none_front (asks b (with_table rows)) (checks reading) own_checks h }

  pub table_accepted : days_refusal b rows ≡ none → load_refusal rows ≡ none
  table_accepted h = sym (days_loading (days_accepted h).accepted) ∙ h

-- ---- the answer and the buffer, case by case
module _ (b : List ℕ) (d : ℕ) (rows : List Row) where
  pub days_refused : (k : ℕ) → days_refusal b rows ≡ some k → (turns_away k ≡ days_answer b d rows) × (b ≡ aged_by_days b d rows)
  days_refused k h = (rw h refl, rw h refl)

  pub days_done : (t : Option ℕ) → days_apply (kind_of b) d rows ≡ t → days_refusal b rows ≡ none → (gives (count_at t b) ≡ days_answer b d rows) × (record_at t b ≡ aged_by_days b d rows)
  days_done t e h = (rw (h, e) refl, rw (h, e) refl)

  -- the same by what the days apply
  pub turned_days : (k : ℕ) → apply_answer b d rows ≡ turns_away k → (turns_away k ≡ days_answer b d rows) × (b ≡ aged_by_days b d rows)
  turned_days k h = go (days_refusal b rows) refl h
    where
      go : (r : Option ℕ) → days_refusal b rows ≡ r → answer r (days_apply (kind_of b) d rows) ≡ turns_away k → (turns_away k ≡ days_answer b d rows) × (b ≡ aged_by_days b d rows)
      go (some n) e z = days_refused k (e ∙ ap some (let y : n ≡ k = cc in y))
      go none e z = absurd (let y : ◌≡◌ {A = ℕ} 0 1 = cc in omega arith)

  pub applied_days : (t : Option ℕ) → apply_answer b d rows ≡ gives t → IsAccepted b × (gives (count_at t b) ≡ days_answer b d rows) × (record_at t b ≡ aged_by_days b d rows)
  applied_days t h = go (days_refusal b rows) refl h
    where
      go : (r : Option ℕ) → days_refusal b rows ≡ r → answer r (days_apply (kind_of b) d rows) ≡ gives t → IsAccepted b × (gives (count_at t b) ≡ days_answer b d rows) × (record_at t b ≡ aged_by_days b d rows)
      go (some n) e z = absurd (let y : ◌≡◌ {A = ℕ} 0 1 = cc in omega arith)
      go none e z = let s = days_done t (let y : days_apply (kind_of b) d rows ≡ t = cc in y) e in (days_accepted b rows e, s.0, s.1)

-- ---- a row in a kind's unit fits 32 bits, and the lesser of it and the kind's greatest is taken
module _ (K : Kind) (is : IsKind K) (row : ℕ) where
  pub unit_fits : row < 65536 → K.per_centimetre * row < 4294967296
  unit_fits h = let p : row ≤ 65535 = omega arith in omega (arith, mul-le-mul is.few_units p)

  pub unit_below : K.per_centimetre * row < K.top → some (K.per_centimetre * row) ≡ in_unit K (some row)
  unit_below h = ap some (omega arith)

  pub unit_above : K.top ≤ K.per_centimetre * row → some K.top ≡ in_unit K (some row)
  unit_above h = ap some (omega arith)

pub record_refused : (b : List ℕ) (d k : ℕ) (rows : List Row) → read_refusal b ≡ some k → turns_away k ≡ apply_answer b d rows
record_refused b d k rows h = rw (days_reader b rows k h) refl

pub table_answers : (b : List ℕ) (d : ℕ) (rows : List Row) → read_refusal b ≡ none → answer_in_unit (kind_of b) (tolerance_answer rows d) ≡ apply_answer b d rows
table_answers b d rows h = go (load_refusal rows) refl ∙ ap (λ (r : Option ℕ). answer r (days_apply (kind_of b) d rows)) (sym (days_loading b rows h))
  where
    go : (r : Option ℕ) → load_refusal rows ≡ r → answer_in_unit (kind_of b) (tolerance_answer rows d) ≡ answer (load_refusal rows) (days_apply (kind_of b) d rows)
    go none e = rw e refl
    go (some k) e = rw e refl

-- ---- THE BUILT-IN TABLE: aging by it is what aging by days was
pub as_before : (b : List ℕ) (d : ℕ) → (days_answer b d built_in ≡ four_rows_answer b d) × (aged_by_days b d built_in ≡ four_rows_aged b d)
unfolding last_row
as_before b d = go (read_refusal b) refl
  where
    go : (r : Option ℕ) → read_refusal b ≡ r → (days_answer b d built_in ≡ four_rows_answer b d) × (aged_by_days b d built_in ≡ four_rows_aged b d)
    go (some k) h = rw (days_reader b built_in k h, h) (refl, refl)
    go none h = rw (days_loading b built_in h ∙ built_in_accepted, h) (refl, refl)

-- ---- WHAT HALLS MAY COUNT ON, in every unit and of every table that is accepted. More days never apply less, ..
unit_no_less : (K : Kind) (e f : Option ℕ) → NoLess e f → NoLess (in_unit K e) (in_unit K f)
unit_no_less K none f h = tt
unit_no_less K (some e) none h = absurd h
unit_no_less K (some e) (some f) h = omega (arith, mul-le-mul_left K.per_centimetre h)

pub more_days_apply : (K : Kind) (rows : List Row) (d l : ℕ) → load_refusal rows ≡ none → d ≤ l → NoLess (days_apply K d rows) (days_apply K l rows)
more_days_apply K rows d l h less = unit_no_less K (days_give rows d) (days_give rows l) (more_days d l less rows h)

-- .. a table with a row for day 0 applies from the start, ..
pub applies_from_the_start : (K : Kind) (r : Row) (rows : List Row) (d : ℕ) → r.day ≡ 0 → days_apply K d (r ∷ rows) ≡ none → ⊥
applies_from_the_start K r rows d e h = go (days_give (r ∷ rows) d) refl h
  where
    go : (t : Option ℕ) → days_give (r ∷ rows) d ≡ t → in_unit K t ≡ none → ⊥
    go none z y = from_the_start r rows d e z
    go (some x) z y = some_none y

-- .. and two tables that agree up to a day age alike up to it
pub age_alike : (b : List ℕ) (day d : ℕ) (rows others : List Row) → load_refusal rows ≡ none → load_refusal others ≡ none → rows_until day rows ≡ rows_until day others → d ≤ day
    → (days_answer b d rows ≡ days_answer b d others) × (aged_by_days b d rows ≡ aged_by_days b d others)
age_alike b day d rows others h k e less = go (read_refusal b) refl
  where
    go : (r : Option ℕ) → read_refusal b ≡ r → (days_answer b d rows ≡ days_answer b d others) × (aged_by_days b d rows ≡ aged_by_days b d others)
    go (some n) z = rw (days_reader b rows n z, days_reader b others n z) (refl, refl)
    go none z = rw (days_loading b rows z ∙ h, days_loading b others z ∙ k, same_until day d rows others e less) (refl, refl)
