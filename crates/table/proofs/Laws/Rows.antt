-- The last row whose day isn't above the asked one: how the code finds it, and what it is.
use Rattle.std.specs.Prelude.{◌≡◌, ◌↔◌, ◌⊎◌, Bool, cond, ℕ, ◌<◌, ◌≤◌, leb, map, reverse, option_map, find, Option as Optional, Some, None, suc, ◌+◌, ◌-◌}
use Rattle.std.proofs.Math.Path.{refl, ap}
use Rattle.std.proofs.Common.{sym, ◌∙◌, le-leb, arith}
use Rattle.std.proofs.Math.Logic.{inl, inr, ⊎_elim}
use Rattle.std.proofs.Math.Bool.{true, false}
use mathlib.Core.List.{List, [], ◌∷◌, ◌++◌}
use Rattle.std.proofs.Math.Option.{Option, some, none}
use Rattle.std.proofs.lemmas.Bool.{lt-leb}
use Rattle.std.proofs.lemmas.List.{reverse-append}
use Rattle.std.proofs.lemmas.List.Folds.{find-append}
use Rattle.std.specs.Option.{option_or}
use Rattle.distance.specs.Integers.Tests.{Test, holds, fails, test}
use Rattle.distance.specs.Laws.All.{All, all_none, all_more}
use Rattle.record.specs.Checks.{Row, load_refusal}
use Rattle.record.specs.Answers.{gives, turns_away}
use Rattle.record.proofs.Laws.First.{some_none, some_same}
use Rattle.table.specs.Table.{last_row, days_give, tolerance_answer, IsLastRow}
use Rattle.distance.specs.Options.{option_by}
use Rattle.table.specs.Answers.{row_of, tolerance_of}
use Rattle.table.specs.declared.Row.{Row as RowStruct}
use Rattle.format.specs.Format.{each}
use Rattle.format.proofs.Laws.Each.{each_more}

-- ---- one row more: it decides where its day isn't above, and else the rows before it do
module _ (d : ℕ) where
  pub last_decides : (so_far : Option ℕ) (rows : List Row) (r : Row) → last_row so_far (rows ++ r ∷ []) d ≡ cond (leb r.day d) (some r.row_tolerance) (last_row so_far rows d)
  unfolding last_row
  last_decides so_far [] r = refl
  last_decides so_far (q ∷ rows) r = last_decides (cond (leb q.day d) (some q.row_tolerance) so_far) rows r

  -- of the first n rows of a table, by their positions
  module _ (row : ℕ → Row) (n : ℕ) where
    by_last : 0 < n → days_give (each row 0 n) d ≡ cond (leb (row (n - 1)).day d) (some (row (n - 1)).row_tolerance) (days_give (each row 0 (n - 1)) d)
    by_last h =
        let m : n ≡ suc (n - 1) = omega arith in
        let start : 0 + (n - 1) ≡ n - 1 = omega arith in
        let more : each row 0 n ≡ each row 0 (n - 1) ++ row (n - 1) ∷ [] = ap (each row 0) m ∙ each_more row 0 (n - 1) ∙ rw start refl in
        ap (λ (l : List Row). days_give l d) more ∙ last_decides none (each row 0 (n - 1)) (row (n - 1))

    pub last_applies : 0 < n → (row (n - 1)).day ≤ d → some (row (n - 1)).row_tolerance ≡ days_give (each row 0 n) d
    last_applies h l = sym (by_last h ∙ rw (le-leb (row (n - 1)).day d l) refl)

    pub last_later : 0 < n → d < (row (n - 1)).day → days_give (each row 0 n) d ≡ days_give (each row 0 (n - 1)) d
    last_later h l = by_last h ∙ rw (lt-leb (row (n - 1)).day d l) refl

    pub none_left : n ≡ 0 → none ≡ days_give (each row 0 n) d
    unfolding last_row each
    none_left e = rw e refl

  -- .. so it is the first such row from the end
  abbrev passes : RowStruct → Bool
  passes r = leb r.day.0 d

  abbrev from_end : Optional RowStruct → Option ℕ → Option ℕ
  from_end None so_far = so_far
  from_end (Some r) so_far = some r.tolerance.0

  found_from : (so_far : Option ℕ) (rows : List RowStruct) → from_end (find passes (reverse rows)) so_far ≡ last_row so_far (map row_of rows) d
  unfolding last_row
  found_from so_far [] = refl
  found_from so_far (r ∷ rows) =
      rw (reverse-append (r ∷ []) rows, find-append passes (reverse rows) (r ∷ [])) (go (passes r) (find passes (reverse rows)) ∙ found_from (cond (passes r) (some r.tolerance.0) so_far) rows)
    where
      go : (b : Bool) (o : Optional RowStruct) → from_end (option_or o (cond b (Some r) None)) so_far ≡ from_end o (cond b (some r.tolerance.0) so_far)
      go true None = refl
      go false None = refl
      go b (Some q) = refl

  pub last_found : (rows : List RowStruct) → option_by tolerance_of (option_map (λ r. r.tolerance) (find passes (reverse rows))) ≡ days_give (map row_of rows) d
  last_found rows = tolerances (find passes (reverse rows)) ∙ found_from none rows
    where
      tolerances : (o : Optional RowStruct) → option_by tolerance_of (option_map (λ r. r.tolerance) o) ≡ from_end o none
      tolerances None = refl
      tolerances (Some r) = refl

-- ---- what a table is asked for a day
pub day_refused : (rows : List Row) (d k : ℕ) → load_refusal rows ≡ some k → turns_away k ≡ tolerance_answer rows d
day_refused rows d k h = rw h refl

pub day_given : (rows : List Row) (d : ℕ) → load_refusal rows ≡ none → gives (days_give rows d) ≡ tolerance_answer rows d
day_given rows d h = rw h refl

-- ---- THE LAST ROW WHOSE DAY ISN'T ABOVE THE ASKED ONE
module _ (d : ℕ) where
  abbrev Later : List Row → Type 0
  Later = All (λ (r : Row). d < r.day)

  later_none : {rows : List Row} (so_far : Option ℕ) → Later rows → last_row so_far rows d ≡ so_far
  unfolding last_row
  later_none so_far all_none = refl
  later_none so_far (all_more {m = r} h t) = rw (lt-leb r.day d h) (later_none so_far t)

  is_last : (so_far : Option ℕ) (before : List Row) (r : Row) {after : List Row} → r.day ≤ d → Later after → last_row so_far (before ++ r ∷ after) d ≡ some r.row_tolerance
  unfolding last_row
  is_last so_far [] r {after} h t = ap (λ (b : Bool). last_row (cond b (some r.row_tolerance) so_far) after d) (le-leb r.day d h) ∙ later_none (some r.row_tolerance) t
  is_last so_far (q ∷ before) r h t = is_last (cond (leb q.day d) (some q.row_tolerance) so_far) before r h t

  one_more : {e : ℕ} (r : Row) {rows : List Row} → IsLastRow d e rows → IsLastRow d e (r ∷ rows)
  one_more r i = record { before = r ∷ i.before; row = i.row; after = i.after; stands = ap (λ (l : List Row). r ∷ l) i.stands; not_above = i.not_above; later = i.later; gives_it = i.gives_it }

  found : (e : ℕ) (so_far : Option ℕ) (rows : List Row) → last_row so_far rows d ≡ some e → IsLastRow d e rows ⊎ ((so_far ≡ some e) × Later rows)
  unfolding last_row
  found e so_far [] h = inr (h, all_none)
  found e so_far (r ∷ rows) h = go (test r.day d) h (λ given. found e given rows)
    where
      go : {b : Bool} → Test r.day d b → last_row (cond b (some r.row_tolerance) so_far) rows d ≡ some e
          → ((given : Option ℕ) → last_row given rows d ≡ some e → IsLastRow d e rows ⊎ ((given ≡ some e) × Later rows)) → IsLastRow d e (r ∷ rows) ⊎ ((so_far ≡ some e) × Later (r ∷ rows))
      go (holds k) h rest = ⊎_elim (λ i. inl (one_more r i)) (λ (z, t). inl (record { before = []; row = r; after = rows; stands = refl; not_above = k; later = t; gives_it = some_same z })) (rest (some r.row_tolerance) h)
      go (fails k) h rest = ⊎_elim (λ i. inl (one_more r i)) (λ (z, t). inr (z, all_more k t)) (rest so_far h)

  -- a tolerance is given exactly if it is that of the last row whose day isn't above, ..
  pub last_exactly : (e : ℕ) (rows : List Row) → days_give rows d ≡ some e ↔ IsLastRow d e rows
  last_exactly e rows = (λ h. ⊎_elim (λ i. i) (λ (z, t). absurd (some_none (sym z))) (found e none rows h), λ i. ap (λ (l : List Row). days_give l d) i.stands ∙ is_last none i.before i.row i.not_above i.later ∙ ap some i.gives_it)

  -- what such a row is
  pub last_row_gives : (e : ℕ) (rows : List Row) → IsLastRow d e rows
      ↔ ((before : List Row) × (r : Row) × (after : List Row)
      × (rows ≡ before ++ r ∷ after) × (r.day ≤ d) × All (λ (q : Row). d < q.day) after × (r.row_tolerance ≡ e))
  last_row_gives e rows = (
    λ i. (i.before, i.row, i.after, i.stands, i.not_above, i.later, i.gives_it),
    λ p. record { before = p.0; row = p.1; after = p.2; stands = p.3; not_above = p.4; later = p.5; gives_it = p.6 },
  )

  given_stays : (x : ℕ) (rows : List Row) → last_row (some x) rows d ≡ none → ⊥
  unfolding last_row
  given_stays x [] h = some_none h
  given_stays x (r ∷ rows) h = go (leb r.day d) h (λ y. given_stays y rows)
    where
      go : (b : Bool) → last_row (cond b (some r.row_tolerance) (some x)) rows d ≡ none → ((y : ℕ) → last_row (some y) rows d ≡ none → ⊥) → ⊥
      go true h rest = rest r.row_tolerance h
      go false h rest = rest x h

  none_later : (rows : List Row) → last_row none rows d ≡ none → Later rows
  unfolding last_row
  none_later [] h = all_none
  none_later (r ∷ rows) h = go (test r.day d) h (none_later rows)
    where
      go : {b : Bool} → Test r.day d b → last_row (cond b (some r.row_tolerance) none) rows d ≡ none → (last_row none rows d ≡ none → Later rows) → Later (r ∷ rows)
      go (holds k) h rest = absurd (given_stays r.row_tolerance rows h)
      go (fails k) h rest = all_more k (rest h)

  -- .. and none exactly if all are above
  pub none_exactly : (rows : List Row) → days_give rows d ≡ none ↔ All (λ (r : Row). d < r.day) rows
  none_exactly rows = (none_later rows, later_none none)
