-- AN AGING OF THE SAME TRAIL IN CENTIMETRES AND IN MILLIMETRES: the same count or refusal, and the same trail again, with its fixes kept at the same positions and
-- its mark ten times as great.
use Rattle.std.specs.Prelude.{◌≡◌, refl, Bool, true, false, cond, List, map, ℕ, ◌*◌, ◌<◌, ◌≤◌, max, leb}
use Rattle.std.proofs.Common.{sym, subst, ◌∙◌, ap, arith, eq-eqb, ne_eqb}
use Rattle.std.proofs.Math.Option.{Option, some, none}
use Rattle.distance.specs.Fix.{Fix}
use Rattle.distance.specs.Tenfold.{tenfold_fix}
use Rattle.distance.specs.Laws.All.{All, all_none, all_more}
use Rattle.distance.proofs.Laws.All.{all_map}
use Rattle.format.specs.Kinds.{Kind, trail, millimetre_trail}
use Rattle.format.specs.Format.{never, mark_field, fixes}
use Rattle.format.proofs.Laws.RoundTrip.{AreBytes}
use Rattle.record.specs.Checks.{Row, load_refusal}
use Rattle.record.specs.Answers.{gives, unless}
use Rattle.record.specs.Tenfold.{tenfold_mark, Tenfold}
use Rattle.record.proofs.Laws.Accepted.{GoodMark, mark_applied, mark_never_applied, accepted_good}
use Rattle.record.proofs.Laws.Tenfold.{tenfold_mark_never, tenfold_mark_applied}
use Rattle.table.specs.Table.{last_row}
use Rattle.thinning.specs.Thinning.{thinning, Thinned}
use Rattle.thinning.specs.Marks.{kept_by}
use Rattle.thinning.proofs.Laws.KeptBy.{same_positions}
use Rattle.thinning.proofs.Laws.Mapped.{mapped}
use Rattle.thinning.proofs.Laws.Tenfold.{thinning_scaled}
use Rattle.aging.specs.Aging.{Call, by_tolerance, by_days, left_by, answered, new_mark, thinned_record, in_unit, days_apply, count_at, record_at, applies}
use Rattle.aging.specs.Tenfold.{ten_times, TenfoldCall, at_ten_times, by_same_days, by_refused_table, both_too_high}
use Rattle.aging.proofs.Laws.Aging.{age_none, age_10, age_refused, age_done}
use Rattle.aging.proofs.Laws.Days.{days_loading, days_refused, days_done}
use Rattle.aging.proofs.Laws.Step.{thins, step, applies_low, turned_applies, others_apply}

-- ---- by days: a row times ten is a tolerance of kind 2, so that the lesser of the two is the row times ten
abbrev Tens : Option ℕ → Type 0
Tens row = in_unit millimetre_trail row ≡ ten_times (in_unit trail row)

row_tenfold : (row : ℕ) → 10 * row ≤ millimetre_trail.top → Tens (some row)
row_tenfold row h = ap some (omega arith)

rows_tenfold : {rows : List Row} → All (λ (r : Row). 10 * r.row_tolerance ≤ millimetre_trail.top) rows → (so_far : Option ℕ) → Tens so_far → (days : ℕ) → Tens (last_row so_far rows days)
unfolding last_row
rows_tenfold all_none so_far h days = h
rows_tenfold (all_more {m = r} g t) so_far h days = rows_tenfold t (cond (leb r.day days) (some r.row_tolerance) so_far) (go (leb r.day days)) days
  where
    go : (b : Bool) → Tens (cond b (some r.row_tolerance) so_far)
    go true = row_tenfold r.row_tolerance g
    go false = h

days_tenfold : (days : ℕ) {rows : List Row} → All (λ (r : Row). 10 * r.row_tolerance ≤ millimetre_trail.top) rows → days_apply millimetre_trail days rows ≡ ten_times (days_apply trail days rows)
days_tenfold days g = rows_tenfold g none refl days

-- ---- WHAT A CALL APPLIES: ten times as much
pub applies_tenfold : {q r : Call} → TenfoldCall q r → applies millimetre_trail r ≡ ten_times (applies trail q)
unfolding applies
applies_tenfold (at_ten_times {e} h) = others_apply millimetre_trail (10 * e) h ∙ ap ten_times (sym (others_apply trail e (omega arith)))
applies_tenfold (by_same_days {days} {rows} g) = go (load_refusal rows)
  where
    go : (r : Option ℕ) → unless r none (days_apply millimetre_trail days rows) ≡ ten_times (unless r none (days_apply trail days rows))
    go none = days_tenfold days g
    go (some k) = refl
applies_tenfold (by_refused_table {days} {k} {rows} h) = turned_applies millimetre_trail (by_days days rows) k h ∙ ap ten_times (sym (turned_applies trail (by_days days rows) k h))
applies_tenfold (both_too_high {e} {d} h k) = turned_applies millimetre_trail (by_tolerance d) 10 (refl, k) ∙ ap ten_times (sym (turned_applies trail (by_tolerance e) 10 (refl, h)))

-- ---- the mark
mark_again : {m : ℕ} (e : ℕ) → GoodMark trail.top m → 10 * e ≤ millimetre_trail.top → new_mark (tenfold_mark m) (10 * e) ≡ tenfold_mark (new_mark m e)
unfolding new_mark
mark_again {m} e (mark_applied h) k =
    rw (tenfold_mark_applied m (omega arith), ne_eqb m never (λ z. omega arith), ne_eqb (10 * m) never (λ z. omega arith), tenfold_mark_applied (max m e) (omega arith)) (omega arith)
mark_again {m} e (mark_never_applied h) k = rw (tenfold_mark_never m h, eq-eqb m never h) (sym (tenfold_mark_applied e (omega arith)))

-- ---- the same trail b in centimetres and c in millimetres
module _ (b c : List ℕ) (t : Tenfold b c) where
  thinning_tenfold : (e : ℕ) → thinning (10 * e) (fixes c) ≡ mapped tenfold_fix (thinning e (fixes b))
  thinning_tenfold e = ap (thinning (10 * e)) t.fixes_tenfold ∙ thinning_scaled 10 e (fixes b) (omega arith)

  count_tenfold : (x : Option ℕ) → count_at (ten_times x) c ≡ count_at x b
  count_tenfold none = refl
  count_tenfold (some e) = ap (λ (m : Thinned Fix). m.count) (thinning_tenfold e)

  -- a table that is turned away is turned away for both
  table_tenfold : (days k : ℕ) (rows : List Row) → load_refusal rows ≡ some k → answered c (by_days days rows) ≡ answered b (by_days days rows)
  table_tenfold days k rows h =
      sym (days_refused c days rows k (days_loading c rows t.accepted_tenfold.accepted ∙ h)).0
      ∙ (days_refused b days rows k (days_loading b rows t.accepted_before.accepted ∙ h)).0

  -- the count, or the refusal
  answered_tenfold : {q r : Call} → TenfoldCall q r → answered c r ≡ answered b q
  answered_tenfold (at_ten_times {e} h) =
      sym (age_done c (10 * e) (age_none c (10 * e) t.accepted_tenfold.accepted (rw t.kind_tenfold h))).0
      ∙ ap gives (count_tenfold (some e)) ∙ (age_done b e (age_none b e t.accepted_before.accepted (rw t.kind_before (omega arith)))).0
  answered_tenfold (by_same_days {days} {rows} g) = go (load_refusal rows) refl
    where
      go : (r : Option ℕ) → load_refusal rows ≡ r → answered c (by_days days rows) ≡ answered b (by_days days rows)
      go (some k) h = table_tenfold days k rows h
      go none h =
          sym (days_done c days rows (ten_times (days_apply trail days rows)) (rw t.kind_tenfold (days_tenfold days g)) (days_loading c rows t.accepted_tenfold.accepted ∙ h)).0
          ∙ ap gives (count_tenfold (days_apply trail days rows)) ∙ (days_done b days rows (days_apply trail days rows) (rw t.kind_before refl) (days_loading b rows t.accepted_before.accepted ∙ h)).0
  answered_tenfold (by_refused_table {days} {k} {rows} h) = table_tenfold days k rows h
  answered_tenfold (both_too_high {e} {d} h k) =
      sym (age_refused c d 10 (age_10 c d t.accepted_tenfold.accepted (rw t.kind_tenfold k))).0
      ∙ (age_refused b e 10 (age_10 b e t.accepted_before.accepted (rw t.kind_before h))).0

  -- ---- what is left is the same trail
  module _ (bytes_b : AreBytes b) (bytes_c : AreBytes c) where
    thinned_tenfold : (e : ℕ) → 10 * e ≤ millimetre_trail.top → Tenfold (thinned_record b e) (thinned_record c (10 * e))
    thinned_tenfold e h =
        let p = thins b e bytes_b t.accepted_before (rw t.kind_before (omega arith)) in
        let q = thins c (10 * e) bytes_c t.accepted_tenfold (rw t.kind_tenfold h) in
        let good : GoodMark trail.top (mark_field b) = subst (λ (K : Kind). GoodMark K.top (mark_field b)) t.kind_before (accepted_good b t.accepted_before).mark in
        record {
          kind_before = p.same_kind ∙ t.kind_before;
          kind_tenfold = q.same_kind ∙ t.kind_tenfold;
          accepted_before = p.still_accepted;
          accepted_tenfold = q.still_accepted;
          fixes_tenfold = q.fixes_are ∙ ap (λ (m : Thinned Fix). m.kept) (thinning_tenfold e) ∙ ap (map tenfold_fix) (sym p.fixes_are);
          mark_tenfold = q.mark_is ∙ ap (λ (m : ℕ). new_mark m (10 * e)) t.mark_tenfold ∙ mark_again e good h ∙ ap tenfold_mark (sym p.mark_is);
        }

    left_tenfold : {q r : Call} → TenfoldCall q r → Tenfold (left_by b q) (left_by c r)
    left_tenfold {q} {r} k = rw (step b q t.accepted_before, step c r t.accepted_tenfold, t.kind_before, t.kind_tenfold, applies_tenfold k) (go (applies trail q) (applies_tenfold k))
      where
        go : (x : Option ℕ) → applies millimetre_trail r ≡ ten_times x → Tenfold (record_at x b) (record_at (ten_times x) c)
        go none y = t
        go (some e) y = thinned_tenfold e (applies_low millimetre_trail r (10 * e) y)

-- ---- THE LAW. Of the same trail b in centimetres and c in millimetres, and of the same aging q and r in the two units.
pub record AgedTenfold (b c : List ℕ) (q r : Call) : Type 0 where
  -- the count, or the refusal
  pub same_answer : answered c r ≡ answered b q
  -- the same trail again: the fixes that are kept, tenfold, and the mark
  pub same_trail : Tenfold (left_by b q) (left_by c r)
  -- and where they stood: marks that tell it of b tell it of c
  pub same_positions : (marks : List Bool) → fixes (left_by b q) ≡ kept_by marks 0 (fixes b) → fixes (left_by c r) ≡ kept_by marks 0 (fixes c)

pub aged_tenfold : (b c : List ℕ) → AreBytes b → AreBytes c → Tenfold b c → {q r : Call} → TenfoldCall q r → AgedTenfold b c q r
aged_tenfold b c bytes_b bytes_c t k =
    let left = left_tenfold b c t bytes_b bytes_c k in
    record {
      same_answer = answered_tenfold b c t k;
      same_trail = left;
      same_positions = (λ marks e. same_positions marks tenfold_fix (fixes b) t.fixes_tenfold left.fixes_tenfold e);
    }

-- ---- WHAT THE TYPES SAY, without their names: what an aging in both units promises, ..
pub aged_tenfold_gives : (b c : List ℕ) (q r : Call) → AgedTenfold b c q r → (answered c r ≡ answered b q) × Tenfold (left_by b q) (left_by c r)
    × ((marks : List Bool) → fixes (left_by b q) ≡ kept_by marks 0 (fixes b) → fixes (left_by c r) ≡ kept_by marks 0 (fixes c))
aged_tenfold_gives b c q r h = (h.same_answer, h.same_trail, h.same_positions)

-- .. and which two agings are the same: at least these
pub tenfold_call_if : ((e : ℕ) → e ≤ 6000 → TenfoldCall (by_tolerance e) (by_tolerance (10 * e)))
    × ((days : ℕ) (rows : List Row) → All (λ (r : Row). r.row_tolerance ≤ 6000) rows → TenfoldCall (by_days days rows) (by_days days rows))
    × ((days k : ℕ) (rows : List Row) → load_refusal rows ≡ some k → TenfoldCall (by_days days rows) (by_days days rows))
    × ((e d : ℕ) → 32000 < e → 60000 < d → TenfoldCall (by_tolerance e) (by_tolerance d))
tenfold_call_if = (
  λ e h. at_ten_times {e = e} (omega arith),
  λ days rows h. by_same_days (all_map (λ r k. omega arith) h),
  λ days k rows h. by_refused_table h,
  λ e d h k. both_too_high h k,
)
