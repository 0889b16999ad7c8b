-- THE CLAIM ABOUT THE DEAREST TRAIL is so, of every n from 1; and what it gives.
use Rattle.std.specs.Prelude.{◌≡◌, refl, true, false, List, ◌++◌, map, ℕ, ◌+◌, ◌*◌, ◌-◌, ◌/◌, ◌≤◌, length, drop}
use Rattle.std.proofs.Common.{sym, ◌∙◌, ap, arith}
use Rattle.std.proofs.Math.Option.{Option, some, none}
use Rattle.std.proofs.Math.Seq.{drop-append_seam}
use Rattle.distance.specs.Fix.{Fix}
use Rattle.distance.specs.Mirror.{mirrored_fix}
use Rattle.format.specs.declared.Kind.TheVariants.{Trail}
use Rattle.format.specs.Kinds.{trail}
use Rattle.format.specs.Format.{never, kind_of, record_length, mark_field, count_field, fixes, fix_at, record_bytes}
use Rattle.format.proofs.Laws.Kinds.{is_kind}
use Rattle.format.proofs.Laws.Each.{length_each}
use Rattle.format.proofs.Laws.Layout.{length_record}
use Rattle.record.specs.Answers.{gives, turns_away, answer, unless}
use Rattle.record.proofs.Laws.First.{gives_no_refusal, answer_gives}
use Rattle.thinning.specs.Thinning.{Thinned, thinning, thinned, greatest_count}
use Rattle.thinning.proofs.Laws.Count.{count_at_most}
use Rattle.thinning.proofs.Laws.Mirror.{thinning_mirrored}
use Rattle.aging.specs.Aging.{Call, by_tolerance, by_days, answered, age_refusal, age_answer, aged, days_refusal, days_apply, count_at, new_mark, thinned_record}
use Rattle.aging.proofs.Laws.Aging.{age_none, age_done}
use Rattle.dearest.specs.Dearest.{dearest, dearest_refusal, dearest_answer, dearest_marked, dearest_written, dearest_count}
use Rattle.dearest.specs.Claim.{CostsMost}
use Rattle.dearest.proofs.Laws.Counts.{dearest_thinning}
use Rattle.dearest.proofs.Laws.Writing.{length_dearest, dearest_fits, dearest_reads_back, dearest_passes}

-- ---- no record of n fixes counts more
record_count : (b : List ℕ) (e : ℕ) → (thinning e (fixes b)).count ≤ greatest_count (count_field b)
record_count b e = rw (length_each (fix_at (kind_of b) b) 0 (count_field b)) at (count_at_most e (fixes b))

applied_count : (b : List ℕ) (t : Option ℕ) → count_at t b ≤ greatest_count (count_field b)
applied_count b none = omega arith
applied_count b (some e) = record_count b e

call_count : (b : List ℕ) (c : Call) (k : ℕ) → answered b c ≡ gives k → k ≤ greatest_count (count_field b)
call_count b (by_tolerance e) k h = rw (answer_gives (age_refusal b e) (thinning e (fixes b)).count k h).1 at (record_count b e)
call_count b (by_days days rows) k h =
    let t = days_apply (kind_of b) days rows in
    rw (answer_gives (days_refusal b rows) (count_at t b) k h).1 at (applied_count b t)

-- ---- the aging of the record that was written
-- a record of kind 1 marked never, of which a thinning keeps all fixes
all_kept : (b : List ℕ) (n : ℕ) → thinned 1 (fixes b) ≡ dearest n → kind_of b ≡ trail → mark_field b ≡ never
    → thinned_record b 1 ≡ record_bytes trail 1 (dearest n) ++ drop (record_length trail n) b
unfolding thinned_record new_mark
all_kept b n kept kind mark = rw (kept, kind, mark, length_dearest n) refl

module _ (n : ℕ) (out : List ℕ) (h : dearest_refusal n out ≡ none) where
  abbrev b : List ℕ
  b = dearest_written n out

  measured : thinning 1 (fixes b) ≡ record { kept = dearest n; count = greatest_count n }
  measured = ap (thinning 1) (dearest_reads_back n out h).fixes_are ∙ dearest_thinning n (dearest_fits n out h).0

  passes : age_refusal b 1 ≡ none
  passes = let r = dearest_reads_back n out h in age_none b 1 r.is_accepted.accepted (rw r.of_kind (omega arith))

  pub aging_counts : age_answer b 1 ≡ gives (greatest_count n)
  aging_counts = sym (age_done b 1 passes).0 ∙ ap (λ (t : Thinned Fix). gives t.count) measured

  -- after the record the output is as it was
  rest : drop (record_length trail n) b ≡ drop (record_length trail n) out
  rest =
      let l = record_bytes trail never (dearest n) in
      let long : length l ≡ record_length trail n = length_record trail (is_kind Trail) never (dearest n) ∙ rw (length_dearest n) refl in
      rw h (ap (λ (m : ℕ). drop m (l ++ drop (record_length trail n) out)) (sym long) ∙ drop-append_seam l (drop (record_length trail n) out))

  pub aging_leaves : aged b 1 ≡ dearest_marked 1 n out
  aging_leaves =
      let r = dearest_reads_back n out h in
      sym (age_done b 1 passes).1
      ∙ all_kept b n (ap (λ (t : Thinned Fix). t.kept) measured) r.of_kind r.is_never
      ∙ ap (λ (l : List ℕ). record_bytes trail 1 (dearest n) ++ l) rest
      ∙ sym (ap (λ (o : Option ℕ). unless o out (record_bytes trail 1 (dearest n) ++ drop (record_length trail n) out)) h)

-- ---- the two calls, one after the other: what the first answers decides
module _ (n : ℕ) (out : List ℕ) where
  pub calls_refused : (k : ℕ) → turns_away k ≡ dearest_answer n out → (turns_away k ≡ dearest_count n out) × (dearest_written n out ≡ dearest_marked 1 n out)
  calls_refused k h = go (dearest_refusal n out) refl h
    where
      go : (o : Option ℕ) → dearest_refusal n out ≡ o → turns_away k ≡ answer o (record_length trail n)
          → (turns_away k ≡ dearest_count n out) × (dearest_written n out ≡ dearest_marked 1 n out)
      go (some j) e h = rw e (h, refl)
      go none e h = absurd (gives_no_refusal (sym h))

  pub calls_done : (m : ℕ) → gives m ≡ dearest_answer n out
      → (age_answer (dearest_written n out) 1 ≡ dearest_count n out) × (aged (dearest_written n out) 1 ≡ dearest_marked 1 n out)
  calls_done m h =
      let e = (answer_gives (dearest_refusal n out) (record_length trail n) m (sym h)).0 in
      (aging_counts n out e ∙ sym (ap (λ (o : Option ℕ). answer o (greatest_count n)) e), aging_leaves n out e)

-- THE CLAIM
pub costs_most : (n : ℕ) → 1 ≤ n → CostsMost n
costs_most n one =
    let all = dearest_thinning n one in
    record {
      counts = ap (λ (t : Thinned Fix). t.count) all;
      none_counts_more = λ b e is. rw (all, ← is) (record_count b e);
      call_counts = aging_counts n;
      call_leaves = aging_leaves n;
      no_call_counts_more = λ b c k is h. rw (← is) (call_count b c k h);
    }

-- ---- WHAT IT GIVES, in plain numbers: of n fixes in an output that has room for them
pub claim_gives : (n : ℕ) → CostsMost n → 1 ≤ n → n ≤ 4096 → (out : List ℕ) → 10 + 8 * n ≤ length out
    → ((thinning 1 (dearest n)).count ≡ (n - 1) * (n - 2) / 2)
    × (age_answer (record_bytes trail 65535 (dearest n) ++ drop (10 + 8 * n) out) 1 ≡ gives ((n - 1) * (n - 2) / 2))
    × (aged (record_bytes trail 65535 (dearest n) ++ drop (10 + 8 * n) out) 1 ≡ record_bytes trail 1 (dearest n) ++ drop (10 + 8 * n) out)
    × ((b : List ℕ) (e : ℕ) → count_field b ≡ n → 2 * (thinning e (fixes b)).count ≤ (n - 1) * (n - 2))
    × ((b : List ℕ) (c : Call) (k : ℕ) → count_field b ≡ n → answered b c ≡ gives k → 2 * k ≤ (n - 1) * (n - 2))
claim_gives n c one small out room =
    let e = dearest_passes n out one small room in
    let after : (mark : ℕ) → dearest_marked mark n out ≡ record_bytes trail mark (dearest n) ++ drop (10 + 8 * n) out = λ mark. rw e refl in (
      c.counts,
      ap (λ (b : List ℕ). age_answer b 1) (sym (after never)) ∙ c.call_counts out e,
      ap (λ (b : List ℕ). aged b 1) (sym (after never)) ∙ c.call_leaves out e ∙ after 1,
      λ b t is. omega (arith, c.none_counts_more b t is, c.counts),
      λ b q k is h. omega (arith, c.no_call_counts_more b q k is h),
    )

-- ---- WITH THE SIGNS THE OTHER WAY ROUND, minus for even i and plus for odd, it is as dear: only the definition, and so the bytes, tell the two apart
pub other_signs : (n : ℕ) → 1 ≤ n → (thinning 1 (map (mirrored_fix (record { in_x = false; in_y = true })) (dearest n))).count ≡ greatest_count n
other_signs n one = ap (λ (t : Thinned Fix). t.count) (thinning_mirrored (record { in_x = false; in_y = true }) 1 (dearest n)) ∙ (costs_most n one).counts
