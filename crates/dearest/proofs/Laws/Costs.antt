-- WHAT THE DEAREST TRAIL COSTS, in plain numbers and without the claim's name: of every n, and of some n in numbers.
use Rattle.std.specs.Prelude.{◌≡◌, refl, cond, List, ◌++◌, ℕ, zero, suc, ◌+◌, ◌*◌, ◌-◌, ◌/◌, ◌%◌, ◌≤◌, eqb, pos, neg_ℤ, ◌-ℤ◌, length, drop}
use Rattle.std.proofs.Common.{◌∙◌, ap, arith}
use Rattle.distance.specs.Integers.Differences.{diffs}
use Rattle.format.specs.Kinds.{trail}
use Rattle.format.specs.Format.{count_field, each, fixes, record_bytes}
use Rattle.format.proofs.Laws.Each.{each_same}
use Rattle.record.specs.Answers.{gives}
use Rattle.thinning.specs.Thinning.{thinning, greatest_count}
use Rattle.thinning.proofs.Laws.Count.{greatest_exactly}
use Rattle.aging.specs.Aging.{Call, answered, age_answer, aged}
use Rattle.dearest.specs.Dearest.{dearest_fix, dearest, dearest_answer, dearest_marked, dearest_written, dearest_count}
use Rattle.dearest.proofs.Laws.Fixes.{in_numbers}
use Rattle.dearest.proofs.Laws.Writing.{dearest_passes}
use Rattle.dearest.proofs.Laws.Claim.{costs_most, claim_gives}

-- no half is lost
twice : (n : ℕ) → 1 ≤ n → 2 * greatest_count n ≡ (n - 1) * (n - 2)
twice zero h = absurd (omega arith)
twice (suc zero) h = refl
twice (suc (suc d)) h =
    let one : suc (suc d) - 1 ≡ suc d = omega arith in
    let two : suc (suc d) - 2 ≡ d = omega arith in
    let first : pos (suc (suc d)) -ℤ pos 1 ≡ pos (suc d) = simp diffs (omega arith) in
    let second : pos (suc (suc d)) -ℤ pos 2 ≡ pos d = simp diffs (omega arith) in
    let z : pos (2 * greatest_count (suc (suc d))) ≡ pos (suc d * d) = greatest_exactly (suc (suc d)) h ∙ rw (first, second) refl in
    let e : 2 * greatest_count (suc (suc d)) ≡ suc d * d = cc in
    e ∙ rw (one, two) refl

-- Of every n from 1: the trail, fix by fix; its count at tolerance 1; that no record of n fixes and no call counts more; and, where check 3 lets it pass and the output has room for it, what is answered and what stands
-- in the output after it is written, and after it is aged at 1
pub dearest_costs : (n : ℕ) → 1 ≤ n
    → (dearest n ≡ each (λ (i : ℕ). record { t = i; x = pos 0; y = cond (eqb (i % 2) 0) (pos (n - 1 - i)) (neg_ℤ (pos (n - 1 - i))); silence = 0 }) 0 n)
    × (2 * (thinning 1 (dearest n)).count ≡ (n - 1) * (n - 2))
    × ((b : List ℕ) (e : ℕ) → count_field b ≡ n → 2 * (thinning e (fixes b)).count ≤ (n - 1) * (n - 2))
    × ((b : List ℕ) (c : Call) (k : ℕ) → count_field b ≡ n → answered b c ≡ gives k → 2 * k ≤ (n - 1) * (n - 2))
    × ((out : List ℕ) → n ≤ 4096 → 10 + 8 * n ≤ length out
    → (dearest_answer n out ≡ gives (10 + 8 * n))
    × (dearest_written n out ≡ record_bytes trail 65535 (dearest n) ++ drop (10 + 8 * n) out)
    × (age_answer (record_bytes trail 65535 (dearest n) ++ drop (10 + 8 * n) out) 1 ≡ gives ((n - 1) * (n - 2) / 2))
    × (aged (record_bytes trail 65535 (dearest n) ++ drop (10 + 8 * n) out) 1 ≡ record_bytes trail 1 (dearest n) ++ drop (10 + 8 * n) out)
    × (dearest_count n out ≡ gives ((n - 1) * (n - 2) / 2))
    × (dearest_marked 1 n out ≡ record_bytes trail 1 (dearest n) ++ drop (10 + 8 * n) out))
dearest_costs n one =
    let c = costs_most n one in
    let even = twice n one in (
      each_same (dearest_fix n) _ 0 n (λ i p q. in_numbers n i (omega arith)),
      rw c.counts even,
      λ b e m. omega (arith, c.none_counts_more b e m, c.counts, even),
      λ b q k m h. omega (arith, c.no_call_counts_more b q k m h, even),
      λ out small room.
          let e = dearest_passes n out one small room in
          let called = claim_gives n c one small out room in
          (rw e refl, rw e refl, called.1, called.2, rw e refl, rw e refl),
    )

-- ---- THE CLAIM IN NUMBERS, of 1, 2, 3, 4 and 4,096 fixes: the trail's count, that no record of n fixes and no call
-- counts more, and what the calls answer where the output has room for it. These aren't computed: the law has them of
-- every n.
abbrev pub Costs : (n count : ℕ) → Type 0
Costs n count =
    ((thinning 1 (dearest n)).count ≡ count)
    × ((b : List ℕ) (e : ℕ) → count_field b ≡ n → (thinning e (fixes b)).count ≤ count)
    × ((b : List ℕ) (c : Call) (k : ℕ) → count_field b ≡ n → answered b c ≡ gives k → k ≤ count)
    × ((out : List ℕ) → 10 + 8 * n ≤ length out
    → (dearest_answer n out ≡ gives (10 + 8 * n))
    × (dearest_count n out ≡ gives count))

pub costs_in_numbers : Costs 1 0 × Costs 2 0 × Costs 3 1 × Costs 4 3 × Costs 4096 8382465
costs_in_numbers = (
  of_law 1 (omega arith) (omega arith) 0 refl,
  of_law 2 (omega arith) (omega arith) 0 refl,
  of_law 3 (omega arith) (omega arith) 1 refl,
  of_law 4 (omega arith) (omega arith) 3 refl,
  of_law 4096 (omega arith) (omega arith) 8382465 refl,
)
  where
    of_law : (n : ℕ) → 1 ≤ n → n ≤ 4096 → (count : ℕ) → (n - 1) * (n - 2) ≡ 2 * count → Costs n count
    of_law n one few count is =
        let g = dearest_costs n one in
        let half : (n - 1) * (n - 2) / 2 ≡ count = omega (arith, is) in (
          omega (arith, g.1, is),
          λ b e m. omega (arith, g.2 b e m, is),
          λ b c k m h. omega (arith, g.3 b c k m h, is),
          λ out room. let w = g.4 out few room in (w.0, w.4 ∙ ap gives half),
        )
