-- THE GREATEST COUNT of so many fixes, (n − 1)(n − 2)/2, and that no trail counts more.
use Rattle.std.specs.Prelude.{◌≡◌, refl, List, [], ◌∷◌, ℕ, zero, suc, ◌+◌, ◌*◌, ◌-◌, ◌/◌, ◌≤◌, length, ℤ, pos, ◌-ℤ◌, ◌*ℤ◌}
use Rattle.std.proofs.Common.{sym, ◌∙◌, ap, mul-le-mul, arith}
use Rattle.distance.specs.Fix.{Fix}
use Rattle.distance.specs.Distance.{deviation, allowance}
use Rattle.distance.specs.Silence.{silent}
use Rattle.distance.specs.Integers.Differences.{diffs}
use Rattle.thinning.specs.Thinning.{thin_each, stretches, thinning, greatest_count}
use Rattle.thinning.proofs.Laws.ByStretch.{stretches_count}

-- of d inner fixes, without a subtraction
of_inner : (d : ℕ) → greatest_count (suc (suc d)) ≡ suc d * d / 2
of_inner d =
    let one : suc (suc d) - 1 ≡ suc d = omega arith in
    let two : suc (suc d) - 2 ≡ d = omega arith in
    rw (one, two) refl

-- with one inner fix more, suc d of them are measured in the whole span
pub greatest_grows : (d : ℕ) → greatest_count (suc (suc (suc d))) ≡ suc d + greatest_count (suc (suc d))
greatest_grows d = rw (of_inner d, of_inner (suc d)) (omega arith)

-- no half is lost
greatest_twice : (d : ℕ) → 2 * greatest_count (suc (suc d)) ≡ suc d * d
greatest_twice zero = refl
greatest_twice (suc d) = rw (greatest_grows d) (omega (arith, greatest_twice d))

-- EXACTLY (n − 1)(n − 2)/2, over ℤ
pub greatest_exactly : (n : ℕ) → 1 ≤ n → pos (2 * greatest_count n) ≡ (pos n -ℤ pos 1) *ℤ (pos n -ℤ pos 2)
greatest_exactly zero h = absurd (omega arith)
greatest_exactly (suc zero) h = refl
greatest_exactly (suc (suc d)) h =
    let one : pos (suc (suc d)) -ℤ pos 1 ≡ pos (suc d) = simp diffs (omega arith) in
    let two : pos (suc (suc d)) -ℤ pos 2 ≡ pos d = simp diffs (omega arith) in
    ap pos (greatest_twice d) ∙ sym (ap (λ (z : ℤ). z *ℤ (pos (suc (suc d)) -ℤ pos 2)) one ∙ ap (λ (z : ℤ). pos (suc d) *ℤ z) two)

-- more fixes, no less
pub greatest_rises : (m n : ℕ) → m ≤ n → greatest_count m ≤ greatest_count n
greatest_rises m n h = let p : (m - 1) * (m - 2) ≤ (n - 1) * (n - 2) = mul-le-mul (omega arith) (omega arith) in omega (arith, p)

-- (n − 1)(n − 2) is n·n − 3·n + 2
pub at_most_greatest : (n c : ℕ) → 2 * c + 3 * suc n ≤ suc n * suc n + 2 → c ≤ greatest_count (suc n)
at_most_greatest zero c h = omega arith
at_most_greatest (suc n) c h = rw (of_inner n) (omega arith)

-- "It is at most (n − 1)(n − 2)/2."
pub count_at_most : (e : ℕ) (l : List Fix) → (thinning e l).count ≤ greatest_count (length l)
unfolding thinning thin_each stretches
count_at_most e [] = omega arith
count_at_most e (i ∷ l) = at_most_greatest (length l) (thinning e (i ∷ l)).count (stretches_count deviation allowance silent e (i ∷ l))
