-- WHAT THE DEAREST TRAIL COSTS: at tolerance 1 every span is split at its first inner fix, so that every fix stays, and the count is the greatest that there is.
use Rattle.std.specs.Prelude.{◌≡◌, false, length, ℤ, nat_abs, ◌-ℤ◌, ◌*ℤ◌}
use Rattle.std.proofs.Math.Path.{refl}
use Rattle.std.proofs.Common.{◌∙◌, ap, le_refl, mul-le-mul, zero-mul}
use mathlib.Core.List.{List, [], ◌∷◌, ◌++◌}
use Prim.Native.Nat.{ℕ, zero, suc, ◌+◌, ◌*◌, ◌-◌, ◌≤◌, ◌<◌}
use Rattle.std.proofs.Math.Nat.{zero-add}
use native.Mathlib.Omega.{arith}
use Rattle.std.proofs.Math.IntN.{pos}
use Rattle.distance.specs.Fix.{Fix}
use Rattle.distance.specs.Distance.{N, deviation, allowance}
use Rattle.distance.specs.Silence.{silent}
use Rattle.distance.specs.Integers.Differences.{diffs, nat_abs_mul}
use Rattle.distance.specs.Integers.Ring.{ring, quotes, lit, vars}
use Rattle.distance.specs.Laws.All.{All, all_none}
use Rattle.distance.proofs.Laws.All.{all_map}
use Rattle.format.specs.Format.{each}
use Rattle.format.proofs.Laws.Each.{length_each, each_more, each_all}
use Rattle.thinning.specs.Thinning.{thinning, greatest_count}
use Rattle.thinning.proofs.Laws.Furthest.{Tops}
use Rattle.thinning.proofs.Laws.Keeps.{Keeps, ends_only, pieces_of, keeps_span}
use Rattle.thinning.proofs.Laws.Kept.{thin_ends}
use Rattle.thinning.proofs.Laws.Trail.{one_stays, never_silent}
use Rattle.thinning.proofs.Laws.Count.{greatest_grows}
use Rattle.dearest.specs.Dearest.{dearest_fix, dearest}
use Rattle.dearest.proofs.Laws.Fixes.{sign, Sign, plus, minus, sign_is, y_is, none_silent}

-- ---- how far a fix is from the chord to the last one
-- of two fixes, s and r seconds before and after it, with y of σ·(s + r) and 0
N_is : (s r : ℕ) (σ τ υ : ℤ) → N (σ *ℤ pos (s + r)) (τ *ℤ pos r) (υ *ℤ pos 0) (pos (s + r)) (pos s) ≡ pos ((s + r) * r) *ℤ (τ -ℤ σ)
N_is s r σ τ υ = vars (pos s ∷ pos r ∷ σ ∷ τ ∷ υ ∷ []) (λ ρ v. simp (v 0, v 1, v 2, v 3, v 4, quotes, lit ρ) (ring _ _ ρ tt))

N_zero : (D s : ℕ) → N (pos 0) (pos 0) (pos 0) (pos D) (pos s) ≡ pos 0
N_zero D s = rw (zero-mul, zero-mul) refl

-- |Ny| of fix m, s after fix i and r before the last, in the span from i to the last
reach : (i m s r : ℕ) → ℕ
reach i m s r = (s + r) * r * nat_abs (sign m -ℤ sign i)

-- signs are at most 2 apart, and those of neighbours just 2
apart : {i m : ℕ} {σ τ : ℤ} → Sign i σ → Sign m τ → nat_abs (τ -ℤ σ) ≤ 2
apart (plus e) (plus f) = omega arith
apart (plus e) (minus f) = omega arith
apart (minus e) (plus f) = omega arith
apart (minus e) (minus f) = omega arith

opposite : {i : ℕ} {σ τ : ℤ} → Sign i σ → Sign (suc i) τ → nat_abs (τ -ℤ σ) ≡ 2
opposite (plus e) (plus f) = absurd (omega arith)
opposite (plus e) (minus f) = refl
opposite (minus e) (plus f) = refl
opposite (minus e) (minus f) = absurd (omega arith)

-- of n fixes, j the last
module _ (n j : ℕ) (last : n ≡ suc j) where
  abbrev fix : ℕ → Fix
  fix = dearest_fix n

  reached : (i m s r : ℕ) → m ≡ i + s → j ≡ m + r → deviation (fix i) (fix m) (fix j) ≡ reach i m s r * reach i m s r
  unfolding deviation dearest_fix reach
  reached i m s r e f =
      let D : pos j -ℤ pos i ≡ pos (s + r) = simp diffs (omega (arith, e, f)) in
      let S : pos m -ℤ pos i ≡ pos s = simp diffs (omega (arith, e)) in
      let yi = y_is n i (s + r) (omega (arith, last, e, f)) in
      let ym = y_is n m r (omega (arith, last, f)) in
      let yj = y_is n j 0 (omega (arith, last)) in
      rw (D, S, yi, ym, yj, N_zero (s + r) s, N_is s r (sign i) (sign m) (sign j), nat_abs_mul (pos ((s + r) * r)) (sign m -ℤ sign i)) (omega arith)

  -- in the span from i to the last, with d inner fixes after the first of them
  module _ (i d : ℕ) (ends : j ≡ suc (suc (i + d))) where
    first_reach : deviation (fix i) (fix (suc i)) (fix j) ≡ (suc (suc d) * suc d * 2) * (suc (suc d) * suc d * 2)
    unfolding reach
    first_reach =
        let e : 1 + suc d ≡ suc (suc d) = omega arith in
        reached i (suc i) 1 (suc d) (omega arith) (omega (arith, ends)) ∙ rw (e, opposite (sign_is i) (sign_is (suc i))) refl

    -- the first inner fix is as far as any ..
    no_further : (m : ℕ) → suc i < m → m < j → deviation (fix i) (fix m) (fix j) ≤ deviation (fix i) (fix (suc i)) (fix j)
    unfolding reach
    no_further m h g =
        let s = m - i in
        let r = j - m in
        let all : s + r ≡ suc (suc d) = omega (arith, ends) in
        let less : r ≤ suc d = omega (arith, ends) in
        let most : reach i m s r ≤ suc (suc d) * suc d * 2 = rw all (mul-le-mul (mul-le-mul (le_refl (suc (suc d))) less) (apart (sign_is i) (sign_is m))) in
        rw (reached i m s r (omega arith) (omega arith), first_reach) (mul-le-mul most most)

    -- .. and too far
    too_far : allowance 1 (fix i) (fix j) < deviation (fix i) (fix (suc i)) (fix j)
    unfolding allowance dearest_fix
    too_far =
        let D : pos j -ℤ pos i ≡ pos (suc (suc d)) = simp diffs (omega (arith, ends)) in
        rw (first_reach, D) (omega arith)

  -- ---- so each span from a fix to the last is split there, and all its d inner fixes stay
  split_at_first : (i d : ℕ) → j ≡ suc (i + d) → Keeps deviation allowance 1 (fix i) (each fix (suc i) d) (fix j) (each fix (suc i) d) (greatest_count (suc (suc d)))
  unfolding each
  split_at_first i zero ends = ends_only all_none
  split_at_first i (suc d) ends =
      let further : j ≡ suc (suc (i + d)) = omega (arith, ends) in
      let tops : Tops (λ m. deviation (fix i) m (fix j)) [] (fix (suc i)) (each fix (suc (suc i)) d) =
      record { before = all_none; after = each_all fix (suc (suc i)) d (λ m p q. no_further i d further m (omega arith) (omega (arith, further))) } in
      let count : suc (length (each fix (suc (suc i)) d)) + (0 + greatest_count (suc (suc d))) ≡ greatest_count (suc (suc (suc d))) =
      rw (length_each fix (suc (suc i)) d, zero-add, greatest_grows d) refl in
      rw count at (pieces_of {p = []} tops (too_far i d further) (ends_only all_none) (split_at_first (suc i) d (omega (arith, ends))))

-- ---- the whole trail
two_ends : (d : ℕ) → dearest (suc (suc d)) ≡ dearest_fix (suc (suc d)) 0 ∷ (each (dearest_fix (suc (suc d))) 1 d ++ dearest_fix (suc (suc d)) (suc d) ∷ [])
unfolding each
two_ends d =
    let e : 1 + d ≡ suc d = omega arith in
    ap (λ (l : List Fix). dearest_fix (suc (suc d)) 0 ∷ l) (each_more (dearest_fix (suc (suc d))) 1 d ∙ rw e refl)

-- AT TOLERANCE 1 EVERY FIX STAYS, AND THE COUNT IS (n − 1)(n − 2)/2
pub dearest_thinning : (n : ℕ) → 1 ≤ n → thinning 1 (dearest n) ≡ record { kept = dearest n; count = greatest_count n }
unfolding each
dearest_thinning zero h = absurd (omega arith)
dearest_thinning (suc zero) h = one_stays 1 (dearest_fix 1 0)
dearest_thinning (suc (suc d)) h =
    let n = suc (suc d) in
    let inner = each (dearest_fix n) 1 d in
    let heard : All (λ (f : Fix). silent f ≡ false) (dearest n) = all_map (λ f e. rw e refl) (none_silent n) in
    let span = keeps_span deviation allowance (split_at_first n (suc d) refl 0 d (omega arith)) (length inner) (le_refl _) in
    never_silent 1 (dearest n) heard ∙ rw (two_ends d, thin_ends deviation allowance 1 (dearest_fix n 0) inner (dearest_fix n (suc d)), span) refl
