-- Rounding: the rounded number is the nearest one, halves away from 0, and is the same on each side of 0.
use Rattle.std.specs.Prelude.{◌≡◌, refl, [], ◌∷◌, ℕ, zero, suc, ◌+◌, ◌*◌, ◌/◌, ◌≤◌, ◌<◌, ℤ, pos, negsuc, nat_abs, neg_ℤ, ◌+ℤ◌, ◌-ℤ◌, ◌*ℤ◌, ◌≤ℤ◌}
use Rattle.std.proofs.Common.{sym, ◌∙◌, ap, div-lt_iff_lt-mul, arith}
use Rattle.std.proofs.Math.Nat.{div-mul-le_self, lt-div-mul-add}
use Rattle.std.proofs.Math.Decide.{dec_le}
use Rattle.std.proofs.Math.IntN.{neg_ℤ-neg_ℤ}
use Rattle.distance.specs.Rounding.{half_up, with_sign_of, rounded, Nearest}
use Rattle.distance.specs.Integers.Differences.{diff, diffs, split, nat_abs_neg}
use Rattle.distance.specs.Integers.Ring.{ring, quotes, lit, vars}
use Rattle.distance.specs.Integers.Order.{gap, nat, le_by, ◌⊠◌}

-- z·d − n: d times what z is above n/d
abbrev apart : (z n : ℤ) (d : ℕ) → ℤ
apart z n d = z *ℤ pos d -ℤ n

-- ---- what Nearest gives, taken apart: no whole number is nearer to n/d, and of two that are as near r is the one further from 0 ..
pub nearest_gives : {n d r : ℤ} → Nearest n d r
    → ((z : ℤ) → nat_abs (r *ℤ d -ℤ n) ≤ nat_abs (z *ℤ d -ℤ n)) × ((z : ℤ) → nat_abs (z *ℤ d -ℤ n) ≡ nat_abs (r *ℤ d -ℤ n) → nat_abs z ≤ nat_abs r)
nearest_gives h = (h.nearest, h.further)

-- .. so it is one number: of two that are as far from 0 on both sides of it, one is further from n/d than 0 is
below_zero : (m d n : ℕ) → nat_abs (apart (negsuc m) (pos n) d) ≡ suc m * d + n
below_zero m d n =
    let e : apart (negsuc m) (pos n) d ≡ neg_ℤ (pos (suc m * d + n)) = simp diffs (omega arith) in
    rw e (nat_abs_neg (pos (suc m * d + n)))

above_zero : (m d n : ℕ) → nat_abs (apart (pos m) (negsuc n) d) ≡ m * d + suc n
above_zero m d n = refl

from_zero : (n : ℤ) (d : ℕ) → nat_abs (apart (pos 0) n d) ≡ nat_abs n
from_zero n d =
    let e : apart (pos 0) n d ≡ neg_ℤ n = vars (n ∷ pos d ∷ []) (λ ρ v. simp (v 0, v 1, quotes, lit ρ) (ring _ _ ρ tt)) in
    rw e (nat_abs_neg n)

not_both : (m d : ℕ) (n : ℤ) → 1 ≤ d → nat_abs (apart (pos (suc m)) n d) ≤ nat_abs n → nat_abs (apart (negsuc m) n d) ≤ nat_abs n → ⊥
not_both m d (pos n) one h k = omega (arith, below_zero m d n)
not_both m d (negsuc n) one h k = omega (arith, above_zero (suc m) d n)

pub nearest_one : {n r s : ℤ} (d : ℕ) → 1 ≤ d → Nearest n (pos d) r → Nearest n (pos d) s → r ≡ s
nearest_one {n} {r} {s} d one h k =
    let there = h.nearest s in
    let back = k.nearest r in
    let size : nat_abs r ≡ nat_abs s = omega (arith, h.further s (omega arith), k.further r (omega arith)) in
    same r s size (rw (from_zero n d) at (h.nearest (pos 0))) (rw (from_zero n d) at (k.nearest (pos 0)))
  where
    same : (r s : ℤ) → nat_abs r ≡ nat_abs s → nat_abs (apart r n d) ≤ nat_abs n → nat_abs (apart s n d) ≤ nat_abs n → r ≡ s
    same (pos a) (pos b) e p q = ap pos e
    same (pos a) (negsuc b) e p q = absurd (not_both b d n one (rw e at p) q)
    same (negsuc a) (pos b) e p q = absurd (not_both a d n one (rw (← e) at q) p)
    same (negsuc a) (negsuc b) e p q = ap negsuc (omega arith)

-- ---- THE SAME ON EACH SIDE OF 0: what is nearest to n/d is, with the other sign, nearest to −n/d ..
opposite_both : (z n d : ℤ) → nat_abs (neg_ℤ z *ℤ d -ℤ neg_ℤ n) ≡ nat_abs (z *ℤ d -ℤ n)
opposite_both z n d =
    let e : neg_ℤ z *ℤ d -ℤ neg_ℤ n ≡ neg_ℤ (z *ℤ d -ℤ n) = vars (z ∷ n ∷ d ∷ []) (λ ρ v. simp (v 0, v 1, v 2, quotes) (ring _ _ ρ tt)) in
    rw e (nat_abs_neg (z *ℤ d -ℤ n))

opposite_one : (z n d : ℤ) → nat_abs (z *ℤ d -ℤ neg_ℤ n) ≡ nat_abs (neg_ℤ z *ℤ d -ℤ n)
opposite_one z n d =
    let e : z *ℤ d -ℤ neg_ℤ n ≡ neg_ℤ (neg_ℤ z *ℤ d -ℤ n) = vars (z ∷ n ∷ d ∷ []) (λ ρ v. simp (v 0, v 1, v 2, quotes) (ring _ _ ρ tt)) in
    rw e (nat_abs_neg (neg_ℤ z *ℤ d -ℤ n))

pub nearest_opposite : {n d r : ℤ} → Nearest n d r → Nearest (neg_ℤ n) d (neg_ℤ r)
nearest_opposite {n} {d} {r} h = record {
  nearest = (λ z. rw (opposite_both r n d, opposite_one z n d) (h.nearest (neg_ℤ z)));
  further = (λ z e. rw (nat_abs_neg r, ← nat_abs_neg z) (h.further (neg_ℤ z) (sym (opposite_one z n d) ∙ e ∙ opposite_both r n d)));
}

-- .. and the rounded number of −n/d is minus that of n/d
half_up_zero : (d : ℕ) → half_up 0 d ≡ 0
unfolding half_up
half_up_zero zero = refl
half_up_zero (suc d) = omega (arith, (div-lt_iff_lt-mul {k = 2 * suc d} {x = 2 * 0 + suc d} {y = 1} (omega arith)).1 (omega arith))

pub rounded_opposite : (n d : ℤ) → rounded (neg_ℤ n) d ≡ neg_ℤ (rounded n d)
unfolding rounded with_sign_of
rounded_opposite (pos zero) d = rw (half_up_zero (nat_abs d)) refl
rounded_opposite (pos (suc n)) d = refl
rounded_opposite (negsuc n) d = sym (neg_ℤ-neg_ℤ (pos (half_up (suc n) (nat_abs d))))

-- ---- a whole number is its own
pub rounded_whole : (x : ℤ) → rounded x (pos 1) ≡ x
unfolding rounded with_sign_of half_up
rounded_whole (pos n) = ap pos (let h : (2 * n + 1) / 2 ≡ n = omega arith in h)
rounded_whole (negsuc n) = ap (λ (k : ℕ). neg_ℤ (pos k)) (let h : (2 * suc n + 1) / 2 ≡ suc n = omega arith in h)

-- ---- IT IS THE NEAREST. Of a natural n first, where r·d − n is at most half of d and above minus half of it:
-- e is r·d − n, and f is z·d − n
above : (e f : ℤ) (d : ℕ) → (pos 2 *ℤ e) ≤ℤ pos d → (pos 1 -ℤ pos d) ≤ℤ (pos 2 *ℤ e) → (e +ℤ pos d) ≤ℤ f → nat_abs e < nat_abs f
above (pos e) (pos f) d h k l = omega (arith, simp diffs at k, simp diffs at h, simp diffs at l)
above (pos e) (negsuc f) d h k l = absurd (omega (arith, simp diffs at k, simp diffs at h, simp diffs at l))
above (negsuc e) (pos f) d h k l = omega (arith, simp diffs at k, simp diffs at h, simp diffs at l)
above (negsuc e) (negsuc f) d h k l = absurd (omega (arith, simp diffs at k, simp diffs at h, simp diffs at l))

below : (e f : ℤ) (d : ℕ) → (pos 2 *ℤ e) ≤ℤ pos d → (pos 1 -ℤ pos d) ≤ℤ (pos 2 *ℤ e) → (f +ℤ pos d) ≤ℤ e → nat_abs e ≤ nat_abs f
below (pos e) (pos f) d h k l = absurd (omega (arith, simp diffs at k, simp diffs at h, simp diffs at l))
below (pos e) (negsuc f) d h k l = omega (arith, simp diffs at k, simp diffs at h, simp diffs at l)
below (negsuc e) (pos f) d h k l = absurd (omega (arith, simp diffs at k, simp diffs at h, simp diffs at l))
below (negsuc e) (negsuc f) d h k l = omega (arith, simp diffs at k, simp diffs at h, simp diffs at l)

within_half : (e : ℤ) (d : ℕ) → (pos 2 *ℤ e) ≤ℤ pos d → (pos 1 -ℤ pos d) ≤ℤ (pos 2 *ℤ e) → 2 * nat_abs e ≤ d
within_half (pos e) d h k = omega (arith, simp diffs at h)
within_half (negsuc e) d h k = omega (arith, simp diffs at k)

-- two whole numbers are the same, or one is at least 1 more
data Steps (z r : ℤ) : Type 0 where
  under : (z +ℤ pos 1) ≤ℤ r → Steps z r
  equal : z ≡ r → Steps z r
  over : (r +ℤ pos 1) ≤ℤ z → Steps z r

steps : (z r : ℤ) → Steps z r
steps z r = split z (λ a b p. split r (λ c d q. go a b c d p q (dec_le (a + d + 1) (c + b)) (dec_le (c + b + 1) (a + d))))
  where
    go : (a b c d : ℕ) → z ≡ diff a b → r ≡ diff c d → Dec (a + d + 1 ≤ c + b) → Dec (c + b + 1 ≤ a + d) → Steps z r
    go a b c d p q (yes h) k = under (simp (p, q, diffs) (omega arith))
    go a b c d p q (no h) (yes k) = over (simp (p, q, diffs) (omega arith))
    go a b c d p q (no h) (no k) = equal (simp (p, q, diffs) (omega arith))

module _ (n d : ℕ) (one : 1 ≤ d) where
  abbrev whole : ℤ
  whole = pos (half_up n d)

  abbrev off : ℤ → ℤ
  off z = apart z (pos n) d

  -- r − 1/2 ≤ n/d < r + 1/2
  low : (pos 2 *ℤ off whole) ≤ℤ pos d
  unfolding half_up
  low = simp diffs (omega (arith, div-mul-le_self (2 * n + d) (2 * d)))

  high : (pos 1 -ℤ pos d) ≤ℤ (pos 2 *ℤ off whole)
  unfolding half_up
  high = simp diffs (omega (arith, lt-div-mul-add {a = 2 * n + d} {b = 2 * d} (omega arith)))

  farther : (z : ℤ) → (whole +ℤ pos 1) ≤ℤ z → nat_abs (off whole) < nat_abs (off z)
  farther z h = above (off whole) (off z) d low high
      (le_by (gap h ⊠ nat d) (vars (whole ∷ z ∷ pos n ∷ pos d ∷ []) (λ ρ v. simp (v 0, v 1, v 2, v 3, quotes, lit ρ) (ring _ _ ρ tt))))

  near : (z : ℤ) → Steps z whole → nat_abs (off whole) ≤ nat_abs (off z)
  near z (under h) = below (off whole) (off z) d low high
      (le_by (gap h ⊠ nat d) (vars (whole ∷ z ∷ pos n ∷ pos d ∷ []) (λ ρ v. simp (v 0, v 1, v 2, v 3, quotes, lit ρ) (ring _ _ ρ tt))))
  near z (equal h) = rw h (omega arith)
  near z (over h) = omega (arith, farther z h)

  -- one that is as near is not above it, and not below 0, where every number is more than half of d away
  not_further : (z : ℤ) → nat_abs (off z) ≡ nat_abs (off whole) → Steps z whole → nat_abs z ≤ half_up n d
  not_further (pos z) e (under h) = omega (arith, simp diffs at h)
  not_further (negsuc z) e (under h) = absurd (omega (arith, below_zero z d n, within_half (off whole) d low high))
  not_further z e (equal h) = rw h (omega arith)
  not_further z e (over h) = absurd (omega (arith, farther z h))

  natural_nearest : Nearest (pos n) (pos d) whole
  natural_nearest = record { nearest = (λ z. near z (steps z whole)); further = (λ z e. not_further z e (steps z whole)) }

pub rounded_nearest : (n : ℤ) (d : ℕ) → 1 ≤ d → Nearest n (pos d) (rounded n (pos d))
unfolding rounded with_sign_of
rounded_nearest (pos n) d one = natural_nearest n d one
rounded_nearest (negsuc n) d one = nearest_opposite (natural_nearest (suc n) d one)
