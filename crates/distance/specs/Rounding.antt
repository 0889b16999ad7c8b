-- ROUNDING. Document 01: "Beside it stands the rounded place: the nearest whole number [..]."; document 02, item 1: "their drawing rule rounds halves away
-- from zero. The rounded place follows that: −0.5 becomes −1."
-- The rule stands in the lowest layer, beside the places that it rounds, so that whoever has a place as a fraction has it and needs no layer above.
use Rattle.std.specs.Prelude.{◌≡◌, ℕ, ◌+◌, ◌*◌, ◌/◌, ◌≤◌, ℤ, pos, negsuc, nat_abs, neg_ℤ, ◌-ℤ◌, ◌*ℤ◌}

-- n/d of naturals, halves upward: n/d and a half, cut down to a whole number, which is (2n + d)/(2d).
unfoldable pub half_up : (n d : ℕ) → ℕ
half_up n d = (2 * n + d) / (2 * d)

-- k with the sign of n.
unfoldable pub with_sign_of : (n : ℤ) (k : ℕ) → ℤ
with_sign_of (pos n) k = pos k
with_sign_of (negsuc n) k = neg_ℤ (pos k)

-- n/d rounded: |n|/d with halves upward, and the sign of n. So halves go away from 0. A place's denominator is at least 1 (`Proper`).
unfoldable pub rounded : (n d : ℤ) → ℤ
rounded n d = with_sign_of n (half_up (nat_abs n) (nat_abs d))

-- What that means (`rounded_nearest` of Laws/Rounding.antt): no whole number is nearer to n/d than r, and of two that are as near r is the one further from 0.
pub record Nearest (n d r : ℤ) : Type 0 where
  pub nearest : (z : ℤ) → nat_abs (r *ℤ d -ℤ n) ≤ nat_abs (z *ℤ d -ℤ n)
  pub further : (z : ℤ) → nat_abs (z *ℤ d -ℤ n) ≡ nat_abs (r *ℤ d -ℤ n) → nat_abs z ≤ nat_abs r
