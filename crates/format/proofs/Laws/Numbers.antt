-- Numbers of bytes: what the code's sums and two's complement come to.
use Rattle.std.specs.Prelude.{◌≡◌, refl, List, ℕ, zero, suc, ◌+◌, ◌*◌, ◌-◌, ◌/◌, ◌%◌, ◌^◌, ◌<◌, ◌≤◌, get_or, Bool, true, false, T, ℤ, pos, negsuc, nat_abs, ◌+ℤ◌, ◌-ℤ◌}
use Rattle.std.proofs.Common.{sym, ◌∙◌, ap, pow-suc, arith, add-one, lt-ltb, le-ltb}
use Rattle.std.proofs.Math.Numerals.{add-two, add-three}
use Rattle.std.specs.Int.{Width, w16, w32, w64, to_le_bytes}
use mir.Val.{Fits, SFits, to_z, of_z, bits, hbits}
use Rattle.std.proofs.Math.Facts.{to_z_pos, to_z-neg, to_z-of_z}
use Rattle.distance.specs.Integers.Differences.{diffs}
use Rattle.distance.specs.Integers.Bounds.{of_width, fits, Bound, ◌⊕◌}
use Rattle.distance.specs.Integers.Tests.{Test, holds, fails, test}
use Rattle.format.specs.Bytes.{InBytes, number_at, bytes_of, signed, unsigned}
use Rattle.format.specs.Format.{fix_from}
use Rattle.distance.specs.Fix.{Fix}
use Rattle.std.specs.Int.Signed.{non_neg, lt_z}
use Rattle.distance.specs.Integers.Order.{lt_z_false, zero_le}

pub false_true : false ≡ true → ⊥
false_true e = let z : ◌≡◌ {A = ℕ} 0 1 = cc in omega arith

-- two and four bytes, written out, ..
pub two_bytes : (b : List ℕ) (at : ℕ) → get_or b at 0 + get_or b (at + 1) 0 * 256 ≡ number_at b at 2
unfolding number_at
two_bytes b at = rw add-one (omega arith)

pub four_bytes : (b : List ℕ) (at : ℕ) → get_or b at 0 + get_or b (at + 1) 0 * 256 + get_or b (at + 2) 0 * 65536 + get_or b (at + 3) 0 * 16777216 ≡ number_at b at 4
unfolding number_at
four_bytes b at = rw (add-one, add-two, add-three) (omega arith)

-- .. and what the library makes of a number
pub two_written : (n : ℕ) → to_le_bytes w16 n ≡ bytes_of 2 n
unfolding bytes_of
two_written n = refl

pub two_of_more : (n : ℕ) → bytes_of 2 (n % 65536) ≡ bytes_of 2 n
unfolding bytes_of
two_of_more n =
    let low : n % 65536 % 256 ≡ n % 256 = omega arith in
    let high : n % 65536 / 256 % 256 ≡ n / 256 % 256 = omega arith in
    rw (low, high) refl

pub four_written : (n : ℕ) → to_le_bytes w32 n ≡ bytes_of 4 n
unfolding bytes_of
four_written n =
    let e : n / 65536 ≡ n / 256 / 256 = omega arith in
    let f : n / 16777216 ≡ n / 256 / 256 / 256 = omega arith in
    rw (e, f) refl

pub even : (width : ℕ) → 1 ≤ width → 2 * (128 * 256 ^ (width - 1)) ≡ 256 ^ width
even zero h = absurd (omega arith)
even (suc w) h = let e : suc w - 1 ≡ w = omega arith in rw (e, pow-suc 256 w) (omega arith)

-- two's complement: the lower half, and the upper, where 256 to the power of size less 1 less n counts down from −1
pub signed_low : (size n : ℕ) → 2 * n < 256 ^ size → pos n ≡ signed size n
unfolding signed
signed_low size n h = rw (lt-ltb (2 * n) (256 ^ size) h) refl

pub signed_high : (size n : ℕ) → 256 ^ size ≤ 2 * n → n < 256 ^ size → negsuc (256 ^ size - 1 - n) ≡ signed size n
unfolding signed
signed_high size n h k = rw (le-ltb (2 * n) (256 ^ size) h) (simp diffs (omega arith))

-- the complement −1 − k of a number of 16 or 32 bits whose top bit is 0, which is the number below 0 as far from −1 as k is from 0
minus_one_less : (k : ℕ) → negsuc 0 -ℤ pos k ≡ negsuc k
minus_one_less k = simp diffs (omega arith)

module _ (w : Width) (k : ℕ) (small : k < 2 ^ hbits w) where
  pub complement : negsuc 0 -ℤ to_z w k ≡ negsuc k
  complement = ap (λ (z : ℤ). negsuc 0 -ℤ z) (to_z_pos w small) ∙ minus_one_less k

  pub complement_fits : SFits w (negsuc 0 -ℤ to_z w k)
  complement_fits = rw complement (record { sfits = small })

-- that is what the library makes of the bits, both ways
module _ (w : Width) (size : ℕ) (whole : 2 ^ bits w ≡ 256 ^ size) (half : 2 * 2 ^ hbits w ≡ 256 ^ size) where
  pub bits_read : (n : ℕ) → n < 256 ^ size → to_z w n ≡ signed size n
  bits_read n h = go (test (256 ^ size) (2 * n))
    where
      go : {x : Bool} → Test (256 ^ size) (2 * n) x → to_z w n ≡ signed size n
      go (fails t) = to_z_pos w (omega arith) ∙ signed_low size n t
      go (holds t) =
          let k = 256 ^ size - 1 - n in
          let e : 2 ^ bits w - suc k ≡ n = omega arith in
          ap (to_z w) (sym e) ∙ to_z-neg w k (omega arith) ∙ signed_high size n t h

  pub bits_written : (z : ℤ) → of_z w z ≡ unsigned size z
  unfolding unsigned
  bits_written (pos n) = refl
  bits_written (negsuc n) = rw whole refl

-- a number that 16 bits hold is the same in 32
pub widened : (z : ℤ) → SFits w16 z → to_z w32 (of_z w32 (to_z w16 (of_z w16 z))) ≡ z
widened z f = let g : SFits w32 z = fits w32 (of_width w16 f) tt in simp (to_z-of_z, f, g) refl

-- a fix, from its parts
pub fix_parts : (width silence_width : ℕ) (b : List ℕ) (at t : ℕ) (x y : ℤ) (s : ℕ) → t ≡ number_at b at 4 → x ≡ signed width (number_at b (at + 4) width)
    → y ≡ signed width (number_at b (at + 4 + width) width) → s ≡ number_at b (at + 4 + width + width) silence_width
    → ◌≡◌ {A = Fix} (record { t = t; x = x; y = y; silence = s }) (fix_from width silence_width b at)
unfolding fix_from
fix_parts width silence_width b at t x y s p q r z = rw (p, q, r, z) refl

pub no_bytes_say : (b : List ℕ) (at : ℕ) → 0 ≡ number_at b at 0
unfolding number_at
no_bytes_say b at = refl

pub one_byte : (b : List ℕ) (at : ℕ) → get_or b at 0 ≡ number_at b at 1
unfolding number_at
one_byte b at = omega arith

-- one without silence, and the byte of it that follows
pub with_silence : (b : List ℕ) (at s : ℕ) (f : Fix) → f ≡ fix_from 2 0 b at → s ≡ get_or b (at + 8) 0 → ◌≡◌ {A = Fix} (record { t = f.t; x = f.x; y = f.y; silence = s }) (fix_from 2 1 b at)
unfolding fix_from
with_silence b at s f e z =
    let eight : at + 4 + 2 + 2 ≡ at + 8 = omega arith in
    rw (e, z, eight, one_byte b (at + 8)) refl

-- ---- the other way: the number that says a coordinate, where 64 bits hold the sum with 256 to the power of size
pub record NumberFits (size : ℕ) (z : ℤ) : Type 0 where
  pub z32 : SFits w32 z
  pub z64 : SFits w64 z
  pub sum64 : SFits w64 (z +ℤ pos (256 ^ size))

pub number_fits : (size : ℕ) {z : ℤ} → 256 ^ size ≤ 4294967296 → SFits w32 z → NumberFits size z
number_fits size {z} h f =
    let up : Bound (pos (256 ^ size)) = record { top = 4294967296; holds = h } in
    record { z32 = f; z64 = fits w64 (of_width w32 f) tt; sum64 = fits w64 (of_width w32 f ⊕ up) tt }

-- 32 bits are four bytes
pub in_four : {z : ℤ} → SFits w32 z → InBytes 4 z
in_four f = record { in_bytes = omega (arith, f.sfits) }

-- below 0 it is 256 to the power of size more than the coordinate, else the coordinate itself
pub record NumberIs (size : ℕ) (z u : ℤ) : Type 0 where
  pub not_negative : T (non_neg u)
  pub fits32 : Fits w32 (nat_abs u)
  pub is : nat_abs u ≡ unsigned size z

pub number_negative : (size : ℕ) (z : ℤ) → 1 ≤ size → 256 ^ size ≤ 4294967296 → InBytes size z → lt_z z (pos 0) ≡ true → NumberIs size z (z +ℤ pos (256 ^ size))
unfolding unsigned
number_negative size (pos n) o t f h = absurd (false_true (sym (lt_z_false {x = pos n} {y = pos 0} (zero_le n)) ∙ h))
number_negative size (negsuc n) o t f h =
    let small : 2 * n < 256 ^ size = f.in_bytes in
    let g = even size o in
    let e : negsuc n +ℤ pos (256 ^ size) ≡ pos (256 ^ size - suc n) = simp diffs (omega arith) in
    record { not_negative = rw e tt; fits32 = rw e (record { fits = omega arith }); is = rw e refl }

pub number_positive : (size : ℕ) (z : ℤ) → 256 ^ size ≤ 4294967296 → InBytes size z → lt_z z (pos 0) ≡ false → NumberIs size z z
unfolding unsigned
number_positive size (pos n) t f h = let small : 2 * n < 256 ^ size = f.in_bytes in record { not_negative = tt; fits32 = record { fits = omega arith }; is = refl }
number_positive size (negsuc n) t f h = absurd (false_true (sym h))
