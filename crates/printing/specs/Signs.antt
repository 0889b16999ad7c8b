-- Numbers with a sign, as the program prints them.
use Rattle.std.specs.Prelude.{◌≡◌, true, false, ◌+◌, ◌<◌, T, leb, ℤ, pos, negsuc, nat_abs, ◌-ℤ◌}
use Rattle.std.proofs.Common.{sym, ◌∙◌, arith, to_z-of_z}
use Rattle.std.specs.Int.Signed.{lt_z, non_neg}
use Rattle.std.specs.Int.{Width, w64}
use mir.Val.{Fits, SFits, hbits, to_z, of_z}
use Rattle.std.proofs.Math.Facts.{sfits_widen}
use Rattle.distance.specs.Integers.Differences.{diffs}
use Rattle.distance.specs.Integers.Order.{lt_z_false, zero_le}
use Rattle.format.proofs.Laws.Numbers.{false_true}

-- A coordinate fits 64 bits.
pub widened : {w : Width} {z : ℤ} → T (leb (hbits w) (hbits w64)) → SFits w z → SFits w64 (to_z w (of_z w z))
widened {w} n f = rw (to_z-of_z {w = w} f) (sfits_widen n f)

-- Below 0 the digits are those of −1 − z and one more, from 0 on those of z.
pub record Below (z : ℤ) : Type 0 where
  pub less : SFits w64 (negsuc 0 -ℤ z)
  pub unsigned : T (non_neg (negsuc 0 -ℤ z))
  pub word : Fits w64 (nat_abs (negsuc 0 -ℤ z))
  pub one_more : Fits w64 (nat_abs (negsuc 0 -ℤ z) + 1)

pub record FromZero (z : ℤ) : Type 0 where
  pub unsigned : T (non_neg z)
  pub word : Fits w64 (nat_abs z)

pub below : (z : ℤ) → SFits w64 z → lt_z z (pos 0) ≡ true → Below z
below (pos n) f h = absurd (false_true (sym (lt_z_false {x = pos n} {y = pos 0} (zero_le n)) ∙ h))
below (negsuc n) f h =
    let e : negsuc 0 -ℤ negsuc n ≡ pos n = simp diffs (omega arith) in
    let k : n < 9223372036854775808 = f.sfits in
    record { less = rw e (record { sfits = k }); unsigned = rw e tt; word = rw e (record { fits = omega arith }); one_more = rw e (record { fits = omega arith }) }

pub from : (z : ℤ) → SFits w64 z → lt_z z (pos 0) ≡ false → FromZero z
from (pos n) f h = let k : n < 9223372036854775808 = f.sfits in record { unsigned = tt; word = record { fits = omega arith } }
from (negsuc n) f h = absurd (false_true (sym h))
