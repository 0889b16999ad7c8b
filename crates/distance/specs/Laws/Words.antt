-- Laws of numbers in two words.
use Rattle.std.specs.Prelude.{◌≡◌, refl, Some, true, false, not, ℕ, suc, ◌+◌, ◌*◌, ◌-◌, ◌/◌, ◌%◌, ◌≤◌, ◌<◌, ltb, leb}
use Rattle.std.specs.Ordering.{nat_cmp, partial_ordering_then}
use Rattle.std.proofs.lemmas.Bool.Decides.{nat_tests}
use Rattle.std.proofs.Common.{sym, mul-le-mul, arith, lt-ltb, le-ltb}
use mathlib.Core.HLevel.{is_prop→PathP}
use Rattle.std.proofs.Math.Bridge.{le_prop}
use Rattle.distance.specs.declared.words.Parts.{Parts}
use Rattle.distance.specs.declared.words.Words.{Words}
use Rattle.distance.specs.Words.{value, WordsOf}
use Rattle.distance.specs.Integers.Tests.{same_test, not_greater}

-- ---- the square of a number below 2⁴⁰ before its words are normal: so small that two of them can be added
abbrev pub sum_of_parts : Parts → ℕ
sum_of_parts w = w.high * 4294967296 + w.low

pub record PartsOf (n : ℕ) (w : Parts) : Type 0 where
  pub is : sum_of_parts w ≡ n
  pub high_small : w.high < 4611686018427387904
  pub low_small : w.low < 4611686018427387904

square_cut : (x a b : ℕ) → x ≡ a * 65536 + b → a * a * 4294967296 + b * (x + x - b) ≡ x * x
square_cut x a b h = let e : x + x - b ≡ a * 131072 + b = omega arith in rw (e, h) (omega arith)

pub square_parts : (x : ℕ) → x < 1099511627776 → PartsOf (x * x) (record { high = x / 65536 * (x / 65536); low = x % 65536 * (x + x - x % 65536) })
square_parts x h = record {
  is = square_cut x (x / 65536) (x % 65536) (omega arith);
  high_small = omega (arith, mul-le-mul {n₁ = x / 65536} {m₁ = x / 65536} {n₂ = 16777215} {m₂ = 16777215} (omega arith) (omega arith));
  low_small = omega (arith, mul-le-mul {n₁ = x % 65536} {m₁ = x + x - x % 65536} {n₂ = 65535} {m₂ = 2199023255551} (omega arith) (omega arith));
}

-- ---- the words decide as the numbers do, the high ones first
pub words_ordered : (v w : Words)
    → partial_ordering_then (Some (nat_cmp v.high w.high)) (Some (nat_cmp v.low w.low)) ≡ Some (nat_cmp (value v) (value w))
words_ordered v w = grind (arith, nat_tests)

-- Said of the test "greater" alone: the greater high word decides, either way, and with the same high words the low ones do.
module _ (v w : Words) (n : (v.low < 4294967296) × (w.low < 4294967296)) where
  pub higher : w.high < v.high → true ≡ ltb (value w) (value v)
  higher h = sym (lt-ltb (value w) (value v) (omega arith))

  pub lower : v.high < w.high → false ≡ ltb (value w) (value v)
  lower h = sym (le-ltb (value w) (value v) (omega arith))

  pub level : w.high ≤ v.high → v.high ≤ w.high → ltb w.low v.low ≡ ltb (value w) (value v)
  level h k = same_test (suc w.low) v.low (suc (value w)) (value v) ((λ l. omega arith), (λ l. omega arith))

-- ---- a number has one pair of words
pub words_unique : {n : ℕ} {v w : Words} → WordsOf n v → WordsOf n w → v ≡ w
words_unique {v} {w} p q = same v w (omega (arith, p.is, p.normal, q.is, q.normal)) (omega (arith, p.is, p.normal, q.is, q.normal))
  where
    same : (v w : Words) → v.high ≡ w.high → v.low ≡ w.low → v ≡ w
    same v w h l i = record { high = h i; low = l i; normal = is_prop→PathP (λ j. l j < 4294967296) (λ j. le_prop) v.normal w.normal i }

-- ONE WORD OR TWO DECIDES NOTHING: numbers in two words compare with each other, and with a number in one, as the numbers do.
pub one_or_two : {n k : ℕ} {v w : Words} → WordsOf n v → WordsOf k w → (ltb (value v) (value w) ≡ ltb n k) × (leb (value v) k ≡ leb n k)
one_or_two p q = (rw (p.is, q.is) refl, rw p.is refl)

pub words_at_most : {n k : ℕ} {v w : Words} → WordsOf n v → WordsOf k w → not (ltb (value w) (value v)) ≡ leb n k
words_at_most {n} {k} p q = rw (p.is, q.is) (not_greater n k)

-- ---- squares that one word holds: x², y² and z² and the sum of the last two
pub record SquaresInWord (x y z : ℕ) : Type 0 where
  pub xx : x * x < 18446744073709551616
  pub yy : y * y < 18446744073709551616
  pub zz : z * z < 18446744073709551616
  pub sum : y * y + z * z < 18446744073709551616

pub squares_in_word : (x y z : ℕ) → x < 4294967296 → y + z < 4294967296 → SquaresInWord x y z
squares_in_word x y z h k =
    let all = mul-le-mul {n₁ = y + z} {m₁ = y + z} {n₂ = 4294967295} {m₂ = 4294967295} (omega arith) (omega arith) in
    record {
      xx = omega (arith, mul-le-mul {n₁ = x} {m₁ = x} {n₂ = 4294967295} {m₂ = 4294967295} (omega arith) (omega arith));
      yy = omega arith;
      zz = omega arith;
      sum = omega arith;
    }
