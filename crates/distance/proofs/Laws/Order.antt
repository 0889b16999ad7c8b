-- What a comparison of two times, lengths or coordinates tells. Their orders are derived, so that `a < b` is `is_lt` of what `cmp` answers of the two numbers, ..
use Rattle.std.specs.Prelude.{◌≡◌, Bool, Option, Some, ℕ, ltb, leb, ℤ}
use Rattle.std.specs.Int.Signed.{lt_z, le_z}
use Rattle.std.specs.Ordering.{nat_cmp, int_cmp, is_lt, is_le, is_gt, is_ge, is_some_and}
use Rattle.std.proofs.Common.{Ordering, arith, rules, ◌∙◌, ap}
use Rattle.std.proofs.lemmas.Bool.Decides.{nat_tests}

-- .. which is the test of those numbers, ..
module _ (a b : ℕ) where
  pub lt_test : is_lt (nat_cmp a b) ≡ ltb a b
  lt_test = grind (arith, nat_tests)

  pub le_test : is_le (nat_cmp a b) ≡ leb a b
  le_test = grind (arith, nat_tests)

  pub gt_test : is_gt (nat_cmp a b) ≡ ltb b a
  gt_test = grind (arith, nat_tests)

  pub ge_test : is_ge (nat_cmp a b) ≡ leb b a
  ge_test = grind (arith, nat_tests)

-- .. also where the answer is an option, as of sums of squares, ..
module _ (a b : ℕ) {r : Bool} {o : Option Ordering} where
  pub lt_tested : r ≡ is_some_and is_lt o → o ≡ Some (nat_cmp a b) → r ≡ ltb a b
  lt_tested t e = t ∙ ap (is_some_and is_lt) e ∙ lt_test a b

  pub le_tested : r ≡ is_some_and is_le o → o ≡ Some (nat_cmp a b) → r ≡ leb a b
  le_tested t e = t ∙ ap (is_some_and is_le) e ∙ le_test a b

-- .. and of numbers with a sign
module _ (a b : ℤ) where
  pub lt_test_z : is_lt (int_cmp a b) ≡ lt_z a b
  lt_test_z = search rules

  pub le_test_z : is_le (int_cmp a b) ≡ le_z a b
  le_test_z = search rules

  pub gt_test_z : is_gt (int_cmp a b) ≡ lt_z b a
  gt_test_z = search rules

  pub ge_test_z : is_ge (int_cmp a b) ≡ le_z b a
  ge_test_z = search rules
