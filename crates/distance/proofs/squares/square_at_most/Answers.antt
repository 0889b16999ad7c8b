use Rattle.distance.specs.Words.{value}
use Rattle.distance.proofs.Laws.Order.{le_tested}
use mathlib.Core.Path.{◌≡◌, refl, ◌∙◌}
use Prim.Native.Nat.{ℕ, ◌+◌, ◌*◌}
use native.Mathlib.Omega.{arith}
use Rattle.distance.specs.Laws.Words.{SquaresInWord, squares_in_word, words_ordered}
use borrow.Author.Rules.{rules}
use Rattle.distance.proofs.squares.square_at_most.Goals as goal
use Rattle.distance.proofs.squares.square_at_most.Goals.{Then-y-z-lt4294967296}

in_word : (c : Then-y-z-lt4294967296) → let a = c.args in SquaresInWord a.x a.y a.z
in_word c = let a = c.args in squares_in_word a.x a.y a.z c.if-x-lt4294967296.true c.if-y-z-lt4294967296.true

pub overflow_mul-result : goal.overflow_mul-result
overflow_mul-result c = let f = in_word c in search rules

pub overflow_mul-result-then-y-z-lt4294967296 : goal.overflow_mul-result-then-y-z-lt4294967296
overflow_mul-result-then-y-z-lt4294967296 c = let f = in_word c in search rules

pub overflow_mul-result-then-y-z-lt4294967296-2 : goal.overflow_mul-result-then-y-z-lt4294967296-2
overflow_mul-result-then-y-z-lt4294967296-2 c = let f = in_word c in search rules

pub overflow_add-result : goal.overflow_add-result
overflow_add-result c = let f = in_word c in search rules

pub returns : goal.returns
returns c =
    let a = c.args in
    let p = c.sum_of_squares in
    let q = c.sum_of_squares-2 in
    le_tested (value p.result) (value q.result) c.le.ensures (words_ordered p.result q.result) ∙ rw (p.ensures.is, q.ensures.is, plain (a.x * a.x)) refl
  where
    plain : (n : ℕ) → n + 0 * 0 ≡ n
    plain n = omega arith
