-- Lists by position: `each f k n` is f k, f (k + 1) and so on, n of them.
use Rattle.std.specs.Prelude.{◌≡◌, length}
use Rattle.std.proofs.Math.Path.{refl, ap}
use mathlib.Core.List.{List, [], ◌∷◌, ◌++◌}
use Prim.Native.Nat.{ℕ, zero, suc, ◌+◌, ◌-◌, ◌<◌, ◌≤◌}
use native.Mathlib.Omega.{arith}
use Rattle.distance.specs.Laws.All.{All, all_none, all_more}
use Rattle.format.specs.Format.{each}

module _ {A : Type 0} where
  pub length_each : (f : ℕ → A) (k n : ℕ) → length (each f k n) ≡ n
  unfolding each
  length_each f k zero = refl
  length_each f k (suc n) = ap suc (length_each f (suc k) n)

  -- one more at the end
  pub each_more : (f : ℕ → A) (k n : ℕ) → each f k (suc n) ≡ each f k n ++ f (k + n) ∷ []
  unfolding each
  each_more f k zero = let e : k ≡ k + 0 = omega arith in rw (← e) refl
  each_more f k (suc n) = let e : suc k + n ≡ k + suc n = omega arith in rw (← e) (ap (λ (l : List A). f k ∷ l) (each_more f (suc k) n))

  -- functions that agree there give the same list
  pub each_same : (f g : ℕ → A) (k n : ℕ) → ((i : ℕ) → k ≤ i → i < k + n → f i ≡ g i) → each f k n ≡ each g k n
  unfolding each
  each_same f g k zero h = refl
  each_same f g k (suc n) h = rw (h k (omega arith) (omega arith)) (ap (λ (l : List A). g k ∷ l) (each_same f g (suc k) n (λ i p q. h i (omega arith) (omega arith))))

  -- by one position later
  pub each_shift : (f g : ℕ → A) (k n : ℕ) → ((i : ℕ) → f (suc i) ≡ g i) → each f (suc k) n ≡ each g k n
  unfolding each
  each_shift f g k zero h = refl
  each_shift f g k (suc n) h = rw (h k) (ap (λ (l : List A). g k ∷ l) (each_shift f g (suc k) n h))

  -- a list that isn't empty begins with f k
  pub each_first : (f : ℕ → A) (k n : ℕ) → 0 < n → each f k n ≡ f k ∷ each f (suc k) (n - 1)
  unfolding each
  each_first f k zero h = absurd (omega arith)
  each_first f k (suc n) h = let e : suc n - 1 ≡ n = omega arith in rw e refl

  -- what holds at each position holds of all ..
  pub each_all : {P : A → Type 0} (f : ℕ → A) (k n : ℕ) → ((i : ℕ) → k ≤ i → i < k + n → P (f i)) → All P (each f k n)
  unfolding each
  each_all f k zero h = all_none
  each_all f k (suc n) h = all_more (h k (omega arith) (omega arith)) (each_all f (suc k) n (λ i p q. h i (omega arith) (omega arith)))

  -- .. and what holds of all holds at each
  all_from : {P : A → Type 0} (f : ℕ → A) (k n i : ℕ) → All P (each f k n) → i < n → P (f (k + i))
  unfolding each
  all_from f k (suc n) zero (all_more h t) less = let e : k + 0 ≡ k = omega arith in rw e h
  all_from f k (suc n) (suc i) (all_more h t) less = let e : suc k + i ≡ k + suc i = omega arith in rw (← e) (all_from f (suc k) n i t (omega arith))
  all_from f k zero i h less = absurd (omega arith)

  pub all_at : {P : A → Type 0} (f : ℕ → A) (n i : ℕ) → All P (each f 0 n) → i < n → P (f i)
  all_at f n i h less = let e : 0 + i ≡ i = omega arith in rw e at (all_from f 0 n i h less)
