-- What `furthest` finds, and that it finds nothing else; and the test of all inner fixes.
use Rattle.std.specs.Prelude.{◌≡◌, Bool, true, false, cond, ℕ, ◌≤◌, ◌<◌}
use Rattle.std.proofs.Math.Path.{refl}
use Rattle.std.proofs.Math.Bool.{and-false}
use mathlib.Core.List.{List, [], ◌∷◌, ◌++◌}
use Rattle.std.proofs.Common.{arith}
use borrow.Author.Tests.{le-leb, lt-leb}
use Rattle.distance.specs.Integers.Tests.{Test, holds, fails, test}
use Rattle.thinning.specs.Thinning.{Split, nowhere, split_at, sooner, furthest, every}
use Rattle.distance.specs.Laws.All.{All, all_none, all_more}
use Rattle.distance.proofs.Laws.All.{all_append, all_right, all_head, all_map}

module _ {A : Type 0} where
  -- of p ++ w ∷ q, w is the furthest by g, and the earliest of equals
  pub record Tops (g : A → ℕ) (p : List A) (w : A) (q : List A) : Type 0 where
    pub before : All (λ m. g m < g w) p
    pub after : All (λ m. g m ≤ g w) q

  -- so what w is not above, none is
  pub tops_most : (g : A → ℕ) (n : ℕ) {p : List A} (w : A) {q : List A} → Tops g p w q → g w ≤ n → All (λ m. g m ≤ n) (p ++ w ∷ q)
  tops_most g n w t h = all_append (all_map (λ m k. omega arith) t.before) (all_more h (all_map (λ m k. omega arith) t.after))

  -- what `furthest` finds ..
  pub data FurthestFound (g : A → ℕ) : List A → Split A → Type 0 where
    found_none : FurthestFound g [] nowhere
    found_at : {p q : List A} {w : A} → Tops g p w q → FurthestFound g (p ++ w ∷ q) (split_at p w q)

  found_sooner : (g : A → ℕ) (m : A) {l : List A} {s : Split A} → FurthestFound g l s → FurthestFound g (m ∷ l) (sooner g m l s)
  unfolding sooner
  found_sooner g m found_none = found_at {p = []} (record { before = all_none; after = all_none })
  found_sooner g m (found_at {p} {q} {w} t) = go (test (g w) (g m))
    where
      go : {b : Bool} → Test (g w) (g m) b → FurthestFound g (m ∷ (p ++ w ∷ q)) (cond b (split_at [] m (p ++ w ∷ q)) (split_at (m ∷ p) w q))
      go (holds h) = found_at {p = []} (record { before = all_none; after = tops_most g (g m) w t h })
      go (fails h) = found_at {p = m ∷ p} (record { before = all_more h t.before; after = t.after })

  pub furthest_found : (g : A → ℕ) (l : List A) → FurthestFound g l (furthest g l)
  unfolding furthest
  furthest_found g [] = found_none
  furthest_found g (m ∷ l) = found_sooner g m (furthest_found g l)

  -- .. and it finds nothing else
  sooner_head : (g : A → ℕ) (w : A) {q : List A} {s : Split A} → FurthestFound g q s → All (λ m. g m ≤ g w) q → sooner g w q s ≡ split_at [] w q
  unfolding sooner
  sooner_head g w found_none h = refl
  sooner_head g w (found_at {p} t) h = rw (le-leb _ _ (all_head (all_right p h)))

  furthest_go : (g : A → ℕ) (w : A) {p q : List A} → All (λ m. g m < g w) p → All (λ m. g m ≤ g w) q → furthest g (p ++ w ∷ q) ≡ split_at p w q
  unfolding furthest sooner
  furthest_go g w {q} all_none k = sooner_head g w (furthest_found g q) k
  furthest_go g w (all_more h hs) k = rw (furthest_go g w hs k, lt-leb _ _ h)

  pub furthest_at : (g : A → ℕ) (w : A) {p q : List A} → Tops g p w q → furthest g (p ++ w ∷ q) ≡ split_at p w q
  furthest_at g w t = furthest_go g w t.before t.after

  -- ---- whether all pass a test
  pub every_true : (t : A → Bool) {l : List A} → All (λ m. t m ≡ true) l → every t l ≡ true
  unfolding every
  every_true t all_none = refl
  every_true t (all_more h hs) = rw (h, every_true t hs)

  pub every_false : (t : A → Bool) (p : List A) (w : A) (q : List A) → t w ≡ false → every t (p ++ w ∷ q) ≡ false
  unfolding every
  every_false t [] w q h = rw h
  every_false t (m ∷ p) w q h = rw (every_false t p w q h) (and-false (t m))
