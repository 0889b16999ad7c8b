-- What marks keep of a trail: part by part, and the marks with which a thinning begins.
use Rattle.std.specs.Prelude.{◌≡◌, Bool, get_or, set, replicate}
use Rattle.std.proofs.Math.Path.{refl, ap}
use Rattle.std.proofs.Common.{sym, ◌∙◌, ⊎_elim, le_refl, eq-or-lt_of_le, length-set, get_or-set_same, get_or-set_other}
use Rattle.std.proofs.Math.Bool.{true, false, cond}
use mathlib.Core.List.{List, [], ◌∷◌, ◌++◌, append-nil, map}
use Prim.Native.Nat.{ℕ, zero, suc, ◌+◌, ◌-◌, ◌<◌, ◌≤◌}
use native.Mathlib.Omega.{arith}
use Rattle.std.proofs.Math.ListN.{length, get_or-eq_default}
use Rattle.std.proofs.lemmas.List.{length-replicate, get_or-replicate}
use Rattle.distance.specs.Integers.Tests.{Test, holds, fails, test}
use Rattle.format.specs.Format.{each}
use Rattle.format.proofs.Laws.Each.{length_each, each_more, each_all}
use Rattle.thinning.specs.Marks.{kept_by, ClearFrom, Cleared, Ready}
use Rattle.distance.specs.Laws.All.{All}

-- ---- lists by position
module _ {A : Type 0} (f : ℕ → A) where
  pub each_append : (k n m : ℕ) → each f k (n + m) ≡ each f k n ++ each f (k + n) m
  unfolding each
  each_append k zero m = let p : 0 + m ≡ m = omega arith in let q : k + 0 ≡ k = omega arith in rw (p, q) refl
  each_append k (suc n) m =
      let p : suc n + m ≡ suc (n + m) = omega arith in
      let q : k + suc n ≡ suc k + n = omega arith in
      rw (p, q) (ap (λ (l : List A). f k ∷ l) (each_append (suc k) n m))

  -- the inner fixes of the span from position lo to position hi
  abbrev pub inner : (lo hi : ℕ) → List A
  inner lo hi = each f (suc lo) (hi - suc lo)

  pub inner_split : (lo m hi : ℕ) → lo < m → m < hi → inner lo hi ≡ inner lo m ++ f m ∷ inner m hi
  unfolding each
  inner_split lo m hi h g =
      let p : hi - suc lo ≡ m - suc lo + suc (hi - suc m) = omega arith in
      let q : suc lo + (m - suc lo) ≡ m = omega arith in
      rw p (each_append (suc lo) (m - suc lo) (suc (hi - suc m)) ∙ rw q refl)

  pub inner_all : {P : A → Type 0} (lo hi : ℕ) → ((i : ℕ) → lo < i → i < hi → P (f i)) → All P (inner lo hi)
  inner_all lo hi h = each_all f (suc lo) (hi - suc lo) (λ i p q. h i p (omega arith))

-- ---- what is marked
module _ {A : Type 0} (marks : List Bool) where
  pub kept_by_append : (k : ℕ) (p q : List A) → kept_by marks k (p ++ q) ≡ kept_by marks k p ++ kept_by marks (k + length p) q
  unfolding kept_by
  kept_by_append k [] q = let e : k + 0 ≡ k = omega arith in rw e refl
  kept_by_append k (i ∷ p) q = let e : k + suc (length p) ≡ suc k + length p = omega arith in rw e (go (kept_by marks (suc k) p) (kept_by marks (suc k + length p) q) (get_or marks k false) (kept_by_append (suc k) p q))
    where
      go : {x : List A} (y z : List A) (b : Bool) → x ≡ y ++ z → cond b (i ∷ x) x ≡ cond b (i ∷ y) y ++ z
      go y z true h = ap (λ (l : List A). i ∷ l) h
      go y z false h = h

  -- of others in their places marks keep those at the same positions
  kept_by_mapped : (f : A → A) (k : ℕ) (l : List A) → kept_by marks k (map f l) ≡ map f (kept_by marks k l)
  unfolding kept_by
  kept_by_mapped f k [] = refl
  kept_by_mapped f k (i ∷ l) = rw (kept_by_mapped f (suc k) l) (go (get_or marks k false))
    where
      go : (b : Bool) → cond b (f i ∷ map f (kept_by marks (suc k) l)) (map f (kept_by marks (suc k) l)) ≡ map f (cond b (i ∷ kept_by marks (suc k) l) (kept_by marks (suc k) l))
      go true = refl
      go false = refl

  -- so marks that tell which of l are those of k tell it of the others in their places, too
  pub same_positions : (f : A → A) (l : List A) {k m n : List A} → m ≡ map f l → n ≡ map f k → k ≡ kept_by marks 0 l → n ≡ kept_by marks 0 m
  same_positions f l all kept h = kept ∙ ap (map f) h ∙ sym (kept_by_mapped f 0 l) ∙ ap (kept_by marks 0) (sym all)

  pub kept_by_length : (k : ℕ) (l : List A) → length (kept_by marks k l) ≤ length l
  unfolding kept_by
  kept_by_length k [] = omega arith
  kept_by_length k (i ∷ l) = go (get_or marks k false) (kept_by_length (suc k) l)
    where
      go : (b : Bool) → length (kept_by marks (suc k) l) ≤ length l → length (cond b (i ∷ kept_by marks (suc k) l) (kept_by marks (suc k) l)) ≤ suc (length l)
      go true h = omega arith
      go false h = omega arith

  -- nothing is marked there
  pub kept_by_none : (k : ℕ) (l : List A) → ((i : ℕ) → k ≤ i → i < k + length l → get_or marks i false ≡ false) → kept_by marks k l ≡ []
  unfolding kept_by
  kept_by_none k [] h = refl
  kept_by_none k (i ∷ l) h = rw (h k (le_refl k) (omega arith)) (kept_by_none (suc k) l (λ i p q. h i (omega arith) (omega arith)))

  -- marks that agree there
  pub kept_by_same : (others : List Bool) (k : ℕ) (l : List A) → ((i : ℕ) → k ≤ i → i < k + length l → get_or marks i false ≡ get_or others i false) → kept_by marks k l ≡ kept_by others k l
  unfolding kept_by
  kept_by_same others k [] h = refl
  kept_by_same others k (i ∷ l) h =
      let rest = kept_by_same others (suc k) l (λ i p q. h i (omega arith) (omega arith)) in
      rw (h k (le_refl k) (omega arith), rest) refl

-- one position more, which is marked or isn't
module _ {A : Type 0} (marks : List Bool) (f : ℕ → A) (n : ℕ) where
  one_more : kept_by marks 0 (each f 0 (n + 1)) ≡ kept_by marks 0 (each f 0 n) ++ kept_by marks n (f n ∷ [])
  one_more =
      let p : n + 1 ≡ suc n = omega arith in
      let q : 0 + n ≡ n = omega arith in
      rw (p, each_more f 0 n, kept_by_append marks 0 (each f 0 n) (f (0 + n) ∷ []), length_each f 0 n, q) refl

  pub kept_by_more : get_or marks n false ≡ true → kept_by marks 0 (each f 0 (n + 1)) ≡ kept_by marks 0 (each f 0 n) ++ f n ∷ []
  unfolding kept_by
  kept_by_more h = one_more ∙ rw h refl

  pub kept_by_skip : get_or marks n false ≡ false → kept_by marks 0 (each f 0 (n + 1)) ≡ kept_by marks 0 (each f 0 n)
  unfolding kept_by
  kept_by_skip h = one_more ∙ rw h (append-nil _)

-- a span in which m is marked
pub kept_inner : {A : Type 0} (f : ℕ → A) (marks : List Bool) (lo m hi : ℕ) → lo < m → m < hi → get_or marks m false ≡ true
    → kept_by marks (suc lo) (inner f lo hi) ≡ kept_by marks (suc lo) (inner f lo m) ++ f m ∷ kept_by marks (suc m) (inner f m hi)
unfolding kept_by
kept_inner f marks lo m hi h g t =
    let e : suc lo + length (inner f lo m) ≡ m = omega (arith, length_each f (suc lo) (m - suc lo)) in
    rw (inner_split f lo m hi h g, kept_by_append marks (suc lo) (inner f lo m) (f m ∷ inner f m hi), e, t) refl

-- the whole stretch from lo on: its first fix, its inner fixes and its last, which are marked
module _ {A : Type 0} (f : ℕ → A) (lo n : ℕ) where
  pub each_ends : each f lo (suc (suc n)) ≡ f lo ∷ (inner f lo (lo + suc n) ++ f (lo + suc n) ∷ [])
  unfolding each
  each_ends =
      let p : lo + suc n - suc lo ≡ n = omega arith in
      let q : suc lo + n ≡ lo + suc n = omega arith in
      rw p (ap (λ (l : List A). f lo ∷ l) (each_more f (suc lo) n ∙ rw q refl))

  pub kept_ends : (marks : List Bool) → get_or marks lo false ≡ true → get_or marks (lo + suc n) false ≡ true
      → kept_by marks lo (f lo ∷ (inner f lo (lo + suc n) ++ f (lo + suc n) ∷ [])) ≡ f lo ∷ (kept_by marks (suc lo) (inner f lo (lo + suc n)) ++ f (lo + suc n) ∷ [])
  unfolding kept_by
  kept_ends marks h g =
      let e : suc lo + length (inner f lo (lo + suc n)) ≡ lo + suc n = omega (arith, length_each f (suc lo) (lo + suc n - suc lo)) in
      rw (h, kept_by_append marks (suc lo) (inner f lo (lo + suc n)) (f (lo + suc n) ∷ []), e, g) refl

-- ---- cleared marks, and the two ends marked
pub cleared_anew : (N : ℕ) → Cleared (replicate N false)
cleared_anew N = record { clear_from = λ k h. go k (test N k) }
  where
    go : (k : ℕ) {b : Bool} → Test N k b → get_or (replicate N false) k false ≡ false
    go k (holds h) = get_or-eq_default (replicate N false) false (rw (length-replicate N false) h)
    go k (fails h) = get_or-replicate N k false false h

pub ready : (marks : List Bool) (lo hi : ℕ) → ClearFrom lo marks → lo ≤ hi → hi < length marks → Ready lo hi (set (set marks lo true) hi true)
ready marks lo hi c h g =
    let both : length (set marks lo true) ≡ length marks = length-set marks lo true in
    record {
      room = rw (length-set (set marks lo true) hi true, both) g;
      first = ⊎_elim (λ (q : lo ≡ hi). rw (← q) (get_or-set_same (set marks lo true) lo true false (rw both (omega arith))))
          (λ (q : lo < hi). get_or-set_other (set marks lo true) hi lo true false (omega arith) ∙ get_or-set_same marks lo true false (omega arith))
          (eq-or-lt_of_le h);
      last = get_or-set_same (set marks lo true) hi true false (rw both g);
      clear = λ k p q. get_or-set_other (set marks lo true) hi k true false (omega arith) ∙ get_or-set_other marks lo k true false (omega arith) ∙ c.clear_from k (omega arith);
    }
