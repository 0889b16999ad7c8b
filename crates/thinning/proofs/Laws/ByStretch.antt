-- Thinning of each stretch between silences by itself: what is proved of one stretch holds of all of them together.
use Rattle.std.specs.Prelude.{◌≡◌, Bool, true}
use Rattle.std.proofs.Math.Path.{refl, ap}
use Rattle.std.proofs.Common.{◌∙◌}
use mathlib.Core.List.{List, [], ◌∷◌, ◌++◌, append-nil, append_assoc, flatten, map, Sublistᴰ}
use Prim.Native.Nat.{ℕ, zero, suc, ◌+◌, ◌*◌, ◌≤◌, max}
use Rattle.std.proofs.Math.Nat.{max-eq_right}
use native.Mathlib.Omega.{arith}
use Rattle.std.proofs.Math.ListN.{length, length-append}
use Rattle.thinning.specs.Thinning.{Thinned, together, stretches, thin, thin_each, thin_stretches}
use Rattle.thinning.proofs.Laws.Stretches.{EndsAt, by_silence, by_last, NoneSilent, Cut, cut_none, cut_more, stretches_cut, cut_stretches, stretches_whole, stretches_parted, one_stretch}
use Rattle.thinning.proofs.Laws.Kept.{Pieces, no_piece, pieces_append, pieces_sublist, thin_pieces, thin_count, last_stays}
use Rattle.thinning.proofs.Laws.Again.{thin_again}

pub together_assoc : {A : Type 0} (a b c : Thinned A) → together a (together b c) ≡ together (together a b) c
together_assoc a b c = let z : a.count + (b.count + c.count) ≡ a.count + b.count + c.count = omega arith in rw (z, append_assoc a.kept b.kept c.kept) refl

-- a count for n fixes: at most (n − 1)(n − 2)/2, and of no fix 0
record Few (c n : ℕ) : Type 0 where
  few : 2 * c + 3 * n ≤ n * n + 2
  fewer : 2 * c ≤ n * n

few_more : (m n c d : ℕ) → 2 * c + 3 * suc m ≤ suc m * suc m + 2 → Few d n → Few (c + d) (suc m + n)
few_more m zero c d h y = let a = y.few in let b = y.fewer in record { few = omega arith; fewer = omega arith }
few_more m (suc n) c d h y = let a = y.few in let b = y.fewer in record { few = omega arith; fewer = omega arith }

module _ {A : Type 0} (far : (i m j : A) → ℕ) (bound : (e : ℕ) (i j : A) → ℕ) where
  -- ---- some stretches, and others after them
  each_append : (e : ℕ) (r s : List (List A)) → thin_each far bound e (r ++ s) ≡ together (thin_each far bound e r) (thin_each far bound e s)
  unfolding thin_each
  each_append e [] s = let z : 0 + (thin_each far bound e s).count ≡ (thin_each far bound e s).count = omega arith in rw z refl
  each_append e (l ∷ r) s = ap (together (thin far bound e l)) (each_append e r s) ∙ together_assoc (thin far bound e l) (thin_each far bound e r) (thin_each far bound e s)

  pub each_pieces : (e : ℕ) (r : List (List A)) → Pieces far bound e (flatten r) (thin_each far bound e r).kept
  unfolding thin_each flatten
  each_pieces e [] = no_piece
  each_pieces e (s ∷ r) = pieces_append far bound (thin_pieces far bound e s) (each_pieces e r)

  -- what stays of each stretch
  abbrev kept_of : (e : ℕ) → List (List A) → List (List A)
  kept_of e r = map (λ (s : List A). (thin far bound e s).kept) r

  module _ (silent : A → Bool) where
    -- ---- A SILENCE PARTS THE THINNING: what stands up to it and what stands after it are thinned each by itself, the counts added
    pub silence_parts : (e : ℕ) (p : List A) (i : A) (q : List A) → silent i ≡ true
        → thin_stretches far bound silent e (p ++ i ∷ q) ≡ together (thin_stretches far bound silent e (p ++ i ∷ [])) (thin_stretches far bound silent e q)
    silence_parts e p i q h = ap (thin_each far bound e) (stretches_parted silent p i q h) ∙ each_append e (stretches silent (p ++ i ∷ [])) (stretches silent q)

    -- without a silence the whole trail is one span
    pub unbroken : (e : ℕ) (l : List A) → NoneSilent silent l → thin_stretches far bound silent e l ≡ thin far bound e l
    unfolding thin_each thin stretches
    unbroken e [] h = refl
    unbroken e (i ∷ l) h =
        let z : (thin far bound e (i ∷ l)).count + 0 ≡ (thin far bound e (i ∷ l)).count = omega arith in
        rw (one_stretch silent i l h) (rw (append-nil (thin far bound e (i ∷ l)).kept, z) refl)

    -- ---- which stay
    pub stretches_pieces : (e : ℕ) (l : List A) → Pieces far bound e l (thin_stretches far bound silent e l).kept
    stretches_pieces e l = rw (stretches_whole silent l) at (each_pieces e (stretches silent l))

    -- ---- what stays is cut where the list was
    ends_kept : (e : ℕ) {j : A} {q : List A} {r : List (List A)} → EndsAt silent j q → Cut silent q r → EndsAt silent j (thin_each far bound e r).kept
    unfolding thin_each stretches
    ends_kept e (by_silence h) c = by_silence h
    ends_kept e by_last c = rw (← cut_stretches silent c) by_last

    kept_cut : (e : ℕ) {l : List A} {r : List (List A)} → Cut silent l r → Cut silent (thin_each far bound e r).kept (kept_of e r)
    unfolding thin_each
    kept_cut e cut_none = cut_none
    kept_cut e (cut_more {p} {q} {j} {r} h n c) =
        let x = last_stays far bound {p = p} e j h in
        rw (x.stays, append_assoc x.before (j ∷ []) (thin_each far bound e r).kept) (cut_more x.before_all (ends_kept e n c) (kept_cut e c))

    pub stretches_kept : (e : ℕ) (l : List A) → stretches silent (thin_stretches far bound silent e l).kept ≡ kept_of e (stretches silent l)
    stretches_kept e l = cut_stretches silent (kept_cut e (stretches_cut silent l))

    -- ---- the count: (n − 1)(n − 2) is n·n − 3·n + 2
    cut_count : (e : ℕ) {l : List A} {r : List (List A)} → Cut silent l r → Few (thin_each far bound e r).count (length l)
    unfolding thin_each
    cut_count e cut_none = record { few = omega arith; fewer = omega arith }
    cut_count e (cut_more {p} {q} {j} {r} h n c) =
        let one : length (p ++ j ∷ []) ≡ suc (length p) = omega (arith, length-append p (j ∷ [])) in
        let all : length (p ++ j ∷ q) ≡ suc (length p) + length q = omega (arith, length-append p (j ∷ q)) in
        rw all (few_more (length p) (length q) (thin far bound e (p ++ j ∷ [])).count (thin_each far bound e r).count (rw one at (thin_count far bound e (p ++ j ∷ []))) (cut_count e c))

    pub stretches_count : (e : ℕ) (l : List A) → 2 * (thin_stretches far bound silent e l).count + 3 * length l ≤ length l * length l + 2
    stretches_count e l = (cut_count e (stretches_cut silent l)).few

    -- ---- thinned again: `grows`, as for one stretch
    module _ (grows : (e f : ℕ) (i j : A) → e ≤ f → bound e i j ≤ bound f i j) where
      each_again : (e f : ℕ) (r : List (List A)) → (thin_each far bound f (kept_of e r)).kept ≡ (thin_each far bound (max e f) r).kept
      unfolding thin_each
      each_again e f [] = refl
      each_again e f (s ∷ r) = rw (thin_again far bound grows e f s, each_again e f r) refl

      pub stretches_again : (e f : ℕ) (l : List A)
          → (thin_stretches far bound silent f (thin_stretches far bound silent e l).kept).kept ≡ (thin_stretches far bound silent (max e f) l).kept
      stretches_again e f l = rw (stretches_kept e l) (each_again e f (stretches silent l))

      -- a greater tolerance keeps only fixes that a smaller one keeps
      pub stretches_greater : (e f : ℕ) (l : List A) → e ≤ f → Sublistᴰ (thin_stretches far bound silent f l).kept (thin_stretches far bound silent e l).kept
      stretches_greater e f l h =
          rw (← max-eq_right h, ← stretches_again e f l) (pieces_sublist far bound (stretches_pieces f (thin_stretches far bound silent e l).kept))
