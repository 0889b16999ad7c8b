-- Thinning of a span as a relation, by which every law of it is proved: `thin_span` computes it, and nothing else satisfies it.
use Rattle.std.specs.Prelude.{◌≡◌, Bool, length}
use Rattle.std.proofs.Math.Path.{refl}
use mathlib.Core.List.{List, [], ◌∷◌, ◌++◌}
use Prim.Native.Nat.{ℕ, zero, suc, ◌+◌, ◌≤◌, ◌<◌}
use Rattle.std.proofs.Common.{arith, length-append}
use borrow.Author.Tests.{le-leb, lt-leb}
use Rattle.std.proofs.Math.Dec.{leb}
use Rattle.distance.specs.Integers.Tests.{Test, holds, fails, test}
use Rattle.thinning.specs.Thinning.{Split, thin_span}
use Rattle.distance.specs.Laws.All.{All, all_none}
use Rattle.distance.proofs.Laws.All.{all_map}
use Rattle.thinning.proofs.Laws.Furthest.{Tops, tops_most, FurthestFound, found_none, found_at, furthest_found, furthest_at, every_true, every_false}

module _ {A : Type 0} (far : (i m j : A) → ℕ) (bound : (e : ℕ) (i j : A) → ℕ) where
  -- each of l is within e of the chord from i to j
  abbrev pub AllWithin : (e : ℕ) (i : A) (l : List A) (j : A) → Type 0
  AllWithin e i l j = All (λ m. far i m j ≤ bound e i j) l

  -- of the inner fixes l of the span from i to j those of k stay, and the count is c
  pub data Keeps (e : ℕ) : (i : A) (l : List A) (j : A) (k : List A) (c : ℕ) → Type 0 where
    ends_only : {i j : A} {l : List A} → AllWithin e i l j → Keeps e i l j [] (length l)
    pieces_of : {i j w : A} {p q k r : List A} {c d : ℕ} → Tops (λ m. far i m j) p w q → bound e i j < far i w j → Keeps e i p w k c → Keeps e w q j r d
        → Keeps e i (p ++ w ∷ q) j (k ++ w ∷ r) (length (p ++ w ∷ q) + (c + d))

  -- ---- one step of `thin_span`
  span_ends : (n e : ℕ) (i j : A) (l : List A) → length l ≤ n → AllWithin e i l j → thin_span far bound n e i l j ≡ record { kept = []; count = length l }
  unfolding thin_span
  span_ends zero e i j [] g h = refl
  span_ends zero e i j (m ∷ l) g h = absurd (omega arith)
  span_ends (suc n) e i j l g h = rw (every_true (λ m. leb (far i m j) (bound e i j)) (all_map (λ m z. le-leb _ _ z) h), thin_span)

  span_pieces : (n e : ℕ) (i j w : A) {p q : List A} → Tops (λ m. far i m j) p w q → bound e i j < far i w j
      → thin_span far bound (suc n) e i (p ++ w ∷ q) j
      ≡ record {
        kept = (thin_span far bound n e i p w).kept ++ w ∷ (thin_span far bound n e w q j).kept;
        count = length (p ++ w ∷ q) + ((thin_span far bound n e i p w).count + (thin_span far bound n e w q j).count);
      }
  unfolding thin_span
  span_pieces n e i j w {p} {q} t g =
      rw (every_false (λ m. leb (far i m j) (bound e i j)) p w q (lt-leb _ _ g), thin_span) (rw (furthest_at (λ m. far i m j) w t) refl)

  -- ---- what `thin_span` computes is so ..
  abbrev Does : (n e : ℕ) (i : A) (l : List A) (j : A) → Type 0
  Does n e i l j = Keeps e i l j (thin_span far bound n e i l j).kept (thin_span far bound n e i l j).count

  pub span_keeps : (n e : ℕ) (i : A) (l : List A) (j : A) → length l ≤ n
      → Keeps e i l j (thin_span far bound n e i l j).kept (thin_span far bound n e i l j).count
  span_keeps zero e i [] j h = rw (span_ends zero e i j [] h all_none) (ends_only all_none)
  span_keeps zero e i (m ∷ l) j h = absurd (omega arith)
  span_keeps (suc n) e i l j h = go (furthest_found (λ m. far i m j) l) h (span_keeps n e)
    where
      go : {l : List A} {s : Split A} → FurthestFound (λ m. far i m j) l s → length l ≤ suc n
          → ((i : A) (l : List A) (j : A) → length l ≤ n → Does n e i l j) → Does (suc n) e i l j
      go found_none h rec = rw (span_ends (suc n) e i j [] h all_none) (ends_only all_none)
      go (found_at {p} {q} {w} t) h rec = at_top (test (far i w j) (bound e i j))
        where
          at_top : {r : Bool} → Test (far i w j) (bound e i j) r → Does (suc n) e i (p ++ w ∷ q) j
          at_top (holds g) = let near = tops_most (λ m. far i m j) _ w t g in rw (span_ends (suc n) e i j (p ++ w ∷ q) h near) (ends_only near)
          at_top (fails g) = rw (span_pieces n e i j w t g)
              (pieces_of t g (rec i p w (omega (arith, simp length-append at h))) (rec w q j (omega (arith, simp length-append at h))))

  -- ---- .. and nothing else is
  pub keeps_span : {e : ℕ} {i j : A} {l k : List A} {c : ℕ} → Keeps e i l j k c → (n : ℕ) → length l ≤ n
      → thin_span far bound n e i l j ≡ record { kept = k; count = c }
  keeps_span {e} (ends_only {i} {j} {l} h) n g = span_ends n e i j l g h
  keeps_span (pieces_of t f x y) zero g = absurd (omega (arith, simp length-append at g))
  keeps_span {e} (pieces_of {i} {j} {w} t f x y) (suc n) g =
      rw (span_pieces n e i j w t f, keeps_span x n (omega (arith, simp length-append at g)), keeps_span y n (omega (arith, simp length-append at g)))

  -- ENOUGH IS ENOUGH: from the number of inner fixes on, the depth decides nothing.
  pub enough : (n m e : ℕ) (i : A) (l : List A) (j : A) → length l ≤ n → length l ≤ m → thin_span far bound n e i l j ≡ thin_span far bound m e i l j
  enough n m e i l j h g = keeps_span (span_keeps m e i l j g) n h
