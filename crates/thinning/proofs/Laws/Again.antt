-- Thinning again what was thinned: the greater of the two tolerances decides, in whichever order they come.
use Rattle.std.specs.Prelude.{◌≡◌, Bool, ℕ, ◌+◌, ◌≤◌, max, length}
use Rattle.std.proofs.Math.Path.{refl}
use mathlib.Core.List.{List, [], ◌∷◌, ◌++◌}
use Rattle.std.proofs.Common.{le_refl, arith}
use Rattle.std.proofs.Math.Nat.{max-eq_left, max-eq_right}
use Rattle.distance.specs.Integers.Tests.{Test, holds, fails, test}
use Rattle.thinning.specs.Thinning.{thin_span, thin}
use Rattle.distance.specs.Laws.All.{all_none}
use Rattle.distance.proofs.Laws.All.{all_map}
use Rattle.thinning.proofs.Laws.Furthest.{Tops, tops_most}
use Rattle.thinning.proofs.Laws.Keeps.{Keeps, ends_only, pieces_of, span_keeps, keeps_span}
use Rattle.thinning.proofs.Laws.Kept.{Ends, no_end, one_end, two_ends, ends, keeps_all, thin_ends}

-- `grows`: what is within e is within more
module _ {A : Type 0} (far : (i m j : A) → ℕ) (bound : (e : ℕ) (i j : A) → ℕ) (grows : (e f : ℕ) (i j : A) → e ≤ f → bound e i j ≤ bound f i j) where
  bound_max : (e f : ℕ) (i j : A) → bound (max e f) i j ≡ max (bound e i j) (bound f i j)
  bound_max e f i j = go (test e f)
    where
      go : {t : Bool} → Test e f t → bound (max e f) i j ≡ max (bound e i j) (bound f i j)
      go (holds h) = rw (max-eq_right h) (omega (arith, grows e f i j h))
      go (fails h) = let g : f ≤ e = omega arith in rw (max-eq_left g) (omega (arith, grows f e i j g))

  -- of the span whose inner fixes are l, k of which stay at e, the greater tolerance keeps what f keeps of k
  record Twice (e f : ℕ) (i : A) (l : List A) (j : A) (k : List A) : Type 0 where
    rest : List A
    u : ℕ
    v : ℕ
    whole : Keeps far bound (max e f) i l j rest u
    again : Keeps far bound f i k j rest v

  twice : (f : ℕ) {e : ℕ} {i j : A} {l k : List A} {c : ℕ} → Keeps far bound e i l j k c → Twice e f i l j k
  twice f {e} (ends_only {i} {j} {l} h) =
      record { rest = []; u = length l; v = 0; whole = ends_only {i = i} {j = j} (all_map (λ m g. omega (arith, bound_max e f i j)) h); again = ends_only all_none }
  twice f {e} (pieces_of {i} {j} {w} {p} {q} {k} {r} t g x y) = go (test (far i w j) (bound f i j)) (twice f x) (twice f y)
    where
      both : bound (max e f) i j ≡ max (bound e i j) (bound f i j)
      both = bound_max e f i j

      still : Tops (λ m. far i m j) k w r
      still = record { before = keeps_all far bound x t.before; after = keeps_all far bound y t.after }

      go : {b : Bool} → Test (far i w j) (bound f i j) b → Twice e f i p w k → Twice e f w q j r → Twice e f i (p ++ w ∷ q) j (k ++ w ∷ r)
      go (holds h) one two =
          record {
            rest = [];
            u = length (p ++ w ∷ q);
            v = length (k ++ w ∷ r);
            whole = ends_only (tops_most (λ m. far i m j) _ w t (omega (arith, both)));
            again = ends_only (tops_most (λ m. far i m j) _ w still h);
          }
      go (fails h) one two =
          record {
            rest = one.rest ++ w ∷ two.rest;
            u = length (p ++ w ∷ q) + (one.u + two.u);
            v = length (k ++ w ∷ r) + (one.v + two.v);
            whole = pieces_of t (omega (arith, both)) one.whole two.whole;
            again = pieces_of still h one.again two.again;
          }

  pub thin_again : (e f : ℕ) (l : List A) → (thin far bound f (thin far bound e l).kept).kept ≡ (thin far bound (max e f) l).kept
  unfolding thin
  thin_again e f l = go (ends l)
    where
      go : {l : List A} → Ends l → (thin far bound f (thin far bound e l).kept).kept ≡ (thin far bound (max e f) l).kept
      go no_end = refl
      go (one_end i) = refl
      go (two_ends i l j) =
          let k = (thin_span far bound (length l) e i l j).kept in
          let t = twice f (span_keeps far bound (length l) e i l j (le_refl _)) in
          rw (thin_ends far bound e i l j, thin_ends far bound f i k j, thin_ends far bound (max e f) i l j, keeps_span far bound t.again _ (le_refl _), keeps_span far bound t.whole _ (le_refl _))
