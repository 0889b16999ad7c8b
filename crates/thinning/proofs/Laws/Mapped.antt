-- Thinning looks at nothing but where silences are and how what fixes measure compares. So if each fix is changed, and whether silence follows it, of any two the
-- further one and of each whether it is within the tolerance is as before, it keeps the changed ones of those that it kept, and the count is the same. The
-- tolerance may be changed with them: e before, d afterwards.
use Rattle.std.specs.Prelude.{◌≡◌, Bool, ℕ, ◌+◌, ◌≤◌, ◌<◌, leb, length}
use Rattle.std.proofs.Math.Path.{refl, ap}
use Rattle.std.proofs.Common.{◌∙◌, subst, arith, length-append, leb-true, leb-false, le-leb}
use mathlib.Core.List.{List, [], ◌∷◌, ◌++◌, map, map-append}
use Rattle.std.proofs.Math.ListN.{length-map}
use Rattle.std.proofs.lemmas.Bool.{lt-leb}
use Rattle.distance.specs.Fix.{last_of}
use Rattle.distance.proofs.Laws.All.{all_mapped, last_mapped}
use Rattle.thinning.specs.Thinning.{but_last, Thinned, thin_span, thin, thin_each, thin_stretches, stretches}
use Rattle.thinning.proofs.Laws.Stretches.{stretches_mapped}
use Rattle.thinning.proofs.Laws.Furthest.{Tops}
use Rattle.thinning.proofs.Laws.Keeps.{AllWithin, Keeps, ends_only, pieces_of, span_keeps, keeps_span}

-- what a test that is as before says
still_most : {m n x y : ℕ} → leb x y ≡ leb m n → m ≤ n → x ≤ y
still_most {m} {n} {x} {y} e h = leb-true x y (e ∙ le-leb m n h)

still_below : {m n x y : ℕ} → leb x y ≡ leb m n → n < m → y < x
still_below {m} {n} {x} {y} e h = leb-false x y (e ∙ lt-leb m n h)

module _ {A : Type 0} (f : A → A) where
  -- what is kept, changed, and the count
  abbrev pub mapped : Thinned A → Thinned A
  mapped t = record { kept = map f t.kept; count = t.count }

  but_last_mapped : (m : A) (l : List A) → but_last (f m) (map f l) ≡ map f (but_last m l)
  unfolding but_last
  but_last_mapped m [] = refl
  but_last_mapped m (n ∷ l) = ap (λ (k : List A). f m ∷ k) (but_last_mapped n l)

  module _ (far : (i m j : A) → ℕ) (bound : (e : ℕ) (i j : A) → ℕ) where
    module _ (e d : ℕ) (same_further : (i m n j : A) → leb (far (f i) (f m) (f j)) (far (f i) (f n) (f j)) ≡ leb (far i m j) (far i n j))
        (same_within : (i m j : A) → leb (far (f i) (f m) (f j)) (bound d (f i) (f j)) ≡ leb (far i m j) (bound e i j)) where
      within_mapped : (i j : A) {l : List A} → AllWithin far bound e i l j → AllWithin far bound d (f i) (map f l) (f j)
      within_mapped i j h = all_mapped f (λ m g. still_most (same_within i m j) g) h

      tops_mapped : (i j w : A) {p q : List A} → Tops (λ m. far i m j) p w q → Tops (λ m. far (f i) m (f j)) (map f p) (f w) (map f q)
      tops_mapped i j w t = record { before = all_mapped f (λ m g. still_below (same_further i w m j) g) t.before; after = all_mapped f (λ m g. still_most (same_further i m w j) g) t.after }

      keeps_mapped : {i j : A} {l k : List A} {c : ℕ} → Keeps far bound e i l j k c → Keeps far bound d (f i) (map f l) (f j) (map f k) c
      keeps_mapped (ends_only {i} {j} {l} h) = subst (λ (n : ℕ). Keeps far bound d (f i) (map f l) (f j) [] n) (length-map l f) (ends_only (within_mapped i j h))
      keeps_mapped (pieces_of {i} {j} {w} {p} {q} {k} {r} {c} {d = more} t g x y) =
          let many : length (map f p ++ f w ∷ map f q) ≡ length (p ++ w ∷ q) = simp (length-append, length-map) in
          rw (map-append f p (w ∷ q), map-append f k (w ∷ r))
          (subst (λ (n : ℕ). Keeps far bound d (f i) (map f p ++ f w ∷ map f q) (f j) (map f k ++ f w ∷ map f r) (n + (c + more))) many
          (pieces_of (tops_mapped i j w t) (still_below (same_within i w j) g) (keeps_mapped x) (keeps_mapped y)))

      span_mapped : (n : ℕ) (i : A) (l : List A) (j : A) → length l ≤ n → thin_span far bound n d (f i) (map f l) (f j) ≡ mapped (thin_span far bound n e i l j)
      span_mapped n i l j h = keeps_span far bound (keeps_mapped (span_keeps far bound n e i l j h)) n (rw (length-map l f) h)

      -- one stretch, and each of them
      stretch_alike : (l : List A) → thin far bound d (map f l) ≡ mapped (thin far bound e l)
      unfolding thin
      stretch_alike [] = refl
      stretch_alike (i ∷ []) = refl
      stretch_alike (i ∷ m ∷ l) =
          let inner = but_last m l in
          let j = last_of m l in
          rw (but_last_mapped m l, last_mapped f m l, length-map inner f, span_mapped (length inner) i inner j (omega arith), map-append f (thin_span far bound (length inner) e i inner j).kept (j ∷ [])) refl

      each_alike : (r : List (List A)) → thin_each far bound d (map (map f) r) ≡ mapped (thin_each far bound e r)
      unfolding thin_each
      each_alike [] = refl
      each_alike (s ∷ r) = rw (stretch_alike s, each_alike r, map-append f (thin far bound e s).kept (thin_each far bound e r).kept) refl

      -- THE LAW: if silence follows the changed ones where it followed
      pub thin_alike : (silent : A → Bool) → ((i : A) → silent (f i) ≡ silent i) → (l : List A) → thin_stretches far bound silent d (map f l) ≡ mapped (thin_stretches far bound silent e l)
      thin_alike silent same_silent l = ap (thin_each far bound d) (stretches_mapped silent f same_silent l) ∙ each_alike (stretches silent l)

    -- so too, at one tolerance, if no fix measures otherwise
    pub thin_mapped : ((i m j : A) → far (f i) (f m) (f j) ≡ far i m j) → ((e : ℕ) (i j : A) → bound e (f i) (f j) ≡ bound e i j) → (e : ℕ) (silent : A → Bool)
        → ((i : A) → silent (f i) ≡ silent i) → (l : List A) → thin_stretches far bound silent e (map f l) ≡ mapped (thin_stretches far bound silent e l)
    thin_mapped same-far same_bound e = thin_alike e e (λ i m n j. rw (same-far i m j, same-far i n j) refl) (λ i m j. rw (same-far i m j, same_bound e i j) refl)
