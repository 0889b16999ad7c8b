-- "both ends of a silence are always kept": what thinning keeps has the silences that the trail has, each from the same fix to the same.
use Rattle.std.specs.Prelude.{◌≡◌, Bool, true, false, cond, ℕ}
use Rattle.std.proofs.Math.Path.{refl, ap}
use Rattle.std.proofs.Common.{◌∙◌}
use mathlib.Core.List.{List, [], ◌∷◌, ◌++◌, append_assoc}
use Rattle.distance.specs.Fix.{last_of}
use Rattle.distance.specs.Laws.All.{all_none, all_more}
use Rattle.distance.proofs.Laws.All.{last_more}
use Rattle.thinning.specs.Thinning.{but_last, thin_each, thin_stretches}
use Rattle.thinning.proofs.Laws.Stretches.{NoneSilent, Cut, cut_none, cut_more, cut_whole, stretches_cut}
use Rattle.thinning.proofs.Laws.Kept.{SameEnds, no_fixes, same_ends, pieces_ends, last_stays}
use Rattle.thinning.proofs.Laws.ByStretch.{silence_parts, each_pieces, stretches_pieces}

module _ {A : Type 0} where
  -- i and j are of k, j directly after i
  pub record Neighbours (i j : A) (k : List A) : Type 0 where
    pub before : List A
    pub after : List A
    pub stand : k ≡ before ++ i ∷ j ∷ after

  but_last_last : (i : A) (l : List A) → i ∷ l ≡ but_last i l ++ last_of i l ∷ []
  unfolding but_last last_of
  but_last_last i [] = refl
  but_last_last i (m ∷ l) = ap (λ (k : List A). i ∷ k) (but_last_last m l)

  record IsLast (i : A) (k : List A) : Type 0 where
    ahead : List A
    is_last : k ≡ ahead ++ i ∷ []

  last_same : (p : List A) (i : A) {k : List A} → SameEnds (p ++ i ∷ []) k → IsLast i k
  unfolding last_of
  last_same [] i (same_ends {k} e) = record { ahead = but_last i k; is_last = but_last_last i k ∙ rw e refl }
  last_same (m ∷ p) i (same_ends {k} e) = record { ahead = but_last m k; is_last = but_last_last m k ∙ rw (e, last_more m p i) refl }

  neighbours : {i j : A} {m k n : List A} → IsLast i k → SameEnds (j ∷ m) n → Neighbours i j (k ++ n)
  neighbours {i} {j} x (same_ends {k} e) =
      record { before = x.ahead; after = k; stand = ap (λ (l : List A). l ++ j ∷ k) x.is_last ∙ append_assoc x.ahead (i ∷ []) (j ∷ k) }

  module _ (silent : A → Bool) where
    -- the silences of a list: each from a fix that silence follows to the next
    unfoldable pub silences_from : A → List A → List (A × A)
    silences_from i [] = []
    silences_from i (j ∷ l) = cond (silent i) ((i, j) ∷ silences_from j l) (silences_from j l)

    unfoldable pub silences : List A → List (A × A)
    silences [] = []
    silences (i ∷ l) = silences_from i l

    no_silence : {i : A} (l : List A) → silent i ≡ false → silences (i ∷ l) ≡ silences l
    unfolding silences silences_from
    no_silence [] h = refl
    no_silence (j ∷ l) h = rw h refl

    silences_skip : {p : List A} (q : List A) → NoneSilent silent p → silences (p ++ q) ≡ silences q
    silences_skip q all_none = refl
    silences_skip q (all_more {l} h g) = no_silence (l ++ q) h ∙ silences_skip q g

    silences_more : (j : A) {l k : List A} → SameEnds l k → silences k ≡ silences l → silences (j ∷ k) ≡ silences (j ∷ l)
    unfolding silences silences_from
    silences_more j no_fixes h = refl
    silences_more j (same_ends e) h = rw h refl

module _ {A : Type 0} (far : (i m j : A) → ℕ) (bound : (e : ℕ) (i j : A) → ℕ) (silent : A → Bool) where
  -- ---- THE SILENCES STAY, all of them and no other
  silences_cut : (e : ℕ) {l : List A} {r : List (List A)} → Cut silent l r → silences silent (thin_each far bound e r).kept ≡ silences silent l
  unfolding thin_each
  silences_cut e cut_none = refl
  silences_cut e (cut_more {p} {q} {j} {r} h n c) =
      let x = last_stays far bound {p = p} e j h in
      let k = (thin_each far bound e r).kept in
      rw (x.stays, append_assoc x.before (j ∷ []) k, silences_skip silent (j ∷ k) x.before_all, silences_skip silent (j ∷ q) h)
      (silences_more silent j (rw (cut_whole silent c) at (pieces_ends far bound (each_pieces far bound e r))) (silences_cut e c))

  pub silences_stay : (e : ℕ) (l : List A) → silences silent (thin_stretches far bound silent e l).kept ≡ silences silent l
  silences_stay e l = silences_cut e (stretches_cut silent l)

  -- ---- so BOTH ENDS OF EACH STAY, and nothing comes between them
  pub both_ends_stay : (e : ℕ) (p : List A) (i j : A) (q : List A) → silent i ≡ true → Neighbours i j (thin_stretches far bound silent e (p ++ i ∷ j ∷ q)).kept
  both_ends_stay e p i j q h =
      rw (silence_parts far bound silent e p i (j ∷ q) h)
      (neighbours (last_same p i (pieces_ends far bound (stretches_pieces far bound silent e (p ++ i ∷ [])))) (pieces_ends far bound (stretches_pieces far bound silent e (j ∷ q))))
