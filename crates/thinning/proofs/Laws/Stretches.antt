-- The stretches between silences: how a list is cut, as a relation, by which the laws of thinning them are proved. `stretches` computes it, and nothing else
-- satisfies it.
use Rattle.std.specs.Prelude.{◌≡◌, Bool}
use Rattle.std.proofs.Math.Path.{refl}
use Rattle.std.proofs.Common.{◌∙◌}
use Rattle.std.proofs.Math.Bool.{true, false, cond}
use mathlib.Core.List.{List, [], ◌∷◌, ◌++◌, append-nil, append_assoc, flatten, map}
use Rattle.distance.specs.Laws.All.{All, all_none, all_more}
use Rattle.thinning.specs.Thinning.{joined, stretches}

module _ {A : Type 0} (silent : A → Bool) where
  -- A stretch ends with j, which q follows: silence follows j, or j is the last.
  pub data EndsAt (j : A) : List A → Type 0 where
    by_silence : {q : List A} → silent j ≡ true → EndsAt j q
    by_last : EndsAt j []

  -- silence follows none of them
  abbrev pub NoneSilent : List A → Type 0
  NoneSilent p = All (λ i. silent i ≡ false) p

  -- A list is cut into stretches: there is nothing to cut, or a stretch ends with j, and what follows is cut.
  pub data Cut : (l : List A) (r : List (List A)) → Type 0 where
    cut_none : Cut [] []
    cut_more : {p q : List A} {j : A} {r : List (List A)} → NoneSilent p → EndsAt j q → Cut q r → Cut (p ++ j ∷ q) ((p ++ j ∷ []) ∷ r)

  -- ---- so does `stretches` ..
  cut_joined : (i : A) {l : List A} {r : List (List A)} → silent i ≡ false → Cut l r → Cut (i ∷ l) (joined i r)
  unfolding joined
  cut_joined i h cut_none = cut_more {p = []} all_none by_last cut_none
  cut_joined i h (cut_more {p} g e c) = cut_more {p = i ∷ p} (all_more h g) e c

  pub stretches_cut : (l : List A) → Cut l (stretches silent l)
  unfolding stretches
  stretches_cut [] = cut_none
  stretches_cut (i ∷ l) = go (silent i) refl (stretches_cut l)
    where
      go : (b : Bool) → silent i ≡ b → Cut l (stretches silent l) → Cut (i ∷ l) (cond b ((i ∷ []) ∷ stretches silent l) (joined i (stretches silent l)))
      go true h c = cut_more {p = []} all_none (by_silence h) c
      go false h c = cut_joined i h c

  -- ---- .. and nothing else does
  -- the first stretch ends with j
  pub first_stretch : {p q : List A} {j : A} → NoneSilent p → EndsAt j q → stretches silent (p ++ j ∷ q) ≡ (p ++ j ∷ []) ∷ stretches silent q
  unfolding stretches joined
  first_stretch all_none (by_silence h) = rw h refl
  first_stretch {j} all_none by_last = go (silent j)
    where
      go : (b : Bool) → cond b ((j ∷ []) ∷ []) (joined j []) ≡ (j ∷ []) ∷ []
      go true = refl
      go false = refl
  first_stretch (all_more h g) e = rw (h, first_stretch g e) refl

  pub cut_stretches : {l : List A} {r : List (List A)} → Cut l r → stretches silent l ≡ r
  unfolding stretches
  cut_stretches cut_none = refl
  cut_stretches (cut_more h e c) = rw (first_stretch h e, cut_stretches c) refl

  -- ---- the stretches put together are the list
  pub cut_whole : {l : List A} {r : List (List A)} → Cut l r → flatten r ≡ l
  unfolding flatten
  cut_whole cut_none = refl
  cut_whole (cut_more {p} {q} {j} h e c) = rw (cut_whole c, append_assoc p (j ∷ []) q) refl

  pub stretches_whole : (l : List A) → flatten (stretches silent l) ≡ l
  stretches_whole l = cut_whole (stretches_cut l)

  -- ---- A SILENCE PARTS A LIST: what stands up to i, which silence follows, is cut by itself, and so is what stands after it
  record Parted (p : List A) (i : A) : Type 0 where
    first : List A
    others : List (List A)
    parted : (q : List A) → stretches silent (p ++ i ∷ q) ≡ (first ∷ others) ++ stretches silent q

  parts : (p : List A) (i : A) → silent i ≡ true → Parted p i
  unfolding stretches joined
  parts [] i h = record { first = i ∷ []; others = []; parted = λ q. rw h refl }
  parts (m ∷ p) i h = go (silent m) refl (parts p i h)
    where
      go : (b : Bool) → silent m ≡ b → Parted p i → Parted (m ∷ p) i
      go true e x = record { first = m ∷ []; others = x.first ∷ x.others; parted = λ q. rw (e, x.parted q) refl }
      go false e x = record { first = m ∷ x.first; others = x.others; parted = λ q. rw (e, x.parted q) refl }

  pub stretches_parted : (p : List A) (i : A) (q : List A) → silent i ≡ true → stretches silent (p ++ i ∷ q) ≡ stretches silent (p ++ i ∷ []) ++ stretches silent q
  unfolding stretches
  stretches_parted p i q h =
      let x = parts p i h in
      let before : stretches silent (p ++ i ∷ []) ≡ x.first ∷ x.others = x.parted [] ∙ append-nil _ in
      rw (x.parted q, before) refl

  -- ---- a list that no silence parts is one stretch
  pub one_stretch : (i : A) (l : List A) → NoneSilent (i ∷ l) → stretches silent (i ∷ l) ≡ (i ∷ l) ∷ []
  unfolding stretches joined
  one_stretch i [] (all_more h g) = rw h refl
  one_stretch i (j ∷ l) (all_more h g) = rw (h, one_stretch j l g) refl

-- ---- of each changed by f, with silence where it was
module _ {A : Type 0} (silent : A → Bool) (f : A → A) (same_silent : (i : A) → silent (f i) ≡ silent i) where
  joined_mapped : (i : A) (r : List (List A)) → joined (f i) (map (map f) r) ≡ map (map f) (joined i r)
  unfolding joined
  joined_mapped i [] = refl
  joined_mapped i (s ∷ r) = refl

  pub stretches_mapped : (l : List A) → stretches silent (map f l) ≡ map (map f) (stretches silent l)
  unfolding stretches
  stretches_mapped [] = refl
  stretches_mapped (i ∷ l) = rw (same_silent i, stretches_mapped l, joined_mapped i (stretches silent l)) (go (silent i))
    where
      go : (b : Bool) → cond b ((f i ∷ []) ∷ map (map f) (stretches silent l)) (map (map f) (joined i (stretches silent l))) ≡ map (map f) (cond b ((i ∷ []) ∷ stretches silent l) (joined i (stretches silent l)))
      go true = refl
      go false = refl
