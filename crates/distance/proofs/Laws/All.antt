-- A property of each member of a list, and the last member.
use Rattle.std.specs.Prelude.{◌≡◌, ℕ, zero, suc, drop, set}
use Rattle.std.proofs.Math.Path.{refl}
use mathlib.Core.List.{List, [], ◌∷◌, ◌++◌, map}
use Rattle.std.proofs.lemmas.List.Edits.{sets}
use Rattle.distance.specs.Fix.{last_of}
use Rattle.distance.specs.Laws.All.{All, all_more, all_none}

module _ {A : Type 0} where
  module _ {P : A → Type 0} where
    pub all_always : ((m : A) → P m) → (l : List A) → All P l
    all_always f [] = all_none
    all_always f (m ∷ l) = all_more (f m) (all_always f l)

    pub all_append : {p q : List A} → All P p → All P q → All P (p ++ q)
    all_append all_none k = k
    all_append (all_more h hs) k = all_more h (all_append hs k)

    pub all_left : (p q : List A) → All P (p ++ q) → All P p
    all_left [] q h = all_none
    all_left (m ∷ p) q (all_more h hs) = all_more h (all_left p q hs)

    pub all_right : (p : List A) {q : List A} → All P (p ++ q) → All P q
    all_right [] h = h
    all_right (m ∷ p) (all_more h hs) = all_right p hs

    pub all_drop : (n : ℕ) {l : List A} → All P l → All P (drop n l)
    all_drop zero h = h
    all_drop (suc n) all_none = all_none
    all_drop (suc n) (all_more h hs) = all_drop n hs

    all_set : (i : ℕ) (a : A) {l : List A} → P a → All P l → All P (set l i a)
    all_set i a p all_none = all_none
    all_set zero a p (all_more h hs) = all_more p hs
    all_set (suc i) a p (all_more h hs) = all_more h (all_set i a p hs)

    pub all_sets : (i : ℕ) {p l : List A} → All P p → All P l → All P (sets l i p)
    all_sets i all_none k = k
    all_sets i (all_more {m} h hs) k = all_sets (suc i) hs (all_set i m h k)

    pub all_head : {m : A} {l : List A} → All P (m ∷ l) → P m
    all_head (all_more h hs) = h

    pub all_tail : {m : A} {l : List A} → All P (m ∷ l) → All P l
    all_tail (all_more h hs) = hs

  pub all_map : {P Q : A → Type 0} {l : List A} → ((m : A) → P m → Q m) → All P l → All Q l
  all_map f all_none = all_none
  all_map f (all_more {m} h hs) = all_more (f m h) (all_map f hs)

-- the last of a list with one more at its end
pub last_more : {A : Type 0} (a : A) (l : List A) (m : A) → last_of a (l ++ m ∷ []) ≡ m
unfolding last_of
last_more a [] m = refl
last_more a (b ∷ l) m = last_more b l m

pub all_last : {A : Type 0} {P : A → Type 0} (a : A) (l : List A) → All P (a ∷ l) → P (last_of a l)
unfolding last_of
all_last a [] (all_more h hs) = h
all_last a (b ∷ l) (all_more h hs) = all_last b l hs

-- ---- of each changed by f
module _ {A B : Type 0} (f : A → B) where
  pub all_mapped : {P : A → Type 0} {Q : B → Type 0} {l : List A} → ((m : A) → P m → Q (f m)) → All P l → All Q (map f l)
  all_mapped g all_none = all_none
  all_mapped g (all_more {m} h hs) = all_more (g m h) (all_mapped g hs)

  pub last_mapped : (a : A) (l : List A) → last_of (f a) (map f l) ≡ f (last_of a l)
  unfolding last_of
  last_mapped a [] = refl
  last_mapped a (b ∷ l) = last_mapped b l
