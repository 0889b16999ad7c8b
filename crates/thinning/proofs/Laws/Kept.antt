-- What stays of a trail: its ends, a sublist in order, with every dropped fix within e of its piece's chord; and how large the count can be.
use Rattle.std.specs.Prelude.{◌≡◌}
use Rattle.std.proofs.Math.Path.{refl, sym, ap}
use Rattle.std.proofs.Common.{◌∙◌, le_refl}
use mathlib.Core.List.Sublistᴰ
use mathlib.Core.List.{List, [], ◌∷◌, ◌++◌, append_assoc, Sublistᴰ}
use Prim.Native.Nat.{ℕ, suc, ◌+◌, ◌*◌, ◌≤◌}
use native.Mathlib.Omega.{arith}
use Rattle.std.proofs.Math.ListN.{length, length-append}
use Rattle.thinning.specs.Thinning.{but_last, thin_span, thin}
use Rattle.distance.specs.Laws.All.{All, all_none, all_more}
use Rattle.distance.proofs.Laws.All.{all_append, all_left, all_right, all_head, all_tail, last_more}
use Rattle.thinning.proofs.Laws.Keeps.{AllWithin, Keeps, ends_only, pieces_of, span_keeps}
use Rattle.distance.specs.Fix.{last_of}

-- ---- the two ends of a list
pub data Ends {A : Type 0} : List A → Type 0 where
  no_end : Ends []
  one_end : (i : A) → Ends (i ∷ [])
  two_ends : (i : A) (l : List A) (j : A) → Ends (i ∷ (l ++ j ∷ []))

module _ {A : Type 0} where
  ends_more : (i : A) {l : List A} → Ends l → Ends (i ∷ l)
  ends_more i no_end = one_end i
  ends_more i (one_end j) = two_ends i [] j
  ends_more i (two_ends m l j) = two_ends i (m ∷ l) j

  pub ends : (l : List A) → Ends l
  ends [] = no_end
  ends (i ∷ l) = ends_more i (ends l)

  -- the first and the last are the same
  pub data SameEnds : (l k : List A) → Type 0 where
    no_fixes : SameEnds [] []
    same_ends : {i : A} {l k : List A} → last_of i k ≡ last_of i l → SameEnds (i ∷ l) (i ∷ k)

  last_after : (i : A) (l : List A) (j : A) (r : List A) → last_of i (l ++ j ∷ r) ≡ last_of j r
  unfolding last_of
  last_after i [] j r = refl
  last_after i (m ∷ l) j r = last_after m l j r

  but_last_snoc : (m : A) (l : List A) (j : A) → but_last m (l ++ j ∷ []) ≡ m ∷ l
  unfolding but_last
  but_last_snoc m [] j = refl
  but_last_snoc m (n ∷ l) j = ap (λ (r : List A). m ∷ r) (but_last_snoc n l j)

  pub sublist_length : {l k : List A} → Sublistᴰ k l → length k ≤ length l
  sublist_length Sublistᴰ.slnil = omega arith
  sublist_length (Sublistᴰ.cons s) = omega (arith, sublist_length s)
  sublist_length (Sublistᴰ.cons-cons h s) = omega (arith, sublist_length s)

module _ {A : Type 0} (far : (i m j : A) → ℕ) (bound : (e : ℕ) (i j : A) → ℕ) where
  -- what holds of all inner fixes holds of those that stay
  pub keeps_all : {P : A → Type 0} {e : ℕ} {i j : A} {l k : List A} {c : ℕ} → Keeps far bound e i l j k c → All P l → All P k
  keeps_all (ends_only h) g = all_none
  keeps_all (pieces_of {w} {p} {q} t f x y) g =
      let r = all_right p g in
      all_append (keeps_all x (all_left p (w ∷ q) g)) (all_more (all_head r) (keeps_all y (all_tail r)))

  -- A trail is cut at the kept fixes, and each dropped one is within e of the chord of the two kept ones around it.
  pub data Pieces (e : ℕ) : (l k : List A) → Type 0 where
    no_piece : Pieces e [] []
    alone : {i : A} → Pieces e (i ∷ []) (i ∷ [])
    piece : {i j : A} {l r k : List A} → AllWithin far bound e i l j → Pieces e (j ∷ r) (j ∷ k) → Pieces e (i ∷ (l ++ j ∷ r)) (i ∷ j ∷ k)

  keeps_pieces : {e : ℕ} {i j : A} {l k m r : List A} {c : ℕ} → Keeps far bound e i l j k c → Pieces e (j ∷ m) (j ∷ r) → Pieces e (i ∷ (l ++ j ∷ m)) (i ∷ (k ++ j ∷ r))
  keeps_pieces (ends_only h) s = piece h s
  keeps_pieces (pieces_of t g x y) s = simp append_assoc (keeps_pieces x (keeps_pieces y s))

  pub pieces_sublist : {e : ℕ} {l k : List A} → Pieces e l k → Sublistᴰ k l
  pieces_sublist no_piece = Sublistᴰ.slnil
  pieces_sublist alone = Sublistᴰ.cons-cons refl Sublistᴰ.slnil
  pieces_sublist (piece {l} h s) = Sublistᴰ.cons-cons refl (Sublistᴰ.append (Sublistᴰ.nil-sublist l) (pieces_sublist s))

  pub pieces_all : {P : A → Type 0} {e : ℕ} {l k : List A} → Pieces e l k → All P l → All P k
  pieces_all no_piece h = h
  pieces_all alone h = h
  pieces_all (piece {l} g s) (all_more h hs) = all_more h (pieces_all s (all_right l hs))

  same_last : {i j : A} {l k : List A} → SameEnds (i ∷ l) (j ∷ k) → last_of j k ≡ last_of i l
  same_last (same_ends e) = e

  pub pieces_ends : {e : ℕ} {l k : List A} → Pieces e l k → SameEnds l k
  unfolding last_of
  pieces_ends no_piece = no_fixes
  pieces_ends alone = same_ends refl
  pieces_ends (piece {i} {j} {l} {r} h s) = same_ends (same_last (pieces_ends s) ∙ sym (last_after i l j r))

  -- one trail after another: no fix stands between the last of the one and the first of the other
  pub pieces_append : {e : ℕ} {l k m n : List A} → Pieces e l k → Pieces e m n → Pieces e (l ++ m) (k ++ n)
  pieces_append no_piece y = y
  pieces_append alone no_piece = alone
  pieces_append alone alone = piece {l = []} all_none alone
  pieces_append alone (piece {l} h s) = piece {l = []} all_none (piece {l = l} h s)
  pieces_append {m} (piece {j} {l} {r} h s) y = rw (append_assoc l (j ∷ r) m) (piece h (pieces_append s y))

  keeps_count : {e : ℕ} {i j : A} {l k : List A} {c : ℕ} → Keeps far bound e i l j k c → 2 * c ≤ length l * (length l + 1)
  keeps_count (ends_only {l = []} h) = omega arith
  keeps_count (ends_only {l = m ∷ l} h) = omega arith
  keeps_count (pieces_of {p} {q} t g x y) = simp length-append (omega (arith, keeps_count x, keeps_count y))

  -- ---- the same of a whole trail
  -- The first and the last stay.
  pub thin_ends : (e : ℕ) (i : A) (l : List A) (j : A)
      → thin far bound e (i ∷ (l ++ j ∷ []))
      ≡ record { kept = i ∷ ((thin_span far bound (length l) e i l j).kept ++ j ∷ []); count = (thin_span far bound (length l) e i l j).count }
  unfolding thin but_last last_of
  thin_ends e i [] j = refl
  thin_ends e i (m ∷ l) j = rw (but_last_snoc m l j, last_more m l j)

  pub thin_pieces : (e : ℕ) (l : List A) → Pieces e l (thin far bound e l).kept
  unfolding thin
  thin_pieces e l = go (ends l)
    where
      go : {l : List A} → Ends l → Pieces e l (thin far bound e l).kept
      go no_end = no_piece
      go (one_end i) = alone
      go (two_ends i l j) = rw thin_ends (keeps_pieces (span_keeps far bound (length l) e i l j (le_refl _)) alone)

  -- the last, j, stays, and of those before it, of which P holds, some
  pub record LastStays (P : A → Type 0) (e : ℕ) (p : List A) (j : A) : Type 0 where
    pub before : List A
    pub before_all : All P before
    pub stays : (thin far bound e (p ++ j ∷ [])).kept ≡ before ++ j ∷ []

  pub last_stays : {P : A → Type 0} {p : List A} (e : ℕ) (j : A) → All P p → LastStays P e p j
  unfolding thin
  last_stays e j all_none = record { before = []; before_all = all_none; stays = refl }
  last_stays e j (all_more {m = i} {l} h hs) =
      let k = span_keeps far bound (length l) e i l j (le_refl _) in
      record { before = i ∷ (thin_span far bound (length l) e i l j).kept; before_all = all_more h (keeps_all k hs); stays = rw (thin_ends e i l j) refl }

  -- (n − 1)(n − 2) is n·n − 3·n + 2
  pub thin_count : (e : ℕ) (l : List A) → 2 * (thin far bound e l).count + 3 * length l ≤ length l * length l + 2
  unfolding thin
  thin_count e l = go (ends l)
    where
      go : {l : List A} → Ends l → 2 * (thin far bound e l).count + 3 * length l ≤ length l * length l + 2
      go no_end = omega arith
      go (one_end i) = omega arith
      go (two_ends i l j) =
          let n = length l in
          let more : suc (length (l ++ j ∷ [])) ≡ n + 2 = omega (arith, length-append l (j ∷ [])) in
          rw (thin_ends e i l j, more) (omega (arith, keeps_count (span_keeps far bound n e i l j (le_refl _))))
