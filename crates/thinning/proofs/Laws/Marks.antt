-- From marks to thinning: the marks that `Marks` leaves say what thinning keeps, with the same count.
use Rattle.std.specs.Prelude.{◌≡◌, Bool, List, set}
use Rattle.std.proofs.Math.Path.{refl}
use Rattle.std.proofs.Common.{sym, ◌∙◌, le_refl, le_trans, mul-le-mul_left, leb-true, leb-false}
use Rattle.std.proofs.Math.Bool.{true, false}
use Prim.Native.Nat.{ℕ, zero, suc, ◌+◌, ◌*◌, ◌-◌, ◌<◌, ◌≤◌}
use native.Mathlib.Omega.{arith}
use Rattle.std.proofs.Math.ListN.{length, get_or, length-set}
use Rattle.std.proofs.Math.Seq.{get_or-set_same, get_or-set_other}
use Rattle.format.specs.Format.{each}
use Rattle.format.proofs.Laws.Each.{length_each}
use Rattle.thinning.specs.Thinning.{thin, greatest_count}
use Rattle.thinning.specs.Marks.{kept_by, ClearFrom, Ready, StretchMarked, Judged, Marks, marks_none, marks_ends, marks_split}
use Rattle.distance.specs.Laws.All.{all_none}
use Rattle.thinning.proofs.Laws.Furthest.{Tops}
use Rattle.thinning.proofs.Laws.Keeps.{Keeps, ends_only, pieces_of, keeps_span}
use Rattle.thinning.proofs.Laws.Kept.{thin_ends}
use Rattle.thinning.proofs.Laws.Count.{greatest_rises, at_most_greatest}
use Rattle.thinning.proofs.Laws.KeptBy.{inner, inner_split, inner_all, kept_by_none, kept_by_same, kept_inner, each_ends, kept_ends, ready}

-- ---- the two ways out of a span that has inner fixes, as it was judged
module _ {A : Type 0} {far : (i m j : A) → ℕ} {bound : (e : ℕ) (i j : A) → ℕ} {f : ℕ → A} {e lo hi m : ℕ} {b : Bool} (j : Judged far bound f e lo hi m b) where
  pub judged_ends : {k : List Bool} → b ≡ true → Marks far bound f e lo hi k k (hi - lo - 1)
  judged_ends t = marks_ends j.furthest (leb-true _ _ (sym j.tested ∙ t))

  pub judged_split : {c d : ℕ} {k k1 k2 : List Bool} → b ≡ false → Marks far bound f e lo m (set k m true) k1 c → Marks far bound f e m hi k1 k2 d → Marks far bound f e lo hi k k2 (hi - lo - 1 + c + d)
  judged_split t = marks_split j.furthest (leb-false _ _ (sym j.tested ∙ t))

-- ---- the count: with n = hi − lo, at most n·(n − 1)/2
none_count : (n : ℕ) → n < 2 → 2 * 0 + n ≤ n * n
none_count zero h = omega arith
none_count (suc zero) h = omega arith
none_count (suc (suc n)) h = absurd (omega arith)

ends_count : (n : ℕ) → 1 < n → 2 * (n - 1) + n ≤ n * n
ends_count zero h = absurd (omega arith)
ends_count (suc n) h = let e : suc n - 1 ≡ n = omega arith in rw e (omega (arith, mul-le-mul_left n h))

split_count : (a b c d : ℕ) → 2 * c + suc a ≤ suc a * suc a → 2 * d + suc b ≤ suc b * suc b
    → 2 * (suc a + suc b - 1 + c + d) + (suc a + suc b) ≤ (suc a + suc b) * (suc a + suc b)
split_count a b c d h g = let e : suc a + suc b - 1 ≡ suc a + b = omega arith in rw e (omega arith)

-- so no more than the greatest count of 4,096 fixes, which 32 bits hold
small_count : {c : ℕ} (n : ℕ) → n ≤ 4095 → 2 * c + n ≤ n * n → c ≤ greatest_count 4096
small_count {c} n h g = le_trans (at_most_greatest n c (omega arith)) (greatest_rises (suc n) 4096 (omega arith))

module _ {A : Type 0} (far : (i m j : A) → ℕ) (bound : (e : ℕ) (i j : A) → ℕ) (f : ℕ → A) (e : ℕ) where
  pub marks_length : {lo hi c : ℕ} {k k2 : List Bool} → Marks far bound f e lo hi k k2 c → length k2 ≡ length k
  marks_length (marks_none h) = refl
  marks_length (marks_ends x g) = refl
  marks_length (marks_split {m} {k} x g one two) = marks_length two ∙ marks_length one ∙ length-set k m true

  -- the count stays small
  pub marks_count : {lo hi c : ℕ} {k k2 : List Bool} → Marks far bound f e lo hi k k2 c → 2 * c + (hi - lo) ≤ (hi - lo) * (hi - lo)
  marks_count (marks_none {lo} {hi} h) = none_count (hi - lo) h
  marks_count (marks_ends {lo} {hi} x g) = ends_count (hi - lo) (omega (arith, x.low, x.high))
  marks_count (marks_split {lo} {hi} {m} {v} {c} {d} x g one two) =
      let p = x.low in
      let q = x.high in
      let a : m - lo ≡ suc (m - suc lo) = omega arith in
      let b : hi - m ≡ suc (hi - suc m) = omega arith in
      let ab : hi - lo ≡ suc (m - suc lo) + suc (hi - suc m) = omega arith in
      rw ab (split_count (m - suc lo) (hi - suc m) c d (rw a at (marks_count one)) (rw b at (marks_count two)))

  pub marks_small : {lo hi c : ℕ} {k k2 : List Bool} → Marks far bound f e lo hi k k2 c → hi ≤ lo + 4095 → c ≤ greatest_count 4096
  marks_small {lo} {hi} m h = small_count (hi - lo) (omega arith) (marks_count m)

  -- outside the span marks stay as they were
  pub marks_low : {lo hi c : ℕ} {k k2 : List Bool} → Marks far bound f e lo hi k k2 c → (i : ℕ) → i ≤ lo → get_or k2 i false ≡ get_or k i false
  marks_low (marks_none h) i l = refl
  marks_low (marks_ends x g) i l = refl
  marks_low (marks_split {m} {k} x g one two) i l =
      let p = x.low in
      marks_low two i (omega arith) ∙ marks_low one i l ∙ get_or-set_other k m i true false (omega arith)

  pub marks_high : {lo hi c : ℕ} {k k2 : List Bool} → Marks far bound f e lo hi k k2 c → (i : ℕ) → hi ≤ i → get_or k2 i false ≡ get_or k i false
  marks_high (marks_none h) i l = refl
  marks_high (marks_ends x g) i l = refl
  marks_high (marks_split {m} {k} x g one two) i l =
      let p = x.high in
      marks_high two i l ∙ marks_high one i (omega arith) ∙ get_or-set_other k m i true false (omega arith)

  -- inside it, where none was set, they say which fixes the span keeps
  pub marks_keeps : {lo hi c : ℕ} {k k2 : List Bool} → Marks far bound f e lo hi k k2 c → hi ≤ length k → ((i : ℕ) → lo < i → i < hi → get_or k i false ≡ false)
      → Keeps far bound e (f lo) (inner f lo hi) (f hi) (kept_by k2 (suc lo) (inner f lo hi)) c
  unfolding each kept_by
  marks_keeps (marks_none {lo} {hi} h) r s = let z : hi - suc lo ≡ 0 = omega arith in rw z (ends_only all_none)
  marks_keeps (marks_ends {lo} {hi} {m} {v} {k} x g) r s =
      let n = length_each f (suc lo) (hi - suc lo) in
      let count : hi - lo - 1 ≡ length (inner f lo hi) = omega (arith, n) in
      rw (kept_by_none k (suc lo) (inner f lo hi) (λ i p q. s i p (omega (arith, n))), count) (ends_only {i = f lo} {j = f hi} (inner_all f lo hi (λ i p q. omega (arith, x.most i p q))))
  marks_keeps (marks_split {lo} {hi} {m} {v} {c} {d} {k} {k1} {k2} x g one two) r s =
      let lm = x.low in
      let mh = x.high in
      let is = x.is in
      let n = length_each f (suc lo) (m - suc lo) in
      let w = length_each f (suc lo) (hi - suc lo) in
      let size : length k1 ≡ length k = marks_length one ∙ length-set k m true in
      let first : Keeps far bound e (f lo) (inner f lo m) (f m) (kept_by k1 (suc lo) (inner f lo m)) c =
      marks_keeps one (rw (length-set k m true) (omega arith)) (λ i p q. get_or-set_other k m i true false (omega arith) ∙ s i p (omega arith)) in
      let second : Keeps far bound e (f m) (inner f m hi) (f hi) (kept_by k2 (suc m) (inner f m hi)) d =
      marks_keeps two (rw size r) (λ i p q. marks_high one i (omega arith) ∙ get_or-set_other k m i true false (omega arith) ∙ s i (omega arith) q) in
      let same : kept_by k2 (suc lo) (inner f lo m) ≡ kept_by k1 (suc lo) (inner f lo m) = kept_by_same k2 k1 (suc lo) (inner f lo m) (λ i p q. marks_low two i (omega (arith, n))) in
      let set_m : get_or k2 m false ≡ true = marks_low two m (le_refl m) ∙ marks_high one m (le_refl m) ∙ get_or-set_same k m true false (omega arith) in
      let count : hi - lo - 1 + c + d ≡ length (inner f lo hi) + (c + d) = omega (arith, w) in
      let top : Tops (λ i. far (f lo) i (f hi)) (inner f lo m) (f m) (inner f m hi) =
      record { before = inner_all f lo m (λ i p q. omega (arith, x.first i p q)); after = inner_all f m hi (λ i p q. omega (arith, x.most i (omega arith) q)) } in
      rw (count, kept_inner f k2 lo m hi lm mh set_m, same, inner_split f lo m hi lm mh) (pieces_of top (omega arith) first second)

  -- a stretch of one fix, and of more, from position lo on
  one_fix : {lo c : ℕ} {k k2 : List Bool} → get_or k lo false ≡ true → Marks far bound f e lo lo k k2 c → thin far bound e (each f lo 1) ≡ record { kept = kept_by k2 lo (each f lo 1); count = c }
  unfolding thin each kept_by
  one_fix {lo} {c} {k} {k2} a m =
      let none : lo - lo ≡ 0 = omega arith in
      let z : c ≡ 0 = omega (arith, rw none at (marks_count m)) in
      let t : get_or k2 lo false ≡ true = marks_low m lo (le_refl lo) ∙ a in
      rw (z, t) refl

  more_fixes : (lo n : ℕ) {c : ℕ} {k k2 : List Bool} → Ready lo (lo + suc n) k → Marks far bound f e lo (lo + suc n) k k2 c
      → thin far bound e (each f lo (suc (suc n))) ≡ record { kept = kept_by k2 lo (each f lo (suc (suc n))); count = c }
  more_fixes lo n {k2} r m =
      let l = inner f lo (lo + suc n) in
      let kept = kept_ends f lo n k2 (marks_low m lo (le_refl lo) ∙ r.first) (marks_high m (lo + suc n) (le_refl _) ∙ r.last) in
      let room = r.room in
      let span = keeps_span far bound (marks_keeps m (omega arith) r.clear) (length l) (le_refl _) in
      rw (each_ends f lo n, kept, thin_ends far bound e (f lo) l (f (lo + suc n)), span) refl

  -- THE WAY FROM CODE TO THE DEFINITION: with the ends marked before, the marks after say what thinning keeps, and the counts are equal.
  marks_thin : (lo n : ℕ) {c : ℕ} {k k2 : List Bool} → Ready lo (lo + n) k → Marks far bound f e lo (lo + n) k k2 c
      → thin far bound e (each f lo (suc n)) ≡ record { kept = kept_by k2 lo (each f lo (suc n)); count = c }
  marks_thin lo zero r m = let z : lo + 0 ≡ lo = omega arith in one_fix r.first (rw z at m)
  marks_thin lo (suc n) r m = more_fixes lo n r m

  -- the stretch from lo to hi, in marks that were clear from lo on
  pub stretch_marked : (lo hi : ℕ) {c : ℕ} (k : List Bool) {k2 : List Bool} → ClearFrom lo k → lo ≤ hi → hi < length k → Marks far bound f e lo hi (set (set k lo true) hi true) k2 c
      → StretchMarked far bound f e lo hi k k2 c
  stretch_marked lo hi k clear h room m =
      let end : hi ≡ lo + (hi - lo) = omega arith in
      let r = ready k lo hi clear h room in
      record {
        says = marks_thin lo (hi - lo) (rw end at r) (rw end at m);
        earlier = λ i p. marks_low m i (omega arith) ∙ get_or-set_other (set k lo true) hi i true false (omega arith) ∙ get_or-set_other k lo i true false (omega arith);
        later = λ i p. marks_high m i (omega arith) ∙ get_or-set_other (set k lo true) hi i true false (omega arith) ∙ get_or-set_other k lo i true false (omega arith);
      }
