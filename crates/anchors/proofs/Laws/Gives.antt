-- WHAT A READING'S PROMISES GIVE, in whole numbers of sixteenths and without their names; what a list is, reading by reading; and what a float counts, in the kit's own
-- words.
use Rattle.std.specs.Prelude.{◌≡◌, refl, ◌↔◌, ◌⊎◌, Bool, true, false, cond, ℕ, zero, suc, min, ◌≤◌, length, ℤ, pos, neg_ℤ, unsigned_abs, ◌+ℤ◌, Float}
use Rattle.std.proofs.Common.{sym, ap, subst, ◌∙◌, ⊎_elim, inl, inr, arith, true≢false}
use mathlib.Core.List.{List, [], ◌∷◌, ◌++◌, map, foldl}
use Rattle.std.proofs.Math.Option.{Option, some, none}
use Rattle.std.proofs.Math.Nat.{zero-min, min-zero}
use Rattle.std.proofs.Math.Dec.{eqb-suc-zero}
use Rattle.std.specs.Float.{nan}
use Rattle.std.specs.Float.Ieee.Exact.{HasValue}
use Rattle.std.specs.List.{zip, fold}
use Rattle.distance.specs.Integers.Tests.{neither}
use Rattle.format.specs.Format.{each}
use Rattle.format.proofs.Laws.Each.{each_shift}
use Rattle.record.specs.Checks.{InSixteenths, plus, moved_by, lacks, far, anchor_refusal}
use Rattle.record.proofs.Laws.First.{some_none, some_same}
use Rattle.record.proofs.Laws.Accepted.{inside_bound}
use Rattle.anchors.specs.declared.State.{State}
use Rattle.anchors.specs.declared.Reading.{Reading}
use Rattle.anchors.specs.declared.Reading.TheVariants.{Absolute, Step}
use Rattle.anchors.specs.Anchors.{negative_if, sixteenths, IsSixteenths, counts, report, state_after, StandsAt, NothingLost}
use Rattle.anchors.specs.Claim.{after_all, accepted, steps, total, AnchorClaim, reading_of, column_reading, column_readings}
use Rattle.anchors.proofs.Laws.Sixteenths.{magnitude_of}

-- ---- z and w of a state that stands somewhere
pub stands_gives : (t : State) (c : InSixteenths) → StandsAt t c
    → (z : ℤ) × (w : ℤ) × (t.seen ≡ true)
    × (sixteenths t.x ≡ some z) × (c.x ≡ some z) × (unsigned_abs z ≤ 256000)
    × (sixteenths t.y ≡ some w) × (c.y ≡ some w) × (unsigned_abs w ≤ 256000)
stands_gives t c h =
    let l = neither (lacks c.x) (lacks c.y) h.counted in
    let f = neither (far c.x) (far c.y) h.inside in
    let x = counted c.x l.0 f.0 in
    let y = counted c.y l.1 f.1 in (
      x.0,
      y.0,
      h.flag,
      ap (λ (k : InSixteenths). k.x) h.place ∙ x.1,
      x.1,
      x.2,
      ap (λ (k : InSixteenths). k.y) h.place ∙ y.1,
      y.1,
      y.2,
    )
  where
    counted : (a : Option ℤ) → lacks a ≡ false → far a ≡ false → (z : ℤ) × (a ≡ some z) × (unsigned_abs z ≤ 256000)
    counted none l f = absurd (true≢false l)
    counted (some z) l f = (z, refl, inside_bound 256000 z f)

-- an accepted place is the one that was sent, and after an accepted step each coordinate is the sum
pub nothing_lost_gives : (s t : State) (x y : Float)
    → (NothingLost s (Absolute x y) t → anchor_refusal (report s (Absolute x y)) ≡ none
    → (z : ℤ) × (w : ℤ) × (t.seen ≡ true)
    × (sixteenths x ≡ some z) × (sixteenths t.x ≡ some z) × (unsigned_abs z ≤ 256000)
    × (sixteenths y ≡ some w) × (sixteenths t.y ≡ some w) × (unsigned_abs w ≤ 256000))
    × (NothingLost s (Step x y) t → anchor_refusal (report s (Step x y)) ≡ none
    → (z : ℤ) × (w : ℤ) × (d : ℤ) × (e : ℤ) × (t.seen ≡ true)
    × (sixteenths s.x ≡ some z) × (sixteenths x ≡ some d) × (sixteenths t.x ≡ some (z +ℤ d)) × (unsigned_abs (z +ℤ d) ≤ 256000)
    × (sixteenths s.y ≡ some w) × (sixteenths y ≡ some e) × (sixteenths t.y ≡ some (w +ℤ e)) × (unsigned_abs (w +ℤ e) ≤ 256000))
nothing_lost_gives s t x y = (
  (λ n h. let g = stands_gives t _ (n h) in (g.0, g.1, g.2, g.4, g.3, g.5, g.7, g.6, g.8)),
  (λ n h. let g = stands_gives t _ (n h) in
      let a = parted (sixteenths s.x) (sixteenths x) g.0 g.4 in
      let b = parted (sixteenths s.y) (sixteenths y) g.1 g.7 in (
        a.0,
        b.0,
        a.1,
        b.1,
        g.2,
        a.2,
        a.3,
        g.3 ∙ ap some a.4,
        rw (sym a.4) g.5,
        b.2,
        b.3,
        g.6 ∙ ap some b.4,
        rw (sym b.4) g.8,
      )),
)
  where
    parted : (a b : Option ℤ) (z : ℤ) → plus a b ≡ some z → (p : ℤ) × (q : ℤ) × (a ≡ some p) × (b ≡ some q) × (z ≡ p +ℤ q)
    parted none b z e = absurd (some_none (sym e))
    parted (some p) none z e = absurd (some_none (sym e))
    parted (some p) (some q) z e = (p, q, refl, refl, sym (some_same e))

-- a list is read from its first reading on, and those that are accepted are kept in their order
pub list_gives : (s : State) (r : Reading) (rs : List Reading)
    → (after_all s [] ≡ s) × (after_all s (r ∷ rs) ≡ after_all (state_after s r) rs)
    × (accepted s [] ≡ [])
    × (anchor_refusal (report s r) ≡ none → accepted s (r ∷ rs) ≡ r ∷ accepted (state_after s r) rs)
    × ((k : ℕ) → anchor_refusal (report s r) ≡ some k → accepted s (r ∷ rs) ≡ accepted (state_after s r) rs)
unfolding after_all accepted
list_gives s r rs = (refl, refl, refl, (λ h. rw h refl), (λ k h. rw h refl))

-- steps, and their sum with a place, by the library's own functions of lists
steps_are : (since : List (Float × Float)) → steps since ≡ map (λ d. Step d.0 d.1) since
unfolding steps
steps_are [] = refl
steps_are (d ∷ since) = ap (λ (l : List Reading). Step d.0 d.1 ∷ l) (steps_are since)

total_is : (c : InSixteenths) (since : List (Float × Float)) → total c since
    ≡ record {
      x = foldl plus c.x (map (λ d. sixteenths d.0) since);
      y = foldl plus c.y (map (λ d. sixteenths d.1) since);
    }
unfolding total
total_is c [] = refl
total_is c (d ∷ since) = total_is (moved_by c (counts d.0 d.1)) since

-- the claim, in the sums of the sixteenths that were sent
pub anchor_claim_gives : (s : State) (rs : List Reading) → AnchorClaim s rs → let t = after_all s rs in
    ((before : List Reading) (x y : Float) (since : List (Float × Float))
    → accepted s rs ≡ before ++ (Absolute x y ∷ map (λ d. Step d.0 d.1) since)
    → (z : ℤ) × (w : ℤ) × (t.seen ≡ true)
    × (sixteenths t.x ≡ some z) × (foldl plus (sixteenths x) (map (λ d. sixteenths d.0) since) ≡ some z) × (unsigned_abs z ≤ 256000)
    × (sixteenths t.y ≡ some w) × (foldl plus (sixteenths y) (map (λ d. sixteenths d.1) since) ≡ some w) × (unsigned_abs w ≤ 256000))
    × ((d : Float × Float) (since : List (Float × Float))
    → accepted s rs ≡ map (λ d. Step d.0 d.1) (d ∷ since)
    → (z : ℤ) × (w : ℤ) × (s.seen ≡ true) × (t.seen ≡ true)
    × (sixteenths t.x ≡ some z) × (foldl plus (sixteenths s.x) (map (λ d. sixteenths d.0) (d ∷ since)) ≡ some z) × (unsigned_abs z ≤ 256000)
    × (sixteenths t.y ≡ some w) × (foldl plus (sixteenths s.y) (map (λ d. sixteenths d.1) (d ∷ since)) ≡ some w) × (unsigned_abs w ≤ 256000))
    × (accepted s rs ≡ [] → t ≡ s)
    × (s.seen ≡ false → (since : List (Float × Float)) → accepted s rs ≡ map (λ d. Step d.0 d.1) since → t ≡ s)
anchor_claim_gives s rs c = (
  (λ before x y since e. at_sum (counts x y) since (c.exact before x y since (e ∙ ap (λ (l : List Reading). before ++ (Absolute x y ∷ l)) (sym (steps_are since))))),
  (λ d since e. let h = c.handed_in d since (e ∙ sym (steps_are (d ∷ since))) in
      let g = at_sum (counts s.x s.y) (d ∷ since) h.1 in
      (g.0, g.1, h.0, g.2, g.3, g.4, g.5, g.6, g.7, g.8)),
  c.unchanged,
  (λ off since e. c.before_first off since (e ∙ sym (steps_are since))),
)
  where
    at_sum : (b : InSixteenths) (since : List (Float × Float)) → StandsAt (after_all s rs) (total b since)
        → let t = after_all s rs in (z : ℤ) × (w : ℤ) × (t.seen ≡ true)
        × (sixteenths t.x ≡ some z) × (foldl plus b.x (map (λ d. sixteenths d.0) since) ≡ some z) × (unsigned_abs z ≤ 256000)
        × (sixteenths t.y ≡ some w) × (foldl plus b.y (map (λ d. sixteenths d.1) since) ≡ some w) × (unsigned_abs w ≤ 256000)
    at_sum b since h = stands_gives (after_all s rs) _ (subst (λ (k : InSixteenths). StandsAt (after_all s rs) k) (total_is b since) h)

-- ---- EVERY LIST is steps alone, or has a last absolute place and steps alone after it: the claim leaves none out
pub all_parts : (l : List Reading)
    → ((since : List (Float × Float)) × (l ≡ map (λ d. Step d.0 d.1) since))
    ⊎ ((before : List Reading) × (x : Float) × (y : Float) × (since : List (Float × Float))
    × (l ≡ before ++ (Absolute x y ∷ map (λ d. Step d.0 d.1) since)))
all_parts [] = inl ([], refl)
all_parts (Absolute x y ∷ l) = ⊎_elim (λ h. inr ([], x, y, h.0, ap (λ (k : List Reading). Absolute x y ∷ k) h.1)) (λ h. inr (Absolute x y ∷ h.0, h.1, h.2, h.3, ap (λ (k : List Reading). Absolute x y ∷ k) h.4)) (all_parts l)
all_parts (Step x y ∷ l) = ⊎_elim (λ h. inl ((x, y) ∷ h.0, ap (λ (k : List Reading). Step x y ∷ k) h.1)) (λ h. inr (Step x y ∷ h.0, h.1, h.2, h.3, ap (λ (k : List Reading). Step x y ∷ k) h.4)) (all_parts l)

-- ---- A LIST AS IT IS LENT: a flag of 0 is an absolute place and every other one a step, and it ends with the shortest column
pub columns_give : (k : ℕ) (x y : Float) (ks : List ℕ) (xs ys : List Float)
    → (column_readings (0 ∷ ks) (x ∷ xs) (y ∷ ys) ≡ Absolute x y ∷ column_readings ks xs ys)
    × (column_readings (suc k ∷ ks) (x ∷ xs) (y ∷ ys) ≡ Step x y ∷ column_readings ks xs ys)
    × (column_readings [] xs ys ≡ []) × (column_readings ks [] ys ≡ []) × (column_readings ks xs [] ≡ [])
unfolding each
columns_give k x y ks xs ys = (
  go 0,
  go (suc k) ∙ rw (eqb-suc-zero k) refl,
  rw (zero-min (min (length xs) (length ys))) refl,
  rw (zero-min (length ys), min-zero (length ks)) refl,
  rw (min-zero (length xs), min-zero (length ks)) refl,
)
  where
    least : (a b c : ℕ) → min (suc a) (min (suc b) (suc c)) ≡ suc (min a (min b c))
    least a b c = omega arith

    go : (j : ℕ) → column_readings (j ∷ ks) (x ∷ xs) (y ∷ ys) ≡ reading_of j x y ∷ column_readings ks xs ys
    go j =
        rw (least (length ks) (length xs) (length ys))
        (ap (λ (l : List Reading). reading_of j x y ∷ l)
        (each_shift (column_reading (j ∷ ks) (x ∷ xs) (y ∷ ys)) (column_reading ks xs ys) 0 (min (length ks) (min (length xs) (length ys))) (λ i. refl)))

-- .. and reading it is one fold over the three columns
pub columns_folded : (s : State) (ks : List ℕ) (xs ys : List Float)
    → fold (λ t p. state_after t (reading_of p.0.0 p.0.1 p.1)) s (zip (zip ks xs) ys) ≡ after_all s (column_readings ks xs ys)
unfolding after_all
columns_folded s [] xs ys = rw (columns_give 0 nan nan [] xs ys).2 refl
columns_folded s (k ∷ ks) [] ys = rw (columns_give 0 nan nan (k ∷ ks) [] ys).3 refl
columns_folded s (k ∷ ks) (x ∷ xs) [] = rw (columns_give 0 nan nan (k ∷ ks) (x ∷ xs) []).4 refl
columns_folded s (k ∷ ks) (x ∷ xs) (y ∷ ys) = columns_folded (state_after s (reading_of k x y)) ks xs ys ∙ sym (ap (after_all s) (more k))
  where
    more : (k : ℕ) → column_readings (k ∷ ks) (x ∷ xs) (y ∷ ys) ≡ reading_of k x y ∷ column_readings ks xs ys
    more zero = (columns_give 0 x y ks xs ys).0
    more (suc k) = (columns_give k x y ks xs ys).1 ∙ rw (eqb-suc-zero k) refl

-- ---- WHAT A FLOAT COUNTS, in the kit's own words: it has a sign and is |z|/16 in size, and with that sign |z| is z.
pub is_sixteenths_exactly : (x : Float) (z : ℤ) → IsSixteenths x z
    ↔ ((s : Bool) × HasValue x s (unsigned_abs z) 16 × (cond s (neg_ℤ (pos (unsigned_abs z))) (pos (unsigned_abs z)) ≡ z))
is_sixteenths_exactly x z = (
  (λ g. let m : g.n ≡ unsigned_abs z = sym (magnitude_of g.negative g.n) ∙ ap unsigned_abs g.is in (
    g.negative,
    subst (λ (k : ℕ). HasValue x g.negative k 16) m g.value,
    ap (λ (k : ℕ). cond g.negative (neg_ℤ (pos k)) (pos k)) (sym m) ∙ signed g.negative g.n ∙ g.is,
  )),
  (λ g. record { negative = g.0; n = unsigned_abs z; value = g.1; is = sym (signed g.0 (unsigned_abs z)) ∙ g.2 }),
)
  where
    signed : (s : Bool) (n : ℕ) → cond s (neg_ℤ (pos n)) (pos n) ≡ negative_if s n
    signed false n = refl
    signed true n = refl
