-- The first check whose sentence holds.
use Rattle.std.specs.Prelude.{◌≡◌, ◌↔◌, Bool, ℕ}
use Rattle.std.proofs.Math.Path.{refl}
use Rattle.std.proofs.Common.{sym, ap, arith}
use Rattle.std.proofs.Math.Bool.{true, false, cond}
use mathlib.Core.List.{List, [], ◌∷◌, ◌++◌, map}
use Rattle.std.proofs.Math.Option.{Option, some, none}
use Rattle.distance.specs.Laws.All.{All, all_none, all_more}
use Rattle.format.specs.Kinds.{Kind}
use Rattle.record.specs.Answers.{gives, turns_away, answer}
use Rattle.record.specs.Checks.{Check, Given, Asked, number, order, first, FirstHolds, this, not_before, sentence, refusal, refusal_of, reading, writing, aging, aging_by_days, placing, crossing, loading, approaching, anchoring, writing_dearest, read_refusal}

pub some_none : {A : Type 0} {a : A} → some a ≡ none → ⊥
some_none e = let z : ◌≡◌ {A = ℕ} 0 1 = cc in omega arith

pub some_same : {A : Type 0} {a b : A} → some a ≡ some b → a ≡ b
some_same e = cc

-- the checks in their order have the documents' numbers
pub order_numbers : map number order ≡ 1 ∷ 2 ∷ 3 ∷ 4 ∷ 5 ∷ 6 ∷ 7 ∷ 8 ∷ 9 ∷ 20 ∷ 22 ∷ 23 ∷ 16 ∷ 10 ∷ 11 ∷ 12 ∷ 21 ∷ 13 ∷ 14 ∷ 15 ∷ 17 ∷ 18 ∷ 19 ∷ []
order_numbers = refl

module _ (says : Check → Bool) where
  -- a sentence that holds ends the search, and one that doesn't hands it on
  pub stops : (c : Check) (l : List Check) → says c ≡ true → first says (c ∷ l) ≡ some (number c)
  unfolding first
  stops c l h = rw h refl

  pub passes : (c : Check) (l : List Check) → says c ≡ false → first says (c ∷ l) ≡ first says l
  unfolding first
  passes c l h = rw h refl

  pub first_none : first says [] ≡ none
  unfolding first
  first_none = refl

  -- all of these sentences are false
  pub data NoneHolds : List Check → Type 0 where
    no_check : NoneHolds []
    and_not : {c : Check} {l : List Check} → says c ≡ false → NoneHolds l → NoneHolds (c ∷ l)

  -- EXACTLY: a number is given if the sentence of its check holds and no earlier one does, ..
  holds_first : {k : ℕ} {l : List Check} → FirstHolds says k l → first says l ≡ some k
  unfolding first
  holds_first (this h e) = rw (h, e) refl
  holds_first (not_before h r) = rw h (holds_first r)

  -- .. and never otherwise.
  first_holds : (k : ℕ) (l : List Check) → first says l ≡ some k → FirstHolds says k l
  unfolding first
  first_holds k [] e = absurd (some_none (sym e))
  first_holds k (c ∷ l) e = go (says c) refl e (first_holds k l)
    where
      go : (b : Bool) → says c ≡ b → cond b (some (number c)) (first says l) ≡ some k → (first says l ≡ some k → FirstHolds says k l) → FirstHolds says k (c ∷ l)
      go true h e r = this h (let z : number c ≡ k = cc in z)
      go false h e r = not_before h (r e)

  pub first_exactly : (k : ℕ) (l : List Check) → first says l ≡ some k ↔ FirstHolds says k l
  first_exactly k l = (first_holds k l, holds_first)

  -- checks in two parts: the second is reached if the first turns nothing away
  pub none_first : (l m : List Check) → first says l ≡ none → first says (l ++ m) ≡ first says m
  unfolding first
  none_first [] m h = refl
  none_first (c ∷ l) m h = go (says c) h (none_first l m)
    where
      go : (b : Bool) → cond b (some (number c)) (first says l) ≡ none → (first says l ≡ none → first says (l ++ m) ≡ first says m) → cond b (some (number c)) (first says (l ++ m)) ≡ first says m
      go true h r = absurd (some_none h)
      go false h r = r h

  pub some_first : (l m : List Check) (k : ℕ) → first says l ≡ some k → first says (l ++ m) ≡ some k
  unfolding first
  some_first [] m k h = absurd (some_none (sym h))
  some_first (c ∷ l) m k h = go (says c) h (some_first l m k)
    where
      go : (b : Bool) → cond b (some (number c)) (first says l) ≡ some k → (first says l ≡ some k → first says (l ++ m) ≡ some k) → cond b (some (number c)) (first says (l ++ m)) ≡ some k
      go true h r = h
      go false h r = r h

  pub none_front : (l m : List Check) → first says (l ++ m) ≡ none → first says l ≡ none
  unfolding first
  none_front [] m h = refl
  none_front (c ∷ l) m h = go (says c) h (none_front l m)
    where
      go : (b : Bool) → cond b (some (number c)) (first says (l ++ m)) ≡ none → (first says (l ++ m) ≡ none → first says l ≡ none) → cond b (some (number c)) (first says l) ≡ none
      go true h r = absurd (some_none h)
      go false h r = r h

  -- nothing is turned away exactly if no sentence holds
  pub none_holds : (l : List Check) → first says l ≡ none → NoneHolds l
  unfolding first
  none_holds [] h = no_check
  none_holds (c ∷ l) h = go (says c) refl h (none_holds l)
    where
      go : (b : Bool) → says c ≡ b → cond b (some (number c)) (first says l) ≡ none → (first says l ≡ none → NoneHolds l) → NoneHolds (c ∷ l)
      go true e h r = absurd (some_none h)
      go false e h r = and_not e (r h)

pub gives_no_refusal : {A : Type 0} {a : A} {k : ℕ} → gives a ≡ turns_away k → ⊥
gives_no_refusal e = let z : ◌≡◌ {A = ℕ} 0 1 = cc in omega arith

-- an answer that gives was turned away by nothing, and is what was to be given
pub answer_gives : {A : Type 0} (r : Option ℕ) (a b : A) → answer r a ≡ gives b → (r ≡ none) × (a ≡ b)
answer_gives none a b h = (refl, let e : a ≡ b = cc in e)
answer_gives (some k) a b h = absurd (gives_no_refusal (sym h))

-- what is given where nothing is turned away decides the answer alone
pub answer_same : {A : Type 0} (r : Option ℕ) {x y : A} → (r ≡ none → x ≡ y) → answer r x ≡ answer r y
answer_same (some k) e = refl
answer_same none e = ap gives (e refl)

-- ---- a call's refusal does not hang on what the call does not take
pub reading_alone : (b : List ℕ) (g : Given) → refusal_of reading b g ≡ read_refusal b
unfolding first sentence
reading_alone b g = refl

pub days_alone : (b : List ℕ) (g h : Given) → g.table ≡ h.table → refusal_of aging_by_days b g ≡ refusal_of aging_by_days b h
unfolding first sentence
days_alone b g h e = rw e refl

-- loading looks at no bytes
pub loading_alone : (b c : List ℕ) (g h : Given) → g.table ≡ h.table → refusal_of loading b g ≡ refusal_of loading c h
unfolding first sentence
loading_alone b c g h e = rw e refl

pub aging_alone : (b : List ℕ) (g h : Given) → g.tolerance ≡ h.tolerance → refusal_of aging b g ≡ refusal_of aging b h
unfolding first sentence
aging_alone b g h e = rw e refl

pub placing_alone : (b : List ℕ) (g h : Given) → g.second ≡ h.second → g.thousandths ≡ h.thousandths → refusal_of placing b g ≡ refusal_of placing b h
unfolding first sentence
placing_alone b g h e f = rw (e, f) refl

pub crossing_alone : (b : List ℕ) (g h : Given) → g.start ≡ h.start → g.end ≡ h.end → g.box ≡ h.box → refusal_of crossing b g ≡ refusal_of crossing b h
unfolding first sentence
crossing_alone b g h e f k = rw (e, f, k) refl

pub approaching_alone : (b : List ℕ) (g h : Given) → g.point ≡ h.point → g.radius ≡ h.radius → refusal_of approaching b g ≡ refusal_of approaching b h
unfolding first sentence
approaching_alone b g h e f = rw (e, f) refl

-- the reading of an anchor looks at no bytes
pub anchoring_alone : (b c : List ℕ) (g h : Given) → g.report ≡ h.report → refusal_of anchoring b g ≡ refusal_of anchoring c h
unfolding first sentence
anchoring_alone b c g h e = rw e refl

pub writing_alone : (K : Kind) (p q : Asked) → p.count ≡ q.count → p.trail_fixes ≡ q.trail_fixes → p.given.output ≡ q.given.output → refusal K writing p ≡ refusal K writing q
unfolding first sentence
writing_alone K p q e f g = rw (e, f, g) refl

pub writing_dearest_alone : (K : Kind) (p q : Asked) → p.count ≡ q.count → p.given.output ≡ q.given.output → refusal K writing_dearest p ≡ refusal K writing_dearest q
unfolding first sentence
writing_dearest_alone K p q e f = rw (e, f) refl

-- WHAT IT IS TO BE THE FIRST OF CHECKS THAT HOLDS, taken apart, both ways.
module _ (says : Check → Bool) where
  -- it is the number of a check that stands in the list, whose sentence holds, and those of all before it don't
  first_stands : {k : ℕ} {l : List Check} → FirstHolds says k l
      → (before : List Check) × (c : Check) × (after : List Check)
      × (l ≡ before ++ c ∷ after) × All (λ (d : Check). says d ≡ false) before × (says c ≡ true) × (number c ≡ k)
  first_stands (this {c} {l} h e) = ([], c, l, refl, all_none, h, e)
  first_stands (not_before {c} {l} h r) =
      let p = first_stands r in
      (c ∷ p.0, p.1, p.2, ap (λ (m : List Check). c ∷ m) p.3, all_more h p.4, p.5, p.6)

  stands_first : {k : ℕ} (before : List Check) (c : Check) (after : List Check)
      → All (λ (d : Check). says d ≡ false) before → says c ≡ true → number c ≡ k → FirstHolds says k (before ++ c ∷ after)
  stands_first [] c after all_none h e = this h e
  stands_first (d ∷ before) c after (all_more f fs) h e = not_before f (stands_first before c after fs h e)

  pub first_holds_gives : (k : ℕ) (l : List Check) → FirstHolds says k l
      ↔ ((before : List Check) × (c : Check) × (after : List Check)
      × (l ≡ before ++ c ∷ after) × All (λ (d : Check). says d ≡ false) before × (says c ≡ true) × (number c ≡ k))
  first_holds_gives k l = (first_stands, λ p. rw p.3 (stands_first p.0 p.1 p.2 p.4 p.5 p.6))
