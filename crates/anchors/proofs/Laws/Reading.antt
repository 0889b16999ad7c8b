-- The checks of a reading as the code makes them: over whole numbers of sixteenths, those that no place comes near counted alike.
use Rattle.std.specs.Prelude.{Option as Optional, None, Result, Err, IsErrAnd, ◌≡◌, ℕ, ◌+◌, ◌≤◌, Bool, true, false, cond, ◌||◌, [], ◌∷◌, ℤ, pos, negsuc, ◌+ℤ◌, neg_ℤ, nat_lt, unsigned_abs, refl, Float, FitsSigned}
use Rattle.std.proofs.Common.{sym, ap, ◌∙◌, true≢false, arith, lt-ltb, ltb-true, ltb-false}
use Rattle.std.proofs.Math.Option.{Option, some, none}
use Rattle.std.specs.Option.{ok_or}
use Rattle.distance.specs.Place.{Point, point_at}
use Rattle.distance.specs.Rounding.{with_sign_of, rounded}
use Rattle.distance.specs.Integers.Differences.{nat_abs_add, nat_abs_neg}
use Rattle.distance.specs.Integers.Ring.{ring, quotes, lit, vars}
use Rattle.distance.specs.Integers.Tests.{neither}
use Rattle.record.specs.Checks.{Report, first, sentence, outside, lacks, uncounted, beyond, new_place, unready, anchor_refusal}
use Rattle.record.specs.declared.refusal.Refusal.{Refusal}
use Rattle.record.specs.Answers.{Answer, turns_away, answer, answer_by, refused, number_of, unless}
use Rattle.record.proofs.Laws.Answers.{turned_away as handed_on}
use Rattle.record.proofs.Laws.First.{some_none, some_same, answer_same}
use Rattle.record.proofs.Laws.Accepted.{outside_size, inside_bound}
use Rattle.anchors.specs.Anchors.{sixteenths, report, rounded_place, anchor_answer, state_after, new_state}
use Rattle.anchors.specs.declared.State.{State}
use Rattle.anchors.specs.declared.Anchored.{Anchored}
use Rattle.anchors.specs.declared.Reading.{Reading}
use Rattle.anchors.specs.declared.Reading.TheVariants.{Absolute, Step}
use Rattle.anchors.specs.Laws.Reading.{Addable, cap, capped, check_19, last_exact, moved, pair, rounded_from, within}
use Rattle.std.specs.Int.{w32}
use Rattle.distance.specs.Integers.Bounds.{Bound, ◌⊕◌, fits}
use Rattle.anchors.specs.Answers.{answered, state_left}

-- ---- a place within the hall and a step of at most 2²³ sixteenths have a sum that 32 bits hold
pub record SumFits (a b : ℤ) : Type 0 where
  pub a32 : FitsSigned w32 a
  pub b32 : FitsSigned w32 b
  pub sum32 : FitsSigned w32 (a +ℤ b)

pub sum_fits : {a b : ℤ} → unsigned_abs a ≤ 256000 → unsigned_abs b ≤ 8388608 → SumFits a b
sum_fits {a} {b} h k =
    let x : Bound a = record { top = 256000; holds = h } in
    let y : Bound b = record { top = 8388608; holds = k } in
    record { a32 = fits w32 x tt; b32 = fits w32 y tt; sum32 = fits w32 (x ⊕ y) tt }

-- ---- cut off or not, a step that long leads outside
pub size_of : (z : ℤ) (n : ℕ) → unsigned_abs (with_sign_of z n) ≡ n
unfolding with_sign_of
size_of (pos k) n = refl
size_of (negsuc k) n = nat_abs_neg (pos n)

-- |w| ≤ |z + w| + |z|
pub part_of_sum : (z w : ℤ) → unsigned_abs w ≤ unsigned_abs (z +ℤ w) + unsigned_abs z
part_of_sum z w =
    let e : (z +ℤ w) +ℤ neg_ℤ z ≡ w = vars (z ∷ w ∷ []) (λ ρ v. simp (v 0, v 1, quotes) (ring _ _ ρ tt)) in
    let h : unsigned_abs w ≤ unsigned_abs (z +ℤ w) + unsigned_abs (neg_ℤ z) = rw e at (nat_abs_add (z +ℤ w) (neg_ℤ z)) in
    omega (arith, nat_abs_neg z)

leads_out : (z w : ℤ) → unsigned_abs z ≤ 256000 → 8388608 ≤ unsigned_abs w → outside 256000 (z +ℤ w) ≡ true
leads_out z w i h = outside_size 256000 (z +ℤ w) ∙ lt-ltb 256000 (unsigned_abs (z +ℤ w)) (omega (arith, part_of_sum z w))

-- the cut decides nothing: it is outside as the sum is, and where it is inside nothing was cut
pub record CutAlike (z w : ℤ) : Type 0 where
  pub as_outside : outside 256000 (z +ℤ cap w) ≡ outside 256000 (z +ℤ w)
  pub same_inside : outside 256000 (z +ℤ w) ≡ false → cap w ≡ w

pub cut_alike : (z w : ℤ) → unsigned_abs z ≤ 256000 → CutAlike z w
cut_alike z w i = go (nat_lt (unsigned_abs w) 8388608) refl
  where
    go : (t : Bool) → nat_lt (unsigned_abs w) 8388608 ≡ t → CutAlike z w
    go true e = record { as_outside = rw e refl; same_inside = λ h. rw e refl }
    go false e =
        let long = leads_out z w i (ltb-false (unsigned_abs w) 8388608 e) in
        record {
          as_outside = rw e (leads_out z (with_sign_of w 8388608) i (omega (arith, size_of w 8388608)) ∙ sym long);
          same_inside = λ h. absurd (true≢false (sym long ∙ h));
        }

cap_size : (w : ℤ) → unsigned_abs (cap w) ≤ 8388608
cap_size w = go (nat_lt (unsigned_abs w) 8388608) refl
  where
    go : (t : Bool) → nat_lt (unsigned_abs w) 8388608 ≡ t → unsigned_abs (cond t w (with_sign_of w 8388608)) ≤ 8388608
    go true e = omega (arith, ltb-true (unsigned_abs w) 8388608 e)
    go false e = omega (arith, size_of w 8388608)

-- ---- the three checks of a report, one after the other
pub refusal_is : (r : Report) → anchor_refusal r
    ≡ cond (uncounted r.sent) (some 17) (cond (unready r) (some 18) (cond (beyond (new_place r)) (some 19) none))
unfolding first sentence
refusal_is r = refl

-- WHAT THE CODE HAS FOUND of a report whose new place is P, if it was nowhere cut: the refusal that is left to make, and then the place to yield.
pub record Finds (r : Report) (P : Point) : Type 0 where
  pub refusal : anchor_refusal r ≡ check_19 P
  pub place : check_19 P ≡ none → rounded_place (new_place r) ≡ rounded_from P

-- a value that isn't counted
pub finds_17 : (r : Report) → pair (capped r.sent.x) (capped r.sent.y) ≡ none → anchor_refusal r ≡ some 17
finds_17 r h = refusal_is r ∙ rw (lacking r.sent.x r.sent.y h) refl
  where
    lacking : (a b : Option ℤ) → pair (capped a) (capped b) ≡ none → lacks a || lacks b ≡ true
    lacking none b h = refl
    lacking (some z) none h = refl
    lacking (some z) (some w) h = absurd (some_none h)

from_nowhere : (z : ℤ) → pos 0 +ℤ z ≡ z
from_nowhere z = vars (z ∷ []) (λ ρ v. simp (v 0, quotes, lit ρ) (ring _ _ ρ tt))

cut_place : (z : ℤ) → CutAlike (pos 0) z
cut_place z = cut_alike (pos 0) z (omega arith)

-- both axes: a place p, q moved by a step z, w
module _ (p q z w : ℤ) (cx : CutAlike p z) (cy : CutAlike q w) where
  cut_refusal : cond (outside 256000 (p +ℤ z) || outside 256000 (q +ℤ w)) (some 19) none ≡ check_19 (moved (point_at p q) (point_at (cap z) (cap w)))
  cut_refusal = rw (cx.as_outside, cy.as_outside) refl

  cut_rounded : check_19 (moved (point_at p q) (point_at (cap z) (cap w))) ≡ none → point_at (rounded (p +ℤ z) (pos 16)) (rounded (q +ℤ w) (pos 16)) ≡ rounded_from (moved (point_at p q) (point_at (cap z) (cap w)))
  cut_rounded h =
      let n = neither (outside 256000 (p +ℤ z)) (outside 256000 (q +ℤ w)) (passed (outside 256000 (p +ℤ z) || outside 256000 (q +ℤ w)) 19 (cut_refusal ∙ h)) in
      rw (cx.same_inside n.0, cy.same_inside n.1) refl
    where
      passed : (b : Bool) (k : ℕ) → cond b (some k) none ≡ none → b ≡ false
      passed true k h = absurd (some_none h)
      passed false k h = refl

  cut_finds : (r : Report) → anchor_refusal r ≡ cond (outside 256000 (p +ℤ z) || outside 256000 (q +ℤ w)) (some 19) none
      → rounded_place (new_place r) ≡ point_at (rounded (p +ℤ z) (pos 16)) (rounded (q +ℤ w) (pos 16)) → Finds r (moved (point_at p q) (point_at (cap z) (cap w)))
  cut_finds r e f = record { refusal = e ∙ cut_refusal; place = λ h. f ∙ cut_rounded h }

-- an absolute place: one that is moved from nowhere
finds_absolute : (a b c e : Option ℤ) (f : Bool) (P : Point) → pair (capped a) (capped b) ≡ some P
    → Finds (record { is_step = false; sent = record { x = a; y = b }; flag = f; last = record { x = c; y = e } }) P
finds_absolute none b c e f P h = absurd (some_none (sym h))
finds_absolute (some z) none c e f P h = absurd (some_none (sym h))
finds_absolute (some z) (some w) c e f P h =
    let r : Report = record { is_step = false; sent = record { x = some z; y = some w }; flag = f; last = record { x = c; y = e } } in
    let k = cut_finds (pos 0) (pos 0) z w (cut_place z) (cut_place w) r (refusal_is r ∙ rw (from_nowhere z, from_nowhere w) refl) (rw (from_nowhere z, from_nowhere w) refl) in
    rw (ap (λ (i : ℤ). point_at i (pos 0 +ℤ cap w)) (from_nowhere (cap z)) ∙ ap (λ (j : ℤ). point_at (cap z) j) (from_nowhere (cap w)) ∙ some_same h) at k

-- ---- the place of a state
cap_outside : (z : ℤ) → outside 256000 (cap z) ≡ outside 256000 z
cap_outside z = rw (from_nowhere (cap z), from_nowhere z) at (cut_place z).as_outside

cap_inside : (z : ℤ) → outside 256000 z ≡ false → cap z ≡ z
cap_inside z h = (cut_place z).same_inside (ap (λ (k : ℤ). outside 256000 k) (from_nowhere z) ∙ h)

-- none, or a place that wasn't cut
pub data Stood (p q : ℤ) : Option Point → Type 0 where
  turned_away : outside 256000 p || outside 256000 q ≡ true → Stood p q none
  stood : outside 256000 p ≡ false → outside 256000 q ≡ false → Stood p q (some (point_at p q))

pub stood_at : (p q : ℤ) → Stood p q (within (some (point_at (cap p) (cap q))))
stood_at p q = go (outside 256000 p || outside 256000 q) refl
  where
    go : (t : Bool) → outside 256000 p || outside 256000 q ≡ t → Stood p q (within (some (point_at (cap p) (cap q))))
    go true e = rw (cap_outside p, cap_outside q, e) (turned_away e)
    go false e =
        let n = neither (outside 256000 p) (outside 256000 q) e in
        rw (cap_outside p, cap_outside q, e, cap_inside p n.0, cap_inside q n.1) (stood n.0 n.1)

-- a step: with a state that check 18 turns away ..
pub finds_18 : (a b c e : Option ℤ) (f : Bool) (d : Point) → pair (capped a) (capped b) ≡ some d → cond f (within (pair (capped c) (capped e))) none ≡ none
    → anchor_refusal (record { is_step = true; sent = record { x = a; y = b }; flag = f; last = record { x = c; y = e } }) ≡ some 18
finds_18 none b c e f d h k = absurd (some_none (sym h))
finds_18 (some z) none c e f d h k = absurd (some_none (sym h))
finds_18 (some z) (some w) c e false d h k = refusal_is _
finds_18 (some z) (some w) none e true d h k = refusal_is _
finds_18 (some z) (some w) (some p) none true d h k = refusal_is _
finds_18 (some z) (some w) (some p) (some q) true d h k = refusal_is _ ∙ rw (go (within (some (point_at (cap p) (cap q)))) (stood_at p q) k) refl
  where
    go : (o : Option Point) → Stood p q o → o ≡ none → outside 256000 p || outside 256000 q ≡ true
    go _ (turned_away h) e = h
    go _ (stood g h) e = absurd (some_none e)

-- .. and with one that it lets pass
finds_step : (a b c e : Option ℤ) (f : Bool) (P d : Point) → pair (capped a) (capped b) ≡ some d → cond f (within (pair (capped c) (capped e))) none ≡ some P
    → Finds (record { is_step = true; sent = record { x = a; y = b }; flag = f; last = record { x = c; y = e } }) (moved P d) × Addable P d
finds_step none b c e f P d h k = absurd (some_none (sym h))
finds_step (some z) none c e f P d h k = absurd (some_none (sym h))
finds_step (some z) (some w) c e false P d h k = absurd (some_none (sym k))
finds_step (some z) (some w) none e true P d h k = absurd (some_none (sym k))
finds_step (some z) (some w) (some p) none true P d h k = absurd (some_none (sym k))
finds_step (some z) (some w) (some p) (some q) true P d h k = go (within (some (point_at (cap p) (cap q)))) (stood_at p q) k
  where
    r : Report
    r = record { is_step = true; sent = record { x = some z; y = some w }; flag = true; last = record { x = some p; y = some q } }

    go : (o : Option Point) → Stood p q o → o ≡ some P → Finds r (moved P d) × Addable P d
    go _ (turned_away h) e = absurd (some_none (sym e))
    go _ (stood g i) e =
        let x = inside_bound 256000 p g in
        let y = inside_bound 256000 q i in
        rw (sym (some_same e), sym (some_same h))
        (cut_finds p q z w (cut_alike p z x) (cut_alike q w y) r (refusal_is r ∙ rw (g, i) refl) refl, record { px = x; py = y; dx = cap_size z; dy = cap_size w })

-- the same of floats
pub absolute_found : (s : State) (x y : Float) (P : Point) → pair (capped (sixteenths x)) (capped (sixteenths y)) ≡ some P → Finds (report s (Absolute x y)) P
absolute_found s x y P h = finds_absolute (sixteenths x) (sixteenths y) (sixteenths s.x) (sixteenths s.y) s.seen P h

pub step_found : (s : State) (x y : Float) (P d : Point) → pair (capped (sixteenths x)) (capped (sixteenths y)) ≡ some d → last_exact s ≡ some P → Finds (report s (Step x y)) (moved P d) × Addable P d
step_found s x y P d h k = finds_step (sixteenths x) (sixteenths y) (sixteenths s.x) (sixteenths s.y) s.seen P d h k

-- where a `?` meets nothing, the refusal that stands for it is handed on
pub turned_to : {A B C : Type 0} (value : B → C) (o : Optional A) (k e : Refusal) (r : Result B Refusal)
    → o ≡ None → ok_or o k ≡ Err e → IsErrAnd r (λ f. f ≡ e) → answer_by value r ≡ turns_away (number_of k)
turned_to value o k e r n g h = handed_on value r e h ∙ ap turns_away (some_same (ap refused (sym g ∙ ap (λ u. ok_or u k) n)))

-- ---- THE ANSWER and the state, from what is found
module _ (s : State) (r : Reading) where
  pub refused_so : (k : ℕ) → anchor_refusal (report s r) ≡ some k → (turns_away k ≡ anchor_answer s r) × (s ≡ state_after s r)
  refused_so k h = rw h (refl, refl)

  pub found_answer : (P : Point) (a : Answer Point) → Finds (report s r) P → a ≡ answer (check_19 P) (rounded_from P) → a ≡ anchor_answer s r
  found_answer P a f h =
      h
      ∙ answer_same (check_19 P) (λ (k : check_19 P ≡ none). sym (f.place k))
      ∙ ap (λ (o : Option ℕ). answer o (rounded_place (new_place (report s r)))) (sym f.refusal)

  -- .. both at once
  pub found_so : (P : Point) (a : Anchored) → Finds (report s r) P → (answered a ≡ answer (check_19 P) (rounded_from P)) × (state_left a ≡ unless (check_19 P) s (new_state s r))
      → (answered a ≡ anchor_answer s r) × (state_left a ≡ state_after s r)
  found_so P a f h = (
    h.0 ∙ answer_same (check_19 P) (λ (k : check_19 P ≡ none). sym (f.place k)) ∙ ap (λ (o : Option ℕ). answer o (rounded_place (new_place (report s r)))) (sym f.refusal),
    h.1 ∙ ap (λ (o : Option ℕ). unless o s (new_state s r)) (sym f.refusal),
  )
