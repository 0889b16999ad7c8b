-- The claim about any list of readings.
use Rattle.std.specs.Prelude.{◌≡◌, ℕ, ◌≤◌, Bool, true, false, cond, not, ◌||◌, List, [], ◌∷◌, ◌++◌, ℤ, ◌+ℤ◌, unsigned_abs, refl, Float, suc, ◌+◌}
use Rattle.std.proofs.Common.{sym, ap, subst, ◌∙◌, true≢false, arith}
use Rattle.std.proofs.Math.Option.{Option, some, none}
use Rattle.std.specs.Float.{binary32}
use Rattle.std.specs.Float.Ieee.{add}
use Rattle.distance.specs.Integers.Tests.{neither}
use Rattle.record.specs.Checks.{InSixteenths, Report, lacks, uncounted, far, beyond, plus, moved_by, new_place, unready, anchor_refusal}
use Rattle.record.specs.Answers.{unless}
use Rattle.record.proofs.Laws.First.{some_none}
use Rattle.record.proofs.Laws.Accepted.{inside_bound}
use Rattle.anchors.specs.declared.State.{State}
use Rattle.anchors.specs.declared.Reading.{Reading}
use Rattle.anchors.specs.declared.Reading.TheVariants.{Absolute, Step}
use Rattle.anchors.specs.Anchors.{sixteenths, IsSixteenths, counts, report, new_state, state_after, StandsAt, NothingLost}
use Rattle.anchors.specs.Claim.{after_all, accepted, steps, total, AnchorClaim}
use Rattle.anchors.proofs.Laws.Sixteenths.{is_sixteenths}
use Rattle.anchors.proofs.Laws.Sum.{sum_exact}
use Rattle.anchors.proofs.Laws.Reading.{refusal_is, part_of_sum}
use Rattle.format.specs.Format.{each}
use Rattle.format.proofs.Laws.Each.{each_more}

-- ---- what an accepted reading has passed
pub record Passes (r : Report) : Type 0 where
  pub sent : uncounted r.sent ≡ false
  pub ready : unready r ≡ false
  pub inside : beyond (new_place r) ≡ false

pub passes : (r : Report) → anchor_refusal r ≡ none → Passes r
passes r h = go (uncounted r.sent) refl (unready r) refl (beyond (new_place r)) refl (sym (refusal_is r) ∙ h)
  where
    go : (a : Bool) → uncounted r.sent ≡ a → (b : Bool) → unready r ≡ b → (c : Bool) → beyond (new_place r) ≡ c
        → cond {A = Option ℕ} a (some 17) (cond b (some 18) (cond c (some 19) none)) ≡ none → Passes r
    go true ea b eb c ec h = absurd (some_none h)
    go false ea true eb c ec h = absurd (some_none h)
    go false ea false eb true ec h = absurd (some_none h)
    go false ea false eb false ec h = record { sent = ea; ready = eb; inside = ec }

-- the new place is counted: check 19 never meets one that isn't
pub new_place_counted : (r : Report) → Passes r → uncounted (new_place r) ≡ false
new_place_counted r p = go r.is_step refl
  where
    both_counted : (a b : Option ℤ) → lacks a ≡ false → lacks b ≡ false → lacks (plus a b) ≡ false
    both_counted none b g h = g
    both_counted (some z) none g h = h
    both_counted (some z) (some w) g h = refl

    go : (t : Bool) → r.is_step ≡ t → uncounted (cond t (moved_by r.last r.sent) r.sent) ≡ false
    go false e = p.sent
    go true e =
        let n = neither (not r.flag) (uncounted r.last || beyond r.last) (rw e at p.ready) in
        let l = neither (lacks r.last.x) (lacks r.last.y) (neither (uncounted r.last) (beyond r.last) n.1).0 in
        let d = neither (lacks r.sent.x) (lacks r.sent.y) p.sent in
        rw (both_counted r.last.x r.sent.x l.0 d.0) (both_counted r.last.y r.sent.y l.1 d.1)

-- one axis of a step that is accepted: the float sum is the exact one
axis_exact : (u d : Float) → lacks (sixteenths u) ≡ false → far (sixteenths u) ≡ false → lacks (sixteenths d) ≡ false → far (plus (sixteenths u) (sixteenths d)) ≡ false
    → sixteenths (add binary32 u d) ≡ plus (sixteenths u) (sixteenths d)
axis_exact u d lu fu ld fs = go (sixteenths u) refl (sixteenths d) refl lu fu ld fs
  where
    go : (a : Option ℤ) → sixteenths u ≡ a → (b : Option ℤ) → sixteenths d ≡ b → lacks a ≡ false → far a ≡ false → lacks b ≡ false → far (plus a b) ≡ false → sixteenths (add binary32 u d) ≡ plus a b
    go none ea b eb la fa lb fb = absurd (true≢false la)
    go (some z) ea none eb la fa lb fb = absurd (true≢false lb)
    go (some z) ea (some w) eb la fa lb fb =
        sum_exact u d z w ea eb (omega (arith, inside_bound 256000 z fa, inside_bound 256000 (z +ℤ w) fb, part_of_sum z w))

-- NOTHING LOST: after an accepted reading the state is at the new place, exactly
pub new_exact : (s : State) (r : Reading) → anchor_refusal (report s r) ≡ none → StandsAt (new_state s r) (new_place (report s r))
new_exact s (Absolute x y) h = let p = passes (report s (Absolute x y)) h in record { flag = refl; place = refl; counted = p.sent; inside = p.inside }
new_exact s (Step x y) h =
    let p = passes (report s (Step x y)) h in
    let n = neither (not s.seen) (uncounted (counts s.x s.y) || beyond (counts s.x s.y)) p.ready in
    let u = neither (uncounted (counts s.x s.y)) (beyond (counts s.x s.y)) n.1 in
    let l = neither (lacks (sixteenths s.x)) (lacks (sixteenths s.y)) u.0 in
    let f = neither (far (sixteenths s.x)) (far (sixteenths s.y)) u.1 in
    let d = neither (lacks (sixteenths x)) (lacks (sixteenths y)) p.sent in
    let i = neither (far (plus (sixteenths s.x) (sixteenths x))) (far (plus (sixteenths s.y) (sixteenths y))) p.inside in
    record {
      flag = refl;
      place = rw (axis_exact s.x x l.0 f.0 d.0 i.0, axis_exact s.y y l.1 f.1 d.1 i.1) refl;
      counted = new_place_counted (report s (Step x y)) p;
      inside = p.inside;
    }

pub nothing_lost : (s : State) (r : Reading) (t : State) → t ≡ state_after s r → NothingLost s r t
nothing_lost s r t e h = subst (λ (u : State). StandsAt u (new_place (report s r))) (sym (e ∙ ap (λ (o : Option ℕ). unless o s (new_state s r)) h)) (new_exact s r h)

-- a step is accepted only of a state whose flag is on
step_seen : (s : State) (x y : Float) → anchor_refusal (report s (Step x y)) ≡ none → s.seen ≡ true
step_seen s x y h = go s.seen (neither (not s.seen) (uncounted (counts s.x s.y) || beyond (counts s.x s.y)) (passes (report s (Step x y)) h).ready).0
  where
    go : (t : Bool) → not t ≡ false → t ≡ true
    go true e = refl
    go false e = absurd (true≢false e)

-- ---- a list is what is accepted of it, one after the other: each leaves its new state
data Taken : State → List Reading → State → Type 0 where
  ended : (s : State) → Taken s [] s
  taken : (s t : State) (r : Reading) (l : List Reading) → anchor_refusal (report s r) ≡ none → Taken (new_state s r) l t → Taken s (r ∷ l) t

takes : (s : State) (rs : List Reading) → Taken s (accepted s rs) (after_all s rs)
unfolding accepted after_all
takes s [] = ended s
takes s (r ∷ rs) = go (anchor_refusal (report s r)) refl (takes (state_after s r) rs)
  where
    go : (o : Option ℕ) → anchor_refusal (report s r) ≡ o → Taken (unless o s (new_state s r)) (accepted (unless o s (new_state s r)) rs) (after_all (unless o s (new_state s r)) rs)
        → Taken s (unless o [] (r ∷ []) ++ accepted (unless o s (new_state s r)) rs) (after_all (unless o s (new_state s r)) rs)
    go none e k = taken s _ r _ e k
    go (some j) e k = k

nothing_taken : (s t : State) → Taken s [] t → t ≡ s
nothing_taken _ _ (ended s) = refl

record First (s t : State) (r : Reading) (l : List Reading) : Type 0 where
  accepts : anchor_refusal (report s r) ≡ none
  rest : Taken (new_state s r) l t

first_taken : (s t : State) (r : Reading) (l : List Reading) → Taken s (r ∷ l) t → First s t r l
first_taken _ _ _ _ (taken s t r l e k) = record { accepts = e; rest = k }

-- from a place on, steps alone
along : (since : List (Float × Float)) (s t : State) (c : InSixteenths) → StandsAt s c → Taken s (steps since) t → StandsAt t (total c since)
unfolding steps total
along [] s t c h k = subst (λ (u : State). StandsAt u c) (sym (nothing_taken s t k)) h
along (d ∷ since) s t c h k =
    let f = first_taken s t (Step d.0 d.1) (steps since) k in
    along since (new_state s (Step d.0 d.1)) t (moved_by c (counts d.0 d.1))
    (subst (λ (b : InSixteenths). StandsAt (new_state s (Step d.0 d.1)) (moved_by b (counts d.0 d.1))) h.place (new_exact s (Step d.0 d.1) f.accepts)) f.rest

-- from the last absolute place on, whatever came before
from_absolute : (before : List Reading) (s t : State) (x y : Float) (since : List (Float × Float)) → Taken s (before ++ (Absolute x y ∷ steps since)) t → StandsAt t (total (counts x y) since)
from_absolute [] s t x y since k =
    let f = first_taken s t (Absolute x y) (steps since) k in
    along since (new_state s (Absolute x y)) t (counts x y) (new_exact s (Absolute x y) f.accepts) f.rest
from_absolute (r ∷ before) s t x y since k = from_absolute before (new_state s r) t x y since (first_taken s t r (before ++ (Absolute x y ∷ steps since)) k).rest

-- from the place that was handed in
from_handed : (s t : State) (d : Float × Float) (since : List (Float × Float)) → Taken s (steps (d ∷ since)) t → (s.seen ≡ true) × StandsAt t (total (counts s.x s.y) (d ∷ since))
unfolding steps total
from_handed s t d since k =
    let f = first_taken s t (Step d.0 d.1) (steps since) k in
    (step_seen s d.0 d.1 f.accepts, along since (new_state s (Step d.0 d.1)) t (moved_by (counts s.x s.y) (counts d.0 d.1)) (new_exact s (Step d.0 d.1) f.accepts) f.rest)

-- while the flag is off no step is accepted
off_so_far : (s t : State) → s.seen ≡ false → (since : List (Float × Float)) → Taken s (steps since) t → t ≡ s
unfolding steps
off_so_far s t off [] k = nothing_taken s t k
off_so_far s t off (d ∷ since) k = absurd (true≢false (sym (from_handed s t d since k).0 ∙ off))

-- THE CLAIM
module _ (s : State) (rs : List Reading) where
  taken_so : {l : List Reading} → accepted s rs ≡ l → Taken s l (after_all s rs)
  taken_so e = subst (λ (l : List Reading). Taken s l (after_all s rs)) e (takes s rs)

  pub claim : AnchorClaim s rs
  claim = record {
    exact = λ before x y since e. from_absolute before s (after_all s rs) x y since (taken_so e);
    handed_in = λ d since e. from_handed s (after_all s rs) d since (taken_so e);
    unchanged = λ e. nothing_taken s (after_all s rs) (taken_so e);
    before_first = λ off since e. off_so_far s (after_all s rs) off since (taken_so e);
  }

-- ---- WHAT IT GIVES, in whole numbers: the state's two floats are z/16 and w/16, and z and w are the sums
pub record StandsExactly (t : State) (c : InSixteenths) : Type 0 where
  pub z : ℤ
  pub w : ℤ
  pub flag : t.seen ≡ true
  pub x : IsSixteenths t.x z
  pub y : IsSixteenths t.y w
  pub sum_x : c.x ≡ some z
  pub sum_y : c.y ≡ some w
  pub x_inside : unsigned_abs z ≤ 256000
  pub y_inside : unsigned_abs w ≤ 256000

pub stands_gives : (t : State) (c : InSixteenths) → StandsAt t c → StandsExactly t c
stands_gives t c h = go c.x refl c.y refl (neither (lacks c.x) (lacks c.y) h.counted) (neither (far c.x) (far c.y) h.inside)
  where
    go : (a : Option ℤ) → c.x ≡ a → (b : Option ℤ) → c.y ≡ b → (lacks c.x ≡ false) × (lacks c.y ≡ false) → (far c.x ≡ false) × (far c.y ≡ false) → StandsExactly t c
    go none ex b ey l f = absurd (true≢false (rw ex at l.0))
    go (some z) ex none ey l f = absurd (true≢false (rw ey at l.1))
    go (some z) ex (some w) ey l f = record {
      z = z;
      w = w;
      flag = h.flag;
      x = is_sixteenths t.x z (ap (λ (k : InSixteenths). k.x) h.place ∙ ex);
      y = is_sixteenths t.y w (ap (λ (k : InSixteenths). k.y) h.place ∙ ey);
      sum_x = ex;
      sum_y = ey;
      x_inside = inside_bound 256000 z (rw ex at f.0);
      y_inside = inside_bound 256000 w (rw ey at f.1);
    }

pub claim_gives : (s : State) (rs : List Reading) → AnchorClaim s rs
    → ((before : List Reading) (x y : Float) (since : List (Float × Float)) → accepted s rs ≡ before ++ (Absolute x y ∷ steps since) → StandsExactly (after_all s rs) (total (counts x y) since))
    × ((d : Float × Float) (since : List (Float × Float)) → accepted s rs ≡ steps (d ∷ since) → (s.seen ≡ true) × StandsExactly (after_all s rs) (total (counts s.x s.y) (d ∷ since)))
    × (accepted s rs ≡ [] → after_all s rs ≡ s)
    × (s.seen ≡ false → (since : List (Float × Float)) → accepted s rs ≡ steps since → after_all s rs ≡ s)
claim_gives s rs c = (
  (λ before x y since e. stands_gives _ _ (c.exact before x y since e)),
  (λ d since e. let h = c.handed_in d since e in (h.0, stands_gives _ _ h.1)),
  c.unchanged,
  c.before_first,
)

-- ---- EVERY LIST is steps alone, or has a last absolute place and steps alone after it: the claim leaves none out
pub data Parts : List Reading → Type 0 where
  steps_alone : (since : List (Float × Float)) → Parts (steps since)
  since_absolute : (before : List Reading) (x y : Float) (since : List (Float × Float)) → Parts (before ++ (Absolute x y ∷ steps since))

pub parts : (l : List Reading) → Parts l
unfolding steps
parts [] = steps_alone []
parts (r ∷ l) = go l r (parts l)
  where
    go : (l : List Reading) (r : Reading) → Parts l → Parts (r ∷ l)
    go _ (Absolute x y) (steps_alone since) = since_absolute [] x y since
    go _ (Step x y) (steps_alone since) = steps_alone ((x, y) ∷ since)
    go _ r (since_absolute before x y since) = since_absolute (r ∷ before) x y since

-- ---- a list that goes on
after_more : (s : State) (rs : List Reading) (r : Reading) → after_all s (rs ++ r ∷ []) ≡ state_after (after_all s rs) r
unfolding after_all
after_more s [] r = refl
after_more s (q ∷ rs) r = after_more (state_after s q) rs r

pub after_none : (s : State) (f : ℕ → Reading) → after_all s (each f 0 0) ≡ s
unfolding after_all each
after_none s f = refl

pub after_next : (s t u : State) (f : ℕ → Reading) (i : ℕ) → t ≡ after_all s (each f 0 i) → u ≡ state_after t (f i) → u ≡ after_all s (each f 0 (i + 1))
after_next s t u f i h k =
    let e : i + 1 ≡ suc i = omega arith in
    let z : 0 + i ≡ i = omega arith in
    k ∙ ap (λ (v : State). state_after v (f i)) h ∙ sym (after_more s (each f 0 i) (f i)) ∙ ap (after_all s) (sym (rw (e, each_more f 0 i, z) refl))
