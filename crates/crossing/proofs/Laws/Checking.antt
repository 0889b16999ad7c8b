-- The crossing's checks, and what it gives when none of them turns the call away.
use Rattle.std.specs.Prelude.{◌≡◌, Bool, true, false, ◌||◌, List, [], ◌∷◌, ◌++◌, ℕ, ◌-◌, ◌≤◌, ltb, ℤ, pos, neg_ℤ, ◌≤ℤ◌}
use Rattle.std.proofs.Math.Path.{refl}
use Rattle.std.proofs.Common.{sym, ◌∙◌, ap, arith, ltb-false}
use Rattle.std.proofs.Math.Option.{Option, some, none}
use Rattle.std.specs.Int.Signed.{lt_z}
use Rattle.distance.specs.Fix.{Fix, widest, last_of}
use Rattle.distance.specs.Box.{Box}
use Rattle.distance.specs.Integers.Differences.{diffs}
use Rattle.distance.specs.Integers.Order.{≤ℤ-trans, pos_le, le_of_lt_z}
use Rattle.format.specs.Format.{kind_of, count_field, fixes}
use Rattle.format.proofs.Laws.Kinds.{kind_of_is}
use Rattle.record.specs.Checks.{Check, bad_window, bad_box, first, sentence, head_checks, fix_checks, read_refusal, IsAccepted, crossing, checks, outside, second_outside}
use Rattle.record.specs.Answers.{Answer, gives, turns_away, answer}
use Rattle.record.proofs.Laws.First.{stops, passes, first_none, some_first, none_first, none_front, none_holds, NoneHolds, no_check, and_not, reading_alone, first_exactly}
use Rattle.distance.specs.Integers.Tests.{neither}
use Rattle.record.proofs.Laws.Head.{asks}
use Rattle.record.proofs.Laws.Accepted.{accepted_good}
use Rattle.legs.specs.declared.Fraction.{Fraction}
use Rattle.legs.specs.Legs.{framed}
use Rattle.crossing.specs.Crossing.{first_from, first_crossing, asked_crossing, cross_refusal, cross_answer, Means, CrossMeans}
use Rattle.record.specs.Laws.Trail.{from, fix_in}
use Rattle.record.proofs.Laws.Trail.{fixes_from, ends_are, last_is, accepted_checked, first_second, last_second}
use Rattle.legs.specs.Laws.Legs.{InWidest}
use Rattle.legs.specs.Laws.Legs.{BoxInWidest}
use Rattle.crossing.specs.Laws.Search.{window_outside, edges_outside}
use Rattle.crossing.proofs.Laws.Crossing.{GoodWindow, crossing_means}

-- ---- what a window and a box that pass have
pub window_good : (s e f l : ℕ) → window_outside s e f l ≡ false → GoodWindow s e f l
window_good s e f l h =
    let a = neither (ltb e s) ((ltb s f || ltb l s) || (ltb e f || ltb l e)) h in
    let b = neither (ltb s f || ltb l s) (ltb e f || ltb l e) a.1 in
    let c = neither (ltb s f) (ltb l s) b.0 in
    let d = neither (ltb e f) (ltb l e) b.1 in
    record { from = ltb-false s f c.0; order = ltb-false e s a.0; to = ltb-false l e d.1 }

edge_good : (limit : ℕ) → limit ≤ widest → (z : ℤ) → outside limit z ≡ false → InWidest z
edge_good limit wide z h =
    let n = neither (lt_z z (neg_ℤ (pos limit))) (lt_z (pos limit) z) h in
    let low : neg_ℤ (pos widest) ≤ℤ neg_ℤ (pos limit) = simp diffs (omega arith) in
    record { low = ≤ℤ-trans low (le_of_lt_z n.0); high = ≤ℤ-trans (le_of_lt_z n.1) ((pos_le limit widest).1 wide) }

pub box_good : (limit : ℕ) → limit ≤ widest → (b : Box) → edges_outside limit b ≡ false → BoxInWidest b
box_good limit wide b h =
    let good = edge_good limit wide in
    let i = neither (outside limit b.x_low) _ h in
    let j = neither (outside limit b.x_high) _ i.1 in
    let k = neither (outside limit b.y_low) _ j.1 in
    let l = neither (outside limit b.y_high) _ k.1 in
    record { x_low = good b.x_low i.0; x_high = good b.x_high j.0; y_low = good b.y_low k.0; y_high = good b.y_high l.0 }

-- those of the question itself
abbrev pub own_checks : List Check
own_checks = bad_window ∷ bad_box ∷ []

module _ (b : List ℕ) (s e : ℕ) (box : Box) where
  abbrev pub asks_crossing : Check → Bool
  asks_crossing = asks b (asked_crossing s e box)

  -- one of the reader's checks turns the bytes away
  pub cross_refused : (k : ℕ) → read_refusal b ≡ some k → cross_refusal b s e box ≡ some k
  cross_refused k h = some_first asks_crossing (head_checks ++ fix_checks) own_checks k (reading_alone b (asked_crossing s e box) ∙ h)

  module _ (accepted : IsAccepted b) where
    -- an accepted record leaves checks 13 and 14
    pub two_left : first asks_crossing ((head_checks ++ fix_checks) ++ own_checks) ≡ first asks_crossing own_checks
    two_left = none_first asks_crossing (head_checks ++ fix_checks) own_checks (reading_alone b (asked_crossing s e box) ∙ accepted.accepted)

    some_fix : 1 ≤ count_field b
    some_fix = (accepted_good b accepted).head.some_fix

    window_says : asks_crossing bad_window ≡ window_outside s e (first_second b) (last_second b)
    unfolding sentence
    window_says = rw (ends_are b (second_outside s) some_fix, ends_are b (second_outside e) some_fix) refl

    box_says : asks_crossing bad_box ≡ edges_outside (kind_of b).limit box
    unfolding sentence
    box_says = refl

    pub cross_13 : window_outside s e (first_second b) (last_second b) ≡ true → cross_refusal b s e box ≡ some 13
    cross_13 h = two_left ∙ stops asks_crossing bad_window (bad_box ∷ []) (window_says ∙ h)

    pub cross_14 : window_outside s e (first_second b) (last_second b) ≡ false → edges_outside (kind_of b).limit box ≡ true → cross_refusal b s e box ≡ some 14
    cross_14 h k = two_left ∙ passes asks_crossing bad_window (bad_box ∷ []) (window_says ∙ h) ∙ stops asks_crossing bad_box [] (box_says ∙ k)

    pub cross_none : window_outside s e (first_second b) (last_second b) ≡ false → edges_outside (kind_of b).limit box ≡ false → cross_refusal b s e box ≡ none
    cross_none h k = two_left ∙ passes asks_crossing bad_window (bad_box ∷ []) (window_says ∙ h) ∙ passes asks_crossing bad_box [] (box_says ∙ k) ∙ first_none asks_crossing

    -- what the search computes is the definition
    pub crossing_is : first_crossing (fixes b) box s e ≡ first_from (first_second b) (fix_in b 0) (from (fix_in b) 1 (count_field b)) (framed box) (s - first_second b) (e - first_second b)
    unfolding first_crossing
    crossing_is = rw (fixes_from b some_fix) refl

    -- and means what the question means
    pub accepted_means : window_outside s e (first_second b) (last_second b) ≡ false → edges_outside (kind_of b).limit box ≡ false → Means (kind_of b).limit (fixes b) box s e (first_crossing (fixes b) box s e)
    accepted_means h k =
        let w = window_good s e (first_second b) (last_second b) h in
        let l : last_second b ≡ (last_of (fix_in b 0) (from (fix_in b) 1 (count_field b))).t = ap (λ (f : Fix). f.t) (sym (last_is (fix_in b) (count_field b))) in
        rw (fixes_from b some_fix) (crossing_means (kind_of b).limit _ _ box s e (kind_of_is b).some_place (kind_of_is b).within_widest (accepted_checked b accepted) (box_good (kind_of b).limit (kind_of_is b).within_widest box k) (record { from = w.from; order = w.order; to = omega (arith, w.to, l) }))

-- ---- what a question that none of its checks turns away has: an accepted record, a window of its times, and a box within the limits
pub record Askable (b : List ℕ) (s e : ℕ) (box : Box) : Type 0 where
  pub is_accepted : IsAccepted b
  pub window_passed : window_outside s e (first_second b) (last_second b) ≡ false
  pub box_passed : edges_outside (kind_of b).limit box ≡ false

pub cross_passed : (b : List ℕ) (s e : ℕ) (box : Box) → cross_refusal b s e box ≡ none → Askable b s e box
cross_passed b s e box n =
    let front = none_front (asks_crossing b s e box) (head_checks ++ fix_checks) own_checks n in
    let accepted : IsAccepted b = record { accepted = sym (reading_alone b (asked_crossing s e box)) ∙ front } in
    let p = own (none_holds (asks_crossing b s e box) own_checks (sym (none_first (asks_crossing b s e box) (head_checks ++ fix_checks) own_checks front) ∙ n)) in
    record { is_accepted = accepted; window_passed = sym (window_says b s e box accepted) ∙ p.0; box_passed = sym (box_says b s e box accepted) ∙ p.1 }
  where
    own : NoneHolds (asks_crossing b s e box) own_checks → (asks_crossing b s e box bad_window ≡ false) × (asks_crossing b s e box bad_box ≡ false)
    own (and_not p (and_not q no_check)) = (p, q)

-- ---- THE ANSWER ON LENT BYTES MEANS IT
pub given_means : (b : List ℕ) (s e : ℕ) (box : Box) → cross_refusal b s e box ≡ none → Means (kind_of b).limit (fixes b) box s e (first_crossing (fixes b) box s e)
given_means b s e box n = let p = cross_passed b s e box n in accepted_means b s e box p.is_accepted p.window_passed p.box_passed

pub cross_means : (b : List ℕ) (s e : ℕ) (box : Box) → CrossMeans b s e box (cross_answer b s e box)
cross_means b s e box = go (cross_refusal b s e box) refl
  where
    go : (r : Option ℕ) → cross_refusal b s e box ≡ r → CrossMeans b s e box (answer r (first_crossing (fixes b) box s e))
    go none n = given_means b s e box n
    go (some k) n = (first_exactly (asks_crossing b s e box) k (checks crossing)).0 n

-- so do the two ways in which the call answers: a refusal, and what is computed where there is none
pub refused_means : (b : List ℕ) (s e : ℕ) (box : Box) (k : ℕ) → cross_refusal b s e box ≡ some k → (turns_away k ≡ cross_answer b s e box) × CrossMeans b s e box (turns_away k)
refused_means b s e box k h = (rw h refl, (first_exactly (asks_crossing b s e box) k (checks crossing)).0 h)

pub asked_means : (b : List ℕ) (s e : ℕ) (box : Box) (a : Answer (Option Fraction)) → a ≡ cross_answer b s e box → (a ≡ cross_answer b s e box) × CrossMeans b s e box a
asked_means b s e box a h = (h, rw h (cross_means b s e box))

-- where no check turns the question away, the answer is what the search computes
pub cross_gives : (b : List ℕ) (s e : ℕ) (box : Box) → cross_refusal b s e box ≡ none
    → cross_answer b s e box ≡ gives (first_from (first_second b) (fix_in b 0) (from (fix_in b) 1 (count_field b)) (framed box) (s - first_second b) (e - first_second b))
cross_gives b s e box n = rw (n, crossing_is b s e box (cross_passed b s e box n).is_accepted) refl
