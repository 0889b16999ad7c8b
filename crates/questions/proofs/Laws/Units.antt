-- WHAT THE CLAIM OF THE TWO UNITS GIVES, every part of it written out without its name; and the radius question in both, after a list of agings.
use Rattle.std.specs.Prelude.{◌≡◌, ◌⊎◌, Bool, List, [], ◌∷◌, ◌++◌, map, ℕ, ◌*◌, ◌<◌, ◌≤◌, pos, ◌*ℤ◌, length}
use Rattle.std.proofs.Common.{◌∙◌, ap, inl, inr, ⊎_elim, arith}
use Rattle.std.proofs.Math.Option.{Option, some, none}
use Rattle.distance.specs.Fix.{Fix}
use Rattle.distance.specs.Place.{Point, point_at}
use Rattle.distance.specs.Box.{Box, box_with}
use Rattle.format.specs.Kinds.{millimetre_trail}
use Rattle.format.specs.Format.{kind_field, mark_field, fixes}
use Rattle.format.proofs.Laws.RoundTrip.{AreBytes}
use Rattle.record.specs.Checks.{read_refusal}
use Rattle.record.specs.Answers.{Answer, gives, turns_away, SameAnswer}
use Rattle.record.specs.Tenfold.{Tenfold}
use Rattle.record.proofs.Laws.Tenfold.{same_answer_gives, tenfold_gives}
use Rattle.thinning.specs.Marks.{kept_by}
use Rattle.aging.specs.Aging.{Call, answered, left_by}
use Rattle.aging.specs.Tenfold.{ten_times, TenfoldCall}
use Rattle.moment.specs.Moment.{Standing, place_answer}
use Rattle.moment.specs.Tenfold.{TenfoldPlace}
use Rattle.moment.proofs.Laws.Tenfold.{tenfold_place_gives}
use Rattle.legs.specs.declared.Fraction.{Fraction}
use Rattle.crossing.specs.Crossing.{SameCrossing}
use Rattle.crossing.proofs.Laws.Gives.{same_crossing_gives}
use Rattle.approach.specs.declared.Approach.{Approach}
use Rattle.approach.specs.Tenfold.{tenfold_point, SameApproach}
use Rattle.approach.proofs.Laws.Tenfold.{near_answer_tenfold, same_approach_gives}
use Rattle.questions.specs.Agings.{run, run_answer, after_answer, near_after_answer}
use Rattle.questions.specs.Claim.{book, bound_after}
use Rattle.questions.specs.Tenfold.{TenfoldCalls, no_calls, and_then, all_answered, TenfoldClaim}
use Rattle.questions.proofs.Laws.Asked.{near_after}
use Rattle.questions.proofs.Laws.Tenfold.{tenfold_claim}

-- ---- WHAT THE TYPES SAY, without their names: which lists are of the same agings, at least these, ..
pub tenfold_calls_if : TenfoldCalls [] [] × ((q r : Call) (calls tens : List Call) → TenfoldCall q r → TenfoldCalls calls tens → TenfoldCalls (q ∷ calls) (r ∷ tens))
tenfold_calls_if = (no_calls, λ q r calls tens h k. and_then h k)

-- .. what the calls of two lists answer that stand at the same position, ..
answered_there : (b c : List ℕ) (p s : List Call) (q r : Call) (l m : List Call) → length s ≡ length p → all_answered c (s ++ r ∷ m) ≡ all_answered b (p ++ q ∷ l)
    → answered (run c s) r ≡ answered (run b p) q
unfolding all_answered run
answered_there b c [] [] q r l m h e = let z : answered c r ∷ all_answered (left_by c r) m ≡ answered b q ∷ all_answered (left_by b q) l = e in cc
answered_there b c [] (y ∷ s) q r l m h e = absurd (omega arith)
answered_there b c (x ∷ p) [] q r l m h e = absurd (omega arith)
answered_there b c (x ∷ p) (y ∷ s) q r l m h e =
    let z : answered c y ∷ all_answered (left_by c y) (s ++ r ∷ m) ≡ answered b x ∷ all_answered (left_by b x) (p ++ q ∷ l) = e in
    answered_there (left_by b x) (left_by c y) p s q r l m (omega arith) cc

-- .. the ways in which two places or crossings are answered alike, ..
placed : (x y : Answer Standing) → SameAnswer TenfoldPlace x y
    → ((P : Standing) × (Q : Standing) × (x ≡ gives P) × (y ≡ gives Q) × (P.exact.x ≡ pos 10 *ℤ Q.exact.x) × (P.exact.y ≡ pos 10 *ℤ Q.exact.y) × (P.exact.d ≡ Q.exact.d))
    ⊎ ((k : ℕ) × (x ≡ turns_away k) × (y ≡ turns_away k))
placed x y h = ⊎_elim (λ z. let p = tenfold_place_gives z.0 z.1 z.4 in inl (z.0, z.1, z.2, z.3, p.0, p.1, p.2)) (λ z. inr z) (same_answer_gives TenfoldPlace x y h)

crossed : (x y : Answer (Option Fraction)) → SameAnswer (SameCrossing millimetre_trail) x y
    → ((f : Fraction) × (g : Fraction) × (x ≡ gives (some f)) × (y ≡ gives (some g)) × (f.num * g.den ≡ g.num * f.den) × (1 ≤ f.den) × (f.den ≤ 320000))
    ⊎ ((x ≡ gives none) × (y ≡ gives none))
    ⊎ ((k : ℕ) × (x ≡ turns_away k) × (y ≡ turns_away k))
crossed x y h = ⊎_elim
    (λ z. ⊎_elim (λ n. inr (inl (z.2 ∙ ap gives n.0, z.3 ∙ ap gives n.1)))
    (λ t. inl (t.0, t.1, z.2 ∙ ap gives t.2, z.3 ∙ ap gives t.3, t.4, t.5, t.6))
    (same_crossing_gives millimetre_trail z.0 z.1 z.4))
    (λ z. inr (inr z)) (same_answer_gives (SameCrossing millimetre_trail) x y h)

-- .. AND THE CLAIM, every part of it
pub tenfold_claim_gives : (b c : List ℕ) (calls tens : List Call) → TenfoldClaim b c calls tens
    -- each call answers what the one at its position answers, and the lists answer the same
    → ((p s : List Call) (q r : Call) (l m : List Call) → calls ≡ p ++ q ∷ l → tens ≡ s ++ r ∷ m → length s ≡ length p → answered (run c s) r ≡ answered (run b p) q)
    × (run_answer c tens ≡ run_answer b calls)
    -- what is left: kind 1 and kind 2, accepted, the fixes and the mark times ten, or never, and the same positions
    × (kind_field (run b calls) ≡ 1) × (kind_field (run c tens) ≡ 2) × (read_refusal (run b calls) ≡ none) × (read_refusal (run c tens) ≡ none)
    × (fixes (run c tens) ≡ map (λ (f : Fix). record { t = f.t; x = pos 10 *ℤ f.x; y = pos 10 *ℤ f.y; silence = f.silence }) (fixes (run b calls)))
    × (mark_field (run b calls) ≡ 65535 → mark_field (run c tens) ≡ 65535) × (mark_field (run b calls) < 65535 → mark_field (run c tens) ≡ 10 * mark_field (run b calls))
    × ((marks : List Bool) → fixes (run b calls) ≡ kept_by marks 0 (fixes b) → fixes (run c tens) ≡ kept_by marks 0 (fixes c))
    -- E and its bound times ten, or none
    × ((book b calls).E ≡ none → (book c tens).E ≡ none) × ((e : ℕ) → (book b calls).E ≡ some e → (book c tens).E ≡ some (10 * e))
    × (bound_after c tens ≡ 10 * bound_after b calls)
    -- the place at every moment: numerators times ten over the same denominator, or the same refusal
    × ((s m : ℕ)
    → ((P : Standing) × (Q : Standing) × (place_answer (run c tens) s m ≡ gives P) × (place_answer (run b calls) s m ≡ gives Q)
    × (P.exact.x ≡ pos 10 *ℤ Q.exact.x) × (P.exact.y ≡ pos 10 *ℤ Q.exact.y) × (P.exact.d ≡ Q.exact.d))
    ⊎ ((k : ℕ) × (place_answer (run c tens) s m ≡ turns_away k) × (place_answer (run b calls) s m ≡ turns_away k)))
    -- the crossing of the box in millimetres: the same time by its value, over at most 320,000, no, or the same refusal
    × ((s e : ℕ) (box : Box) → let in_millimetres = after_answer c tens s e (box_with (pos 10 *ℤ box.x_low) (pos 10 *ℤ box.x_high) (pos 10 *ℤ box.y_low) (pos 10 *ℤ box.y_high)) in
    ((f : Fraction) × (g : Fraction) × (in_millimetres ≡ gives (some f)) × (after_answer b calls s e box ≡ gives (some g))
    × (f.num * g.den ≡ g.num * f.den) × (1 ≤ f.den) × (f.den ≤ 320000))
    ⊎ ((in_millimetres ≡ gives none) × (after_answer b calls s e box ≡ gives none))
    ⊎ ((k : ℕ) × (in_millimetres ≡ turns_away k) × (after_answer b calls s e box ≡ turns_away k)))
tenfold_claim_gives b c calls tens h =
    let t = (tenfold_gives (run b calls) (run c tens)).0 h.same_trail in (
      (λ p s q r l m x y z. answered_there b c p s q r l m z (rw (← x, ← y) h.same_counts)),
      h.same_answer,
      t.0,
      t.1,
      t.2,
      t.3,
      t.4,
      t.5,
      t.6,
      h.positions,
      (λ x. h.same_E ∙ ap ten_times x),
      (λ e x. h.same_E ∙ ap ten_times x),
      h.same_bound,
      (λ s m. placed _ _ (h.places s m)),
      (λ s e box. crossed _ _ (h.crossings s e box)),
    )

-- ---- THE RADIUS QUESTION AFTER A LIST, of the point and the radius in millimetres: the same leg and time, no, or the same refusal
pub near_after_tenfold : (b c : List ℕ) {calls tens : List Call} → AreBytes b → AreBytes c → Tenfold b c → TenfoldCalls calls tens → (p : Point) (r : ℕ)
    → SameAnswer SameApproach (near_after_answer c tens (tenfold_point p) (10 * r)) (near_after_answer b calls p r)
near_after_tenfold b c {calls} {tens} m n t k p r =
    rw (near_after (tenfold_point p) (10 * r) c tens n, near_after p r b calls m) (near_answer_tenfold (tenfold_claim b c m n t k).same_trail p r)

approached : (x y : Answer (Option Approach)) → SameAnswer SameApproach x y
    → ((A : Approach) × (G : Approach) × (x ≡ gives (some A)) × (y ≡ gives (some G)) × (A.leg ≡ G.leg) × (A.num * G.den ≡ G.num * A.den) × (1 ≤ A.den) × (1 ≤ G.den))
    ⊎ ((x ≡ gives none) × (y ≡ gives none))
    ⊎ ((k : ℕ) × (x ≡ turns_away k) × (y ≡ turns_away k))
approached x y h = ⊎_elim
    (λ z. ⊎_elim (λ n. inr (inl (z.2 ∙ ap gives n.0, z.3 ∙ ap gives n.1)))
    (λ t. inl (t.0, t.1, z.2 ∙ ap gives t.2, z.3 ∙ ap gives t.3, t.4, t.5, t.6, t.7))
    (same_approach_gives z.0 z.1 z.4))
    (λ z. inr (inr z)) (same_answer_gives SameApproach x y h)

-- .. written out
pub near_after_tenfold_gives : (b c : List ℕ) {calls tens : List Call} → AreBytes b → AreBytes c → Tenfold b c → TenfoldCalls calls tens
    → (p : Point) (r : ℕ) → let in_millimetres = near_after_answer c tens (point_at (pos 10 *ℤ p.x) (pos 10 *ℤ p.y)) (10 * r) in
    ((A : Approach) × (G : Approach) × (in_millimetres ≡ gives (some A)) × (near_after_answer b calls p r ≡ gives (some G))
    × (A.leg ≡ G.leg) × (A.num * G.den ≡ G.num * A.den) × (1 ≤ A.den) × (1 ≤ G.den))
    ⊎ ((in_millimetres ≡ gives none) × (near_after_answer b calls p r ≡ gives none))
    ⊎ ((k : ℕ) × (in_millimetres ≡ turns_away k) × (near_after_answer b calls p r ≡ turns_away k))
near_after_tenfold_gives b c m n t k p r = approached _ _ (near_after_tenfold b c m n t k p r)
