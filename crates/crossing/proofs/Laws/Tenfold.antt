-- THE SAME TRAIL IN CENTIMETRES AND IN MILLIMETRES CROSSES THE SAME BOX at the same time, or neither crosses it, and a refusal is the same.
use Rattle.std.specs.Prelude.{◌≡◌, ◌↔◌, List, [], ◌∷◌, map, ℕ, ◌+◌, ◌*◌, ◌≤◌}
use Rattle.std.proofs.Math.Path.{refl, sym, ap}
use Rattle.std.proofs.Common.{subst, ◌∙◌, arith}
use Rattle.std.proofs.Math.Option.{Option, some, none}
use Rattle.distance.specs.Fix.{Fix}
use Rattle.distance.specs.Place.{Time, first_time, after_first, place}
use Rattle.distance.specs.Box.{Box}
use Rattle.distance.specs.Tenfold.{tenfold_fix, tenfold_box}
use Rattle.distance.specs.Laws.All.{all_none, all_more}
use Rattle.distance.proofs.Laws.Tenfold.{place_scaled, in_scaled}
use Rattle.distance.specs.Silence.{in_silence}
use Rattle.distance.proofs.Laws.Silence.{silence_changed}
use Rattle.distance.specs.Integers.Order.{lt_z_times}
use Rattle.format.specs.Kinds.{Kind, trail, millimetre_trail}
use Rattle.format.specs.Format.{kind_of, fixes}
use Rattle.record.specs.Checks.{bad_window, bad_box, sentence, second_outside, of_ends}
use Rattle.record.specs.Answers.{answer, SameAnswer}
use Rattle.record.specs.Tenfold.{Tenfold}
use Rattle.record.proofs.Laws.Changed.{ends_changed}
use Rattle.record.proofs.Laws.Tenfold.{tenfold_refusal, outside_tenfold}
use Rattle.legs.specs.declared.Fraction.{Fraction}
use Rattle.crossing.specs.Crossing.{Crosses, Told, Means, SameCrossing, first_crossing, asked_crossing, cross_refusal, cross_answer}
use Rattle.crossing.specs.Laws.Search.{edges_outside}
use Rattle.crossing.proofs.Laws.Checking.{asks_crossing, own_checks, given_means}

-- ---- WHAT IT MEANS DECIDES AN ANSWER: of two trails that begin together and cross at the same times, each its own box, the answers say the same, whatever their
-- form is.

-- the time that is told of one isn't later than any at which the other crosses
not_later : {i j : ℕ} (l m : List Fix) (a b : Box) (s e : ℕ) {n d p q : ℕ} → Told i l a s e n d → Told j m b s e p q → first_time m ≡ first_time l
    → ((u : Time) → Crosses m b s e u → Crosses l a s e u) → n * q ≤ p * d
not_later l m a b s e {n} {d} {p} {q} x y start crosses = from (first_time l) (first_time m) start (x.earliest (after_first m p q y.some_denominator) (crosses _ y.crosses))
  where
    from : (z t : ℕ) → t ≡ z → (d * z + n) * q ≤ (q * t + p) * d → n * q ≤ p * d
    from z t h k = omega (arith, k, ap (λ (r : ℕ). q * r * d) h)

same_means : (J K : Kind) (l m : List Fix) (a b : Box) (s e : ℕ) (o r : Option Fraction) → Means J.limit l a s e o → Means K.limit m b s e r → first_time m ≡ first_time l
    → ((u : Time) → Crosses m b s e u ↔ Crosses l a s e u) → SameCrossing K r o
same_means J K l m a b s e (some f) (some g) x y start same = record {
  same_value = omega (arith, not_later l m a b s e x y start (λ u. (same u).0), not_later m l b a s e y x (sym start) (λ u. (same u).1));
  at_least = y.some_denominator;
  at_most = y.small_denominator;
}
same_means J K l m a b s e (some f) none x y start same = y _ ((same _).1 x.crosses)
same_means J K l m a b s e none (some g) x y start same = x _ ((same _).0 y.crosses)
same_means J K l m a b s e none none x y start same = tt

-- ---- the same trail in the two units
start_tenfold : (l : List Fix) → first_time (map tenfold_fix l) ≡ first_time l
start_tenfold [] = refl
start_tenfold (a ∷ l) = refl

crosses_tenfold : (l : List Fix) (box : Box) (s e : ℕ) (u : Time) → Crosses (map tenfold_fix l) (tenfold_box box) s e u ↔ Crosses l box s e u
crosses_tenfold l box s e u =
    let z = place_scaled 10 u l in
    let i = in_scaled 10 (omega arith) box (place l u) in
    let q : in_silence (map tenfold_fix l) u ≡ in_silence l u = silence_changed tenfold_fix u u (λ a. refl) (λ a. refl) (λ a. refl) l in (
      λ h. record { opened = h.opened; closed = h.closed; heard = record { outside_silences = sym q ∙ h.heard.outside_silences }; inside = i.0 (rw z at h.inside) },
      λ h. record { opened = h.opened; closed = h.closed; heard = record { outside_silences = q ∙ h.heard.outside_silences }; inside = rw z (i.1 h.inside) },
    )

edges_tenfold : (box : Box) → edges_outside millimetre_trail.limit (tenfold_box box) ≡ edges_outside trail.limit box
edges_tenfold box =
    rw (outside_tenfold box.x_low, outside_tenfold box.x_high, outside_tenfold box.y_low, outside_tenfold box.y_high, lt_z_times 10 box.x_high box.x_low (omega arith), lt_z_times 10 box.y_high box.y_low (omega arith))
    refl

module _ {b c : List ℕ} (t : Tenfold b c) (s e : ℕ) (box : Box) where
  -- the window is of the one trail's times exactly if it is of the other's, and the box within the one's limits exactly if it is within the other's
  same_refusal : cross_refusal c s e (tenfold_box box) ≡ cross_refusal b s e box
  unfolding sentence
  same_refusal =
      let times : (x : ℕ) → of_ends (second_outside x) (map tenfold_fix (fixes b)) ≡ of_ends (second_outside x) (fixes b) = λ x. ends_changed tenfold_fix (second_outside x) (second_outside x) (λ f g. refl) (fixes b) in
      let window : asks_crossing c s e (tenfold_box box) bad_window ≡ asks_crossing b s e box bad_window = rw (t.fixes_tenfold, times s, times e) refl in
      let edges : asks_crossing c s e (tenfold_box box) bad_box ≡ asks_crossing b s e box bad_box =
      ap (λ (K : Kind). edges_outside K.limit (tenfold_box box)) t.kind_tenfold ∙ edges_tenfold box ∙ sym (ap (λ (K : Kind). edges_outside K.limit box) t.kind_before) in
      tenfold_refusal t (asked_crossing s e box) (asked_crossing s e (tenfold_box box)) own_checks (all_more window (all_more edges all_none))

  -- THE LAW
  pub cross_answer_tenfold : SameAnswer (SameCrossing millimetre_trail) (cross_answer c s e (tenfold_box box)) (cross_answer b s e box)
  cross_answer_tenfold = rw same_refusal (go (cross_refusal b s e box) refl)
    where
      go : (r : Option ℕ) → cross_refusal b s e box ≡ r
          → SameAnswer (SameCrossing millimetre_trail) (answer r (first_crossing (fixes c) (tenfold_box box) s e)) (answer r (first_crossing (fixes b) box s e))
      go (some k) h = refl
      go none h =
          let x = given_means b s e box h in
          let y = given_means c s e (tenfold_box box) (same_refusal ∙ h) in
          same_means (kind_of b) millimetre_trail (fixes b) (fixes c) box (tenfold_box box) s e (first_crossing (fixes b) box s e) (first_crossing (fixes c) (tenfold_box box) s e) x
          (subst (λ (K : Kind). Means K.limit (fixes c) (tenfold_box box) s e (first_crossing (fixes c) (tenfold_box box) s e)) t.kind_tenfold y)
          (rw t.fixes_tenfold (start_tenfold (fixes b)))
          (λ u. rw t.fixes_tenfold (crosses_tenfold (fixes b) box s e u))
