-- THE SAME TRAIL IN CENTIMETRES AND IN MILLIMETRES HAS THE SAME PLACE at every moment, each in its unit.
use Rattle.std.specs.Prelude.{◌≡◌, List, map, ℕ, pos, ◌*ℤ◌}
use Rattle.std.proofs.Math.Path.{refl}
use Rattle.std.proofs.Common.{sym, ◌∙◌, ap}
use Rattle.std.proofs.Math.Option.{Option, some, none}
use Rattle.distance.specs.Fix.{Fix}
use Rattle.distance.specs.Tenfold.{tenfold_fix, tenfold_place}
use Rattle.distance.specs.Laws.All.{all_none, all_more}
use Rattle.distance.proofs.Laws.Tenfold.{place_scaled}
use Rattle.distance.proofs.Laws.Silence.{silence_changed}
use Rattle.format.specs.Format.{fixes}
use Rattle.record.specs.Checks.{bad_moment, moment_in_silence, sentence, refusal_of, placing, moment_outside}
use Rattle.record.specs.Answers.{answer, SameAnswer}
use Rattle.record.specs.Tenfold.{Tenfold}
use Rattle.record.proofs.Laws.Changed.{ends_changed}
use Rattle.record.proofs.Laws.Tenfold.{tenfold_refusal}
use Rattle.distance.specs.Place.{Place, moment}
use Rattle.moment.specs.Moment.{Standing, asked_moment, at_moment, beside, place_answer}
use Rattle.moment.specs.Tenfold.{TenfoldPlace}
use Rattle.moment.proofs.Laws.Moment.{moment_is}
use Rattle.moment.proofs.Laws.Placing.{own_checks, asks_moment}

at_tenfold : (l : List Fix) (s m : ℕ) → at_moment (map tenfold_fix l) s m ≡ tenfold_place (at_moment l s m)
at_tenfold l s m = moment_is (map tenfold_fix l) s m ∙ place_scaled 10 (moment s m) l ∙ ap tenfold_place (sym (moment_is l s m))

module _ {b c : List ℕ} (t : Tenfold b c) (s m : ℕ) where
  -- the moment is of the one trail's times exactly if it is of the other's
  same_refusal : refusal_of placing c (asked_moment s m) ≡ refusal_of placing b (asked_moment s m)
  unfolding sentence
  same_refusal =
      let moment_in : asks_moment c s m bad_moment ≡ asks_moment b s m bad_moment = rw t.fixes_tenfold (ends_changed tenfold_fix (moment_outside s m) (moment_outside s m) (λ f g. refl) (fixes b)) in
      let silence_in : asks_moment c s m moment_in_silence ≡ asks_moment b s m moment_in_silence = rw t.fixes_tenfold (silence_changed tenfold_fix (moment s m) (moment s m) (λ a. refl) (λ a. refl) (λ a. refl) (fixes b)) in
      tenfold_refusal t (asked_moment s m) (asked_moment s m) own_checks (all_more refl (all_more moment_in (all_more silence_in all_none)))

  -- THE LAW
  pub place_answer_tenfold : SameAnswer TenfoldPlace (place_answer c s m) (place_answer b s m)
  place_answer_tenfold = rw same_refusal (go (refusal_of placing b (asked_moment s m)))
    where
      go : (r : Option ℕ) → SameAnswer TenfoldPlace (answer r (beside (at_moment (fixes c) s m))) (answer r (beside (at_moment (fixes b) s m)))
      go (some k) = refl
      go none = ap (λ (l : List Fix). at_moment l s m) t.fixes_tenfold ∙ at_tenfold (fixes b) s m

-- ---- WHAT THE TYPE SAYS, without its name: numerators ten times as great, over the same denominator
pub tenfold_place_gives : (c b : Standing) → TenfoldPlace c b
    → (c.exact.x ≡ pos 10 *ℤ b.exact.x) × (c.exact.y ≡ pos 10 *ℤ b.exact.y) × (c.exact.d ≡ b.exact.d)
tenfold_place_gives c b h = (ap (λ (P : Place). P.x) h, ap (λ (P : Place). P.y) h, ap (λ (P : Place). P.d) h)
