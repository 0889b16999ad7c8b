-- PLACE AT A MOMENT. Document 01: "The where-at question of source documents 001 and 003. The moment is a second s (32 bits) and m thousandths."
use Rattle.std.specs.Prelude.{cond, List, [], ◌∷◌, ℕ, ◌+◌, ◌*◌, leb, ℤ, pos, ◌+ℤ◌, ◌-ℤ◌, ◌*ℤ◌}
use Rattle.distance.specs.Fix.{Fix}
use Rattle.distance.specs.Distance.{seconds}
use Rattle.distance.specs.Place.{Place, own}
use Rattle.distance.specs.Rounding.{rounded}
use Rattle.format.specs.Format.{fixes}
use Rattle.record.specs.Checks.{Given, nothing, refusal_of, placing}
use Rattle.record.specs.Answers.{Answer, answer}

-- One axis: "numerator x_i·1000·D + (x_j − x_i)·(1000·(s − t_i) + m)".
abbrev pub numerator : (i j D since : ℤ) (m : ℕ) → ℤ
numerator i j D since m = i *ℤ (pos 1000 *ℤ D) +ℤ (j -ℤ i) *ℤ (pos 1000 *ℤ since +ℤ pos m)

-- "With D its seconds, the answer has denominator 1000·D and numerator [..], likewise y, not reduced."
unfoldable pub on_leg : (i j : Fix) (s m : ℕ) → Place
on_leg i j s m =
    let D = seconds i j in
    let since = pos s -ℤ pos i.t in
    record { x = numerator i.x j.x D since m; y = numerator i.y j.y D since m; d = pos 1000 *ℤ D }

-- From fix i on: "The leg is the first whose end isn't earlier than the moment."
-- "One fix: denominator 1", and the place its own.
unfoldable pub moment_from : Fix → List Fix → (s m : ℕ) → Place
moment_from i [] s m = own i
moment_from i (j ∷ l) s m = cond (leb (1000 * s + m) (1000 * j.t)) (on_leg i j s m) (moment_from j l s m)

-- A trail has a first fix: of no fixes nothing is asked.
unfoldable pub at_moment : List Fix → (s m : ℕ) → Place
at_moment [] s m = record { x = pos 0; y = pos 0; d = pos 1 }
at_moment (i ∷ l) s m = moment_from i l s m

-- The answer: the fraction, and "Beside it stands the rounded place". (Document 02, item 1, of the rounding: "The fraction beside it is as before.")
pub record Standing : Type 0 where
  pub exact : Place
  pub rounded_x : ℤ
  pub rounded_y : ℤ

abbrev pub beside : Place → Standing
beside P = record { exact = P; rounded_x = rounded P.x P.d; rounded_y = rounded P.y P.d }

-- What the call does not take decides nothing (`placing_alone` of the record's Laws/First.antt).
abbrev pub asked_moment : (s m : ℕ) → Given
asked_moment s m = record {
  tolerance = nothing.tolerance;
  second = s;
  thousandths = m;
  start = nothing.start;
  end = nothing.end;
  box = nothing.box;
  output = nothing.output;
  table = nothing.table;
  point = nothing.point;
  radius = nothing.radius;
  report = nothing.report;
}

-- THE ANSWER of the place question on lent bytes: "the place question 1 to 9, 11, 12", and of document 02's item 5 "20, directly after 9 [..]; 21, after 12, if the
-- moment is strictly inside a silence". At its two ends it has a fix's own place, on the first leg whose end isn't earlier, as everywhere.
abbrev pub place_answer : List ℕ → (s m : ℕ) → Answer Standing
place_answer b s m = answer (refusal_of placing b (asked_moment s m)) (beside (at_moment (fixes b) s m))
