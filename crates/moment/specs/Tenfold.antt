-- THE SAME PLACE IN CENTIMETRES AND IN MILLIMETRES: of the same trail in the two units (`Tenfold` of the record's Tenfold.antt) the place question gives it, or
-- refuses both with the same number: `place_answer_tenfold` of Laws/Tenfold.antt.
use Rattle.std.specs.Prelude.{◌≡◌}
use Rattle.distance.specs.Tenfold.{tenfold_place}
use Rattle.moment.specs.Moment.{Standing}

-- The fractions are over the same denominator, and those in millimetres have numerators ten times as great. Nothing is said of the rounded place: half a centimetre
-- is rounded to a whole one, and is five millimetres.
abbrev pub TenfoldPlace : (in_millimetres in_centimetres : Standing) → Type 0
TenfoldPlace c b = c.exact ≡ tenfold_place b.exact
