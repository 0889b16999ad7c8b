-- SILENCE. Document 02, item 5: "Carts drop out behind the cold store for minutes, and a straight leg through the wall sends the desk to the wrong belt." A fix
-- says "1 = silence follows, 0 = none". From it to the next fix the trail then has no place but at the two ends.
use Rattle.std.specs.Prelude.{◌≡◌, Bool, false, ◌||◌, ◌&&◌, List, [], ◌∷◌, ◌*◌, ltb, eqb}
use Rattle.distance.specs.Fix.{Fix}
use Rattle.distance.specs.Place.{Time}

-- "silence follows"
abbrev pub silent : Fix → Bool
silent f = eqb f.silence 1

-- The fractional time is strictly between those of two fixes.
abbrev pub strictly_between : Fix → Fix → Time → Bool
strictly_between a b u = ltb (u.q * a.t) u.p && ltb u.p (u.q * b.t)

-- From fix a on: "strictly inside a silence", of whichever leg.
unfoldable pub silence_from : Fix → List Fix → Time → Bool
silence_from a [] u = false
silence_from a (b ∷ l) u = silent a && strictly_between a b u || silence_from b l u

unfoldable pub in_silence : List Fix → Time → Bool
in_silence [] u = false
in_silence (a ∷ l) u = silence_from a l u

-- OUTSIDE SILENCES: a time that is strictly inside none, so that the ends of a silence are outside. "The distance and crossing promises hold outside silences."
pub record OutsideSilences (l : List Fix) (u : Time) : Type 0 where
  pub outside_silences : in_silence l u ≡ false
