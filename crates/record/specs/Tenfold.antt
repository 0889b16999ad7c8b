-- THE SAME TRAIL IN CENTIMETRES AND IN MILLIMETRES. Document 02, item 8, adds records in millimetres, kind 2, to those in centimetres, kind 1. A record of kind 1,
-- with every coordinate times ten, is one of kind 2; aged at ten times the tolerance it keeps the same positions with the same count, and its places and crossings
-- are those of the other, in its own unit: `aged_tenfold` of the aging's Laws/Tenfold.antt, `place_answer_tenfold` of the moment's, `cross_answer_tenfold` of the
-- crossing's, and after any list of agings `TenfoldClaim` of the questions' Tenfold.antt.
use Rattle.std.specs.Prelude.{◌≡◌, cond, List, map, ℕ, ◌*◌, eqb}
use Rattle.distance.specs.Tenfold.{tenfold_fix}
use Rattle.format.specs.Kinds.{trail, millimetre_trail}
use Rattle.format.specs.Format.{never, kind_of, mark_field, fixes, record_bytes}
use Rattle.record.specs.Checks.{IsAccepted}

-- The mark: never, or ten times as great.
unfoldable pub tenfold_mark : ℕ → ℕ
tenfold_mark mark = cond (eqb mark never) never (10 * mark)

-- The record in millimetres of the trail that b has in centimetres.
unfoldable pub tenfold_record : List ℕ → List ℕ
tenfold_record b = record_bytes millimetre_trail (tenfold_mark (mark_field b)) (map tenfold_fix (fixes b))

-- Lent bytes b begin with a record in centimetres and c with one in millimetres, both are accepted, and it is the same trail and the same mark. What stands behind
-- either record doesn't matter. (`tenfold_never` and `tenfold_marked` of Laws/Tenfold.antt: so it is of b and `tenfold_record b`.)
pub record Tenfold (b c : List ℕ) : Type 0 where
  pub kind_before : kind_of b ≡ trail
  pub kind_tenfold : kind_of c ≡ millimetre_trail
  pub accepted_before : IsAccepted b
  pub accepted_tenfold : IsAccepted c
  pub fixes_tenfold : fixes c ≡ map tenfold_fix (fixes b)
  pub mark_tenfold : mark_field c ≡ tenfold_mark (mark_field b)
