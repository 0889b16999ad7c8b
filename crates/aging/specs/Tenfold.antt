-- THE SAME AGING IN CENTIMETRES AND IN MILLIMETRES: which call on a record of kind 1 and which on one of kind 2 thin at the same length.
-- (`aged_tenfold` of Laws/Tenfold.antt: on the same trail in the two units they keep the same positions with the same count.)
use Rattle.std.specs.Prelude.{◌≡◌, List, ℕ, ◌*◌, ◌<◌, ◌≤◌}
use Rattle.std.proofs.Math.Option.{Option, some, none}
use Rattle.distance.specs.Laws.All.{All}
use Rattle.format.specs.Kinds.{trail, millimetre_trail}
use Rattle.record.specs.Checks.{Row, load_refusal}
use Rattle.aging.specs.Aging.{Call, by_tolerance, by_days}

-- A tolerance, or none, times ten.
abbrev pub ten_times : Option ℕ → Option ℕ
ten_times none = none
ten_times (some e) = some (10 * e)

pub data TenfoldCall : (in_centimetres in_millimetres : Call) → Type 0 where
  -- at a tolerance and at ten times as much. From 0 to 6,000 centimetres: for more kind 2 has no tolerance, and no call on it does the same.
  at_ten_times : {e : ℕ} → 10 * e ≤ millimetre_trail.top → TenfoldCall (by_tolerance e) (by_tolerance (10 * e))
  -- by the same days and the same table, for which document 02's item 8 takes ten times the row. Of rows up to 6,000 centimetres: for more kind 2 takes its greatest
  -- tolerance, which is less than ten times the row.
  by_same_days : {days : ℕ} {rows : List Row} → All (λ (r : Row). 10 * r.row_tolerance ≤ millimetre_trail.top) rows → TenfoldCall (by_days days rows) (by_days days rows)
  -- or by a table that both turn away, whatever its rows are
  by_refused_table : {days k : ℕ} {rows : List Row} → load_refusal rows ≡ some k → TenfoldCall (by_days days rows) (by_days days rows)
  -- two at tolerances that check 10 turns away, each by the limit of its kind
  both_too_high : {e d : ℕ} → trail.top < e → millimetre_trail.top < d → TenfoldCall (by_tolerance e) (by_tolerance d)
