-- TENFOLD: what is k times as far from the middle of the hall on each axis, at the same time. Document 02, item 8, has places in millimetres beside those in
-- centimetres, and ten of them make one: a place in centimetres is in millimetres its tenfold.
use Rattle.std.specs.Prelude.{ℕ, pos, ◌*ℤ◌}
use Rattle.distance.specs.Fix.{Fix}
use Rattle.distance.specs.Place.{Place}
use Rattle.distance.specs.Box.{Box}

-- A fix, a place and a box with every coordinate times k ..
abbrev pub scaled_fix : (k : ℕ) → Fix → Fix
scaled_fix k f = record { t = f.t; x = pos k *ℤ f.x; y = pos k *ℤ f.y; silence = f.silence }

abbrev pub scaled_place : (k : ℕ) → Place → Place
scaled_place k P = record { x = pos k *ℤ P.x; y = pos k *ℤ P.y; d = P.d }

abbrev pub scaled_box : (k : ℕ) → Box → Box
scaled_box k b = record { x_low = pos k *ℤ b.x_low; x_high = pos k *ℤ b.x_high; y_low = pos k *ℤ b.y_low; y_high = pos k *ℤ b.y_high }

-- .. and times ten.
abbrev pub tenfold_fix : Fix → Fix
tenfold_fix = scaled_fix 10

abbrev pub tenfold_place : Place → Place
tenfold_place = scaled_place 10

abbrev pub tenfold_box : Box → Box
tenfold_box = scaled_box 10
