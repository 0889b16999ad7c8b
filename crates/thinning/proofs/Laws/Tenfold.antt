-- A TRAIL k TIMES AS FAR ON EACH AXIS, thinned at k times the tolerance: what is kept is k times as far, and the count is the same.
use Rattle.std.specs.Prelude.{◌≡◌, refl, List, map, ℕ, ◌*◌, ◌≤◌}
use Rattle.distance.specs.Fix.{Fix}
use Rattle.distance.specs.Distance.{deviation, allowance}
use Rattle.distance.specs.Tenfold.{scaled_fix}
use Rattle.distance.proofs.Laws.Tenfold.{further_scaled, within_scaled}
use Rattle.distance.specs.Silence.{silent}
use Rattle.thinning.specs.Thinning.{thinning}
use Rattle.thinning.proofs.Laws.Mapped.{mapped, thin_alike}

pub thinning_scaled : (k e : ℕ) (l : List Fix) → 1 ≤ k → thinning (k * e) (map (scaled_fix k) l) ≡ mapped (scaled_fix k) (thinning e l)
unfolding thinning
thinning_scaled k e l one = thin_alike (scaled_fix k) deviation allowance e (k * e) (further_scaled k one) (within_scaled k one e) silent (λ i. refl) l
