-- A MIRRORED TRAIL is thinned alike: what is kept of it is mirrored, and the count is the same.
use Rattle.std.specs.Prelude.{◌≡◌, refl, List, map, ℕ}
use Rattle.distance.specs.Fix.{Fix}
use Rattle.distance.specs.Distance.{deviation, allowance}
use Rattle.distance.specs.Mirror.{Mirror, mirrored_fix}
use Rattle.distance.proofs.Laws.Mirror.{deviation_mirrored, allowance_mirrored}
use Rattle.distance.specs.Silence.{silent}
use Rattle.thinning.specs.Thinning.{thinning}
use Rattle.thinning.proofs.Laws.Mapped.{mapped, thin_mapped}

pub thinning_mirrored : (b : Mirror) (e : ℕ) (l : List Fix) → thinning e (map (mirrored_fix b) l) ≡ mapped (mirrored_fix b) (thinning e l)
unfolding thinning
thinning_mirrored b e l = thin_mapped (mirrored_fix b) deviation allowance (deviation_mirrored b) (allowance_mirrored b) e silent (λ i. refl) l
