-- THE FRACTION IS THE TRAIL'S INTERPOLATED PLACE at that moment, the very fraction that `place` gives at (1000·s + m)/1000.
use Rattle.std.specs.Prelude.{◌≡◌, refl, List, [], ◌∷◌, ℕ, ◌+◌, ◌*◌, ℤ, pos, ◌+ℤ◌, ◌-ℤ◌, ◌*ℤ◌}
use Rattle.std.proofs.Common.{ap, arith}
use Rattle.distance.specs.Fix.{Fix}
use Rattle.distance.specs.Distance.{seconds}
use Rattle.distance.specs.Place.{moment, leg, place_from, place, interpolated}
use Rattle.distance.specs.Integers.Differences.{diffs}
use Rattle.moment.specs.Moment.{on_leg, moment_from, at_moment}

since_start : (s m t : ℕ) → pos 1000 *ℤ (pos s -ℤ pos t) +ℤ pos m ≡ pos (1000 * s + m) -ℤ pos 1000 *ℤ pos t
since_start s m t = simp diffs (omega arith)

-- on a leg
pub on_leg_is : (a b : Fix) (s m : ℕ) → on_leg a b s m ≡ leg a b (moment s m)
unfolding on_leg leg
on_leg_is a b s m =
    ap (λ (g : ℤ). record { x = interpolated a.x b.x (pos 1000 *ℤ seconds a b) g; y = interpolated a.y b.y (pos 1000 *ℤ seconds a b) g; d = pos 1000 *ℤ seconds a b })
    (since_start s m a.t)

from_is : (a : Fix) (l : List Fix) (s m : ℕ) → moment_from a l s m ≡ place_from a l (moment s m)
unfolding moment_from place_from
from_is a [] s m = refl
from_is a (b ∷ l) s m = rw (on_leg_is a b s m, from_is b l s m) refl

-- on a trail
pub moment_is : (l : List Fix) (s m : ℕ) → at_moment l s m ≡ place l (moment s m)
unfolding at_moment place
moment_is [] s m = refl
moment_is (a ∷ l) s m = from_is a l s m
