-- A TRAIL WITH EACH COORDINATE CHANGED, every x by g and every y by h: if each of the two leaves 0 and goes with interpolation, the trail's place is at every time
-- the changed one.
use Rattle.std.specs.Prelude.{◌≡◌, Bool, true, false, cond, ◌*◌, leb, ℤ, pos}
use Rattle.std.proofs.Math.Path.{refl}
use mathlib.Core.List.{List, [], ◌∷◌, map}
use Rattle.distance.specs.Fix.{Fix}
use Rattle.distance.specs.Place.{Place, Time, own, interpolated, leg, place_from, place}

-- what g must keep
pub record AlongAxis (g : ℤ → ℤ) : Type 0 where
  pub of_zero : g (pos 0) ≡ pos 0
  pub between : (i j D s : ℤ) → interpolated (g i) (g j) D s ≡ g (interpolated i j D s)

module _ (g h : ℤ → ℤ) where
  abbrev pub changed_fix : Fix → Fix
  changed_fix f = record { t = f.t; x = g f.x; y = h f.y; silence = f.silence }

  abbrev pub changed_place : Place → Place
  changed_place P = record { x = g P.x; y = h P.y; d = P.d }

  module _ (along_x : AlongAxis g) (along_y : AlongAxis h) (u : Time) where
    leg_changed : (a b : Fix) → leg (changed_fix a) (changed_fix b) u ≡ changed_place (leg a b u)
    unfolding leg
    leg_changed a b = rw (along_x.between a.x b.x _ _, along_y.between a.y b.y _ _) refl

    either : (t : Bool) (P Q : Place) → cond t (changed_place P) (changed_place Q) ≡ changed_place (cond t P Q)
    either true P Q = refl
    either false P Q = refl

    from_changed : (a : Fix) (l : List Fix) → place_from (changed_fix a) (map changed_fix l) u ≡ changed_place (place_from a l u)
    unfolding place_from own
    from_changed a [] = refl
    from_changed a (b ∷ l) = rw (leg_changed a b, from_changed b l) (either (leb u.p (u.q * b.t)) (leg a b u) (place_from b l u))

    pub place_changed : (l : List Fix) → place (map changed_fix l) u ≡ changed_place (place l u)
    unfolding place
    place_changed [] = rw (along_x.of_zero, along_y.of_zero) refl
    place_changed (a ∷ l) = from_changed a l
