-- The trail that is kept at E beside the original: it begins and ends where that does, is silent when that is, and is at most E from it.
use Rattle.std.specs.Prelude.{◌≡◌, refl, ◌↔◌, List, [], ◌∷◌, ℕ}
use Rattle.std.proofs.Common.{sym, ◌∙◌, ap}
use Rattle.std.proofs.Math.Option.{Option, some, none}
use Rattle.distance.specs.Fix.{Fix, Rising, last_of}
use Rattle.distance.specs.Place.{Proper, Time, AskedOf, place, Near}
use Rattle.distance.specs.Silence.{in_silence, OutsideSilences}
use Rattle.distance.proofs.Laws.Place.{place_proper}
use Rattle.thinning.proofs.Laws.Kept.{SameEnds, no_fixes, same_ends}
use Rattle.thinning.proofs.Laws.Trail.{ends_stay, kept_rising, silent_as_before}
use Rattle.questions.specs.Agings.{kept_at, counts_as}
use Rattle.questions.proofs.Laws.Agings.{kept_near}

kept_ends : (E : Option ℕ) (l : List Fix) → SameEnds l (kept_at E l)
unfolding kept_at
kept_ends none [] = no_fixes
kept_ends none (a ∷ l) = same_ends refl
kept_ends (some E) l = ends_stay E l

pub kept_rises : (E : Option ℕ) (l : List Fix) → Rising l → Rising (kept_at E l)
unfolding kept_at
kept_rises none l h = h
kept_rises (some E) l h = kept_rising E l h

pub kept_silences : (E : Option ℕ) (l : List Fix) (u : Time) → in_silence (kept_at E l) u ≡ in_silence l u
unfolding kept_at
kept_silences none l u = refl
kept_silences (some E) l u = silent_as_before E l u

-- a time of the one is one of the other
same_times : (u : Time) {l m : List Fix} → SameEnds l m → AskedOf m u ↔ AskedOf l u
same_times u no_fixes = ((λ t. t), (λ t. t))
same_times u (same_ends {i} {l} {k} h) =
    let last : (last_of i k).t ≡ (last_of i l).t = ap (λ (x : Fix). x.t) h in
    ((λ t. (t.0, rw (← last) t.1)), (λ t. (t.0, rw last t.1)))

module _ (E : Option ℕ) (l m : List Fix) (rises : Rising l) (is : m ≡ kept_at E l) (u : Time) where
  pub asked_original : AskedOf m u ↔ AskedOf l u
  asked_original = rw is (same_times u (kept_ends E l))

  pub near_then : AskedOf l u → Near (counts_as E) (place l u) (place m u)
  near_then t = rw is (kept_near E l u rises t)

  pub proper_then : Proper (place m u)
  proper_then = place_proper u (rw is (kept_rises E l rises))

  pub heard_then : OutsideSilences m u → OutsideSilences l u
  heard_then h = record { outside_silences = sym (kept_silences E l u) ∙ rw (← is) h.outside_silences }

  pub heard_still : OutsideSilences l u → OutsideSilences m u
  heard_still h = record { outside_silences = rw is (kept_silences E l u ∙ h.outside_silences) }
