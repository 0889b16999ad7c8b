-- The laws of thinning, at fixes.
use Rattle.std.specs.Prelude.{◌≡◌, refl, ◌↔◌, Bool, true, false, cond, ◌&&◌, ◌||◌, ℕ, ◌<◌, ◌≤◌, max, leb, length}
use Rattle.std.proofs.Common.{sym, ◌∙◌, ap, leb-true, le-leb}
use mathlib.Core.List.{List, [], ◌∷◌, ◌++◌, Sublistᴰ}
use Rattle.distance.specs.Fix.{Fix, Rising, rising, later}
use Rattle.distance.specs.Distance.{deviation, allowance, Within}
use Rattle.distance.proofs.Laws.Deviation.{allowance_grows}
use Rattle.distance.proofs.Laws.Place.{after_last, after_rest}
use Rattle.distance.specs.Place.{Time}
use Rattle.distance.specs.Silence.{silent, strictly_between, silence_from, in_silence}
use Rattle.thinning.specs.Thinning.{joined, stretches, thin, thin_each, thinning, thinned}
use Rattle.distance.specs.Laws.All.{All}
use Rattle.thinning.proofs.Laws.Kept.{SameEnds, Pieces, no_piece, alone, piece, sublist_length, pieces_ends, pieces_sublist, pieces_all}
use Rattle.thinning.proofs.Laws.Stretches.{NoneSilent}
use Rattle.thinning.proofs.Laws.ByStretch.{unbroken, stretches_pieces, stretches_again, stretches_greater}
use Rattle.thinning.proofs.Laws.Silences.{Neighbours, silences_from, silences, silences_stay, both_ends_stay}

-- the test that `thin_span` makes of each inner fix is the distance layer's
pub tested : (e : ℕ) (i m j : Fix) → leb (deviation i m j) (allowance e i j) ≡ true ↔ Within e i m j
tested e i m j = (λ h. record { at_most = leb-true _ _ h }, λ h. le-leb _ _ h.at_most)

-- ---- "thin again what was thinned": the greater tolerance decides, in both orders, and a tolerance that is no greater changes nothing
pub again : (e f : ℕ) (l : List Fix) → thinned f (thinned e l) ≡ thinned (max e f) l
unfolding thinning
again e f l = stretches_again deviation allowance silent allowance_grows e f l

-- ---- which fixes stay
-- a dropped fix is within e of the chord of the two kept ones around it
pub dropped_within : (e : ℕ) (l : List Fix) → Pieces deviation allowance e l (thinned e l)
unfolding thinning
dropped_within e l = stretches_pieces deviation allowance silent e l

-- the first and the last
pub ends_stay : (e : ℕ) (l : List Fix) → SameEnds l (thinned e l)
ends_stay e l = pieces_ends deviation allowance (dropped_within e l)

-- "A record of one fix keeps it."
pub one_stays : (e : ℕ) (i : Fix) → thinning e (i ∷ []) ≡ record { kept = i ∷ []; count = 0 }
unfolding thinning thin_each thin stretches joined
one_stays e i = go (silent i)
  where
    go : (b : Bool) → thin_each deviation allowance e (cond b ((i ∷ []) ∷ []) (joined i [])) ≡ record { kept = i ∷ []; count = 0 }
    go true = refl
    go false = refl

-- fixes of the trail, in their order
pub in_order : (e : ℕ) (l : List Fix) → Sublistᴰ (thinned e l) l
in_order e l = pieces_sublist deviation allowance (dropped_within e l)

pub no_more : (e : ℕ) (l : List Fix) → length (thinned e l) ≤ length l
no_more e l = sublist_length (in_order e l)

-- so that what holds of all holds of them
pub kept_all : {P : Fix → Type 0} (e : ℕ) (l : List Fix) → All P l → All P (thinned e l)
kept_all e l h = pieces_all deviation allowance (dropped_within e l) h

-- a greater tolerance keeps only fixes that a smaller one keeps
pub greater_keeps_fewer : (e f : ℕ) (l : List Fix) → e ≤ f → Sublistᴰ (thinned f l) (thinned e l)
unfolding thinning
greater_keeps_fewer e f l h = stretches_greater deviation allowance silent allowance_grows e f l h

-- ---- times rise as they did
pieces_rising : {e : ℕ} {l k : List Fix} → Pieces deviation allowance e l k → Rising l → Rising k
pieces_rising no_piece h = h
pieces_rising alone h = h
pieces_rising (piece {i} {j} {l} {r} h s) (rising g) = go (after_last j r l g) (pieces_rising s (rising (after_rest j r l g)))
  where
    go : {k : List Fix} → i.t < j.t → Rising (j ∷ k) → Rising (i ∷ j ∷ k)
    go f (rising k) = rising (later f k)

pub kept_rising : (e : ℕ) (l : List Fix) → Rising l → Rising (thinned e l)
kept_rising e l h = pieces_rising (dropped_within e l) h

-- ---- silences
-- "both ends of a silence are always kept"
pub silence_stays : (e : ℕ) (p : List Fix) (i j : Fix) (q : List Fix) → silent i ≡ true → Neighbours i j (thinned e (p ++ i ∷ j ∷ q))
unfolding thinning
silence_stays e p i j q h = both_ends_stay deviation allowance silent e p i j q h

-- what stays has the silences that the trail has, from the same fixes to the same ..
pub silences_kept : (e : ℕ) (l : List Fix) → silences silent (thinned e l) ≡ silences silent l
unfolding thinning
silences_kept e l = silences_stay deviation allowance silent e l

-- .. and so it is silent at the same times
inside_some : Time → List (Fix × Fix) → Bool
inside_some u [] = false
inside_some u (s ∷ l) = strictly_between s.0 s.1 u || inside_some u l

silent_from : (u : Time) (a : Fix) (l : List Fix) → silence_from a l u ≡ inside_some u (silences_from silent a l)
unfolding silence_from silences_from inside_some
silent_from u a [] = refl
silent_from u a (b ∷ l) = rw (silent_from u b l) (go (silent a))
  where
    go : (x : Bool) → x && strictly_between a b u || inside_some u (silences_from silent b l) ≡ inside_some u (cond x ((a, b) ∷ silences_from silent b l) (silences_from silent b l))
    go true = refl
    go false = refl

silent_at : (u : Time) (l : List Fix) → in_silence l u ≡ inside_some u (silences silent l)
unfolding in_silence silences inside_some
silent_at u [] = refl
silent_at u (a ∷ l) = silent_from u a l

pub silent_as_before : (e : ℕ) (l : List Fix) (u : Time) → in_silence (thinned e l) u ≡ in_silence l u
silent_as_before e l u = silent_at u (thinned e l) ∙ ap (inside_some u) (silences_kept e l) ∙ sym (silent_at u l)

-- a trail without silences is thinned as one stretch
pub never_silent : (e : ℕ) (l : List Fix) → NoneSilent silent l → thinning e l ≡ thin deviation allowance e l
unfolding thinning
never_silent e l h = unbroken deviation allowance silent e l h
