-- THE BOUND: at every fractional time of the trail its place and that of what thinning at e keeps of it are at most e apart.
-- Within one piece, from the kept fix a to the kept fix b: at each fix m of the trail its own place is at most e from the chord's place at that second
-- (`within_near`), and so it is on the leg between two of them (`convex`).
use Rattle.std.specs.Prelude.{Bool, cond, List, [], ◌∷◌, ◌++◌, ℕ, ◌*◌, ◌<◌, ◌≤◌}
use Rattle.std.proofs.Math.Nat.{le_of_lt}
use Rattle.std.proofs.Common.{arith, le-leb}
use Rattle.distance.specs.Fix.{Fix, After, later, Rising, rising}
use Rattle.distance.specs.Distance.{deviation, allowance}
use Rattle.distance.specs.Place.{Time, second, From, Until, own, leg, place_from, place, Near}
use Rattle.distance.proofs.Laws.Near.{near_self, near_same, same_swap}
use Rattle.distance.proofs.Laws.Chord.{within_near}
use Rattle.distance.proofs.Laws.Convex.{convex}
use Rattle.distance.proofs.Laws.Place.{after_last, after_rest, leg_proper, own_proper, leg_first, leg_last, place_past}
use Rattle.distance.specs.Integers.Tests.{Test, holds, fails, test}
use Rattle.thinning.specs.Thinning.{thinned}
use Rattle.distance.specs.Laws.All.{All, all_none, all_more}
use Rattle.thinning.proofs.Laws.Kept.{Pieces, no_piece, alone, piece}
use Rattle.thinning.proofs.Laws.Trail.{dropped_within}

-- m's own place is at most e from where the chord from a to b has the cart at that second
abbrev Beside : (e : ℕ) (a m b : Fix) → Type 0
Beside e a m b = Near e (own m) (leg a b (second m.t))

module _ (e : ℕ) (a b : Fix) (ab : a.t < b.t) where
  beside_first : Beside e a a b
  beside_first = near_same e (near_self e _) (leg_first a b (second a.t) (omega arith)) (leg_proper a b _ ab)

  beside_last : Beside e a b b
  beside_last = near_same e (near_self e _) (leg_last a b (second b.t) (omega arith)) (leg_proper a b _ ab)

  -- one leg of the trail, from m to n
  leg_near : (m n : Fix) → m.t < n.t → Beside e a m b → Beside e a n b → (u : Time) → From m.t u → Until n.t u → Near e (leg m n u) (leg a b u)
  leg_near m n mn hm hn = convex e m n a b m.t n.t mn
      (near_same e hm (same_swap (leg_first m n (second m.t) (omega arith))) (own_proper m))
      (near_same e hn (same_swap (leg_last m n (second n.t) (omega arith))) (own_proper n))

  -- all legs of the piece, from its fix m on
  walk : (m : Fix) {l : List Fix} (r : List Fix) (u : Time) → Beside e a m b → All (λ n. deviation a n b ≤ allowance e a b) l → After m.t (l ++ b ∷ r)
      → From m.t u → Until b.t u → Near e (place_from m (l ++ b ∷ r) u) (leg a b u)
  unfolding place_from
  walk m r u hm all_none (later g k) f t = rw (le-leb _ _ t.until) (leg_near m b g hm beside_last u f t)
  walk m r u hm (all_more {m = n} {l} h hs) (later g k) f t =
      let hn = within_near a n b e (record { at_most = h }) in
      go hn (test u.p (u.q * n.t)) (λ s. walk n r u hn hs k s t)
    where
      go : Beside e a n b → {c : Bool} → Test u.p (u.q * n.t) c → (From n.t u → Near e (place_from n (l ++ b ∷ r) u) (leg a b u))
          → Near e (cond c (leg m n u) (place_from n (l ++ b ∷ r) u)) (leg a b u)
      go hn (holds s) rest = leg_near m n g hm hn u f (record { until = s })
      go hn (fails s) rest = rest (record { from = le_of_lt s })

-- the first piece, or what comes after it
piece_near : (e : ℕ) (u : Time) (a b : Fix) {l : List Fix} (r k : List Fix) → All (λ n. deviation a n b ≤ allowance e a b) l → After a.t (l ++ b ∷ r) → From a.t u
    → (From b.t u → Near e (place_from b r u) (place_from b k u)) → Near e (place_from a (l ++ b ∷ r) u) (place_from a (b ∷ k) u)
unfolding place_from
piece_near e u a b {l} r k h g f rest = go (test u.p (u.q * b.t))
  where
    ab : a.t < b.t
    ab = after_last b r l g

    go : {c : Bool} → Test u.p (u.q * b.t) c → Near e (place_from a (l ++ b ∷ r) u) (cond c (leg a b u) (place_from b k u))
    go (holds s) = walk e a b ab a r u (beside_first e a b ab) h g f (record { until = s })
    go (fails s) = rw (place_past b r u a l g s) (rest (record { from = le_of_lt s }))

-- the time is not before the first fix
abbrev FromFirst : Time → List Fix → Type 0
FromFirst u [] = Unit {0}
FromFirst u (a ∷ l) = From a.t u

pieces_near : (e : ℕ) (u : Time) {l k : List Fix} → Pieces deviation allowance e l k → Rising l → FromFirst u l → Near e (place l u) (place k u)
unfolding place
pieces_near e u no_piece g f = near_self e _
pieces_near e u alone g f = near_self e _
pieces_near e u (piece {i} {j} {l} {r} {k} h s) (rising g) f = piece_near e u i j r k h g f (λ t. pieces_near e u s (rising (after_rest j r l g)) t)

-- (It holds after the last fix too, where both have its own place; such times are asked of no trail.)
pub thinned_near : (e : ℕ) (u : Time) (a : Fix) (l : List Fix) → Rising (a ∷ l) → From a.t u → Near e (place (a ∷ l) u) (place (thinned e (a ∷ l)) u)
thinned_near e u a l g f = pieces_near e u (dropped_within e (a ∷ l)) g f
