-- What a moved clock leaves as it is: every number of seconds from one time to another, and so every distance and place.
use Rattle.std.specs.Prelude.{◌≡◌, ℕ, suc, ◌+◌, ◌*◌, ◌<◌, T, ℤ, negsuc, nat_abs, ◌+ℤ◌, ◌-ℤ◌, ◌*ℤ◌, ◌≤ℤ◌}
use Rattle.std.proofs.Math.Path.{refl, ap}
use Rattle.std.proofs.Common.{◌∙◌, arith}
use mathlib.Core.List.{List, [], ◌∷◌, map}
use Rattle.std.proofs.Math.Dec.{leb}
use Rattle.std.proofs.Math.IntN.{pos}
use Rattle.std.specs.Int.Signed.{le_z, le_z_yes}
use Rattle.distance.specs.Fix.{Fix}
use Rattle.distance.specs.Distance.{seconds, N, squared, deviation, allowance}
use Rattle.distance.specs.Place.{Time, Place, own, interpolated, leg, place_from, place}
use Rattle.distance.specs.Clock.{clock_limit, moved, Stays, moved_fix}
use Rattle.distance.specs.Laws.All.{All, all_none, all_more}
use Rattle.distance.specs.Integers.Differences.{diffs}
use Rattle.distance.specs.Integers.Order.{pos_le}
use Rattle.distance.specs.Integers.Tests.{same_test}

-- ---- a second
not_negative : (z : ℤ) → pos 0 ≤ℤ z → pos (nat_abs z) ≡ z
not_negative (pos n) h = refl
not_negative (negsuc n) h = absurd h.le

-- t + s is what `moved` says
pub moved_is : (s : ℤ) (t : ℕ) → Stays s t → pos (moved s t) ≡ pos t +ℤ s
moved_is s t h = not_negative (pos t +ℤ s) h.from_zero

pub moved_fits : (s : ℤ) (t : ℕ) → Stays s t → moved s t < 4294967296
moved_fits s t h = let k : pos (moved s t) ≤ℤ pos clock_limit = rw (moved_is s t h) h.in_32_bits in omega (arith, (pos_le (moved s t) clock_limit).0 k)

-- of numbers that are written out it is found by computing
pub computed_stays : (s : ℤ) (t : ℕ) → T (le_z (pos 0) (pos t +ℤ s)) → T (le_z (pos t +ℤ s) (pos clock_limit)) → Stays s t
computed_stays s t h k = record { from_zero = le_z_yes h; in_32_bits = le_z_yes k }

-- earlier and then as much later it is the same again, and the other way round
pub later_again : (k t : ℕ) → Stays (negsuc k) t → moved (negsuc k) t + suc k ≡ t
later_again k t h = again (moved (negsuc k) t) (moved_is (negsuc k) t h)
  where
    again : (m : ℕ) → pos m ≡ pos t +ℤ negsuc k → m + suc k ≡ t
    again m e = omega (arith, simp diffs at e)

earlier_again : (k t : ℕ) → moved (negsuc k) (t + suc k) ≡ t
earlier_again k t = let e : pos (t + suc k) +ℤ negsuc k ≡ pos t = simp diffs (omega arith) in rw e refl

pub fixes_later_again : (k : ℕ) {l : List Fix} → All (λ (a : Fix). Stays (negsuc k) a.t) l → map (moved_fix (pos (suc k))) (map (moved_fix (negsuc k)) l) ≡ l
fixes_later_again k all_none = refl
fixes_later_again k (all_more {m = a} h t) = rw (later_again k a.t h, fixes_later_again k t) refl

pub fixes_earlier_again : (k : ℕ) (l : List Fix) → map (moved_fix (negsuc k)) (map (moved_fix (pos (suc k))) l) ≡ l
fixes_earlier_again k [] = refl
fixes_earlier_again k (a ∷ l) = rw (earlier_again k a.t, fixes_earlier_again k l) refl

-- ---- all k seconds later
module _ (k : ℕ) where
  abbrev delayed : Fix → Fix
  delayed = moved_fix (pos k)

  pub seconds_later : (a b : Fix) → seconds (delayed a) (delayed b) ≡ seconds a b
  seconds_later a b = simp diffs (omega arith)

  pub deviation_later : (i m j : Fix) → deviation (delayed i) (delayed m) (delayed j) ≡ deviation i m j
  unfolding deviation
  deviation_later i m j =
      ap (λ (D : ℤ). squared (N i.x m.x j.x D (seconds (delayed i) (delayed m))) + squared (N i.y m.y j.y D (seconds (delayed i) (delayed m)))) (seconds_later i j)
      ∙ ap (λ (s : ℤ). squared (N i.x m.x j.x (seconds i j) s) + squared (N i.y m.y j.y (seconds i j) s)) (seconds_later i m)

  pub allowance_later : (e : ℕ) (i j : Fix) → allowance e (delayed i) (delayed j) ≡ allowance e i j
  unfolding allowance
  allowance_later e i j = ap (λ (D : ℤ). e * e * squared D) (seconds_later i j)

  -- ---- a trail's place, at a time that is as much later
  abbrev pub later_time : Time → Time
  later_time u = record { p = u.p + u.q * k; q = u.q; whole = u.whole }

  -- the place on a leg of D seconds, s/q seconds after its start
  abbrev on : (a b : Fix) (q D s : ℤ) → Place
  on a b q D s = record { x = interpolated a.x b.x (q *ℤ D) s; y = interpolated a.y b.y (q *ℤ D) s; d = q *ℤ D }

  leg_later : (a b : Fix) (u : Time) → leg (delayed a) (delayed b) (later_time u) ≡ leg a b u
  unfolding leg
  leg_later a b u =
      let q = pos u.q in
      let since : pos (u.p + u.q * k) -ℤ q *ℤ pos (a.t + k) ≡ pos u.p -ℤ q *ℤ pos a.t = simp diffs (omega arith) in
      ap (λ (D : ℤ). on a b q D (pos (u.p + u.q * k) -ℤ q *ℤ pos (a.t + k))) (seconds_later a b) ∙ ap (on a b q (seconds a b)) since

  place_from_later : (a : Fix) (l : List Fix) (u : Time) → place_from (delayed a) (map delayed l) (later_time u) ≡ place_from a l u
  unfolding place_from own
  place_from_later a [] u = refl
  place_from_later a (b ∷ l) u =
      let e : leb (u.p + u.q * k) (u.q * (b.t + k)) ≡ leb u.p (u.q * b.t) = same_test (u.p + u.q * k) (u.q * (b.t + k)) u.p (u.q * b.t) ((λ h. omega arith), (λ h. omega arith)) in
      rw (e, leg_later a b u, place_from_later b l u) refl

  pub place_later : (l : List Fix) (u : Time) → place (map delayed l) (later_time u) ≡ place l u
  unfolding place
  place_later [] u = refl
  place_later (a ∷ l) u = place_from_later a l u
