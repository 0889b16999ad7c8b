-- The loop over the stretches: before the first of them, after one more, and after the last.
use Rattle.std.specs.Prelude.{◌≡◌, Bool, List, [], ◌∷◌, ◌++◌}
use Rattle.std.proofs.Math.Path.{refl, ap}
use Rattle.std.proofs.Common.{sym, ◌∙◌, append-nil}
use Rattle.std.proofs.Math.Logic.{⊎_elim}
use Prim.Native.Nat.{ℕ, suc, ◌+◌, ◌*◌, ◌-◌, ◌<◌, ◌≤◌}
use native.Mathlib.Omega.{arith}
use Rattle.distance.specs.Fix.{Fix}
use Rattle.distance.specs.Distance.{deviation, allowance}
use Rattle.distance.specs.Silence.{silent}
use Rattle.format.specs.Format.{each}
use Rattle.format.proofs.Laws.Each.{length_each, each_more, each_all}
use Rattle.thinning.specs.Thinning.{Thinned, together, stretches, thin, thin_each, thin_stretches, thinning, greatest_count}
use Rattle.thinning.specs.Marks.{kept_by, Says, ClearFrom, Stretch, from_to, StretchMarked, MarkedTo}
use Rattle.thinning.proofs.Laws.Stretches.{EndsAt, by_silence, by_last, NoneSilent, first_stretch}
use Rattle.thinning.proofs.Laws.ByStretch.{together_assoc, stretches_count}
use Rattle.thinning.proofs.Laws.KeptBy.{each_append, kept_by_append, kept_by_same}
use Rattle.thinning.proofs.Laws.Count.{greatest_rises, at_most_greatest}

module _ {A : Type 0} (far : (i m j : A) → ℕ) (bound : (e : ℕ) (i j : A) → ℕ) (silent : A → Bool) (f : ℕ → A) (e n : ℕ) where
  -- ---- before the first
  pub none_marked : (marks : List Bool) → ClearFrom 0 marks → MarkedTo far bound f e silent n 0 marks 0
  unfolding each kept_by
  none_marked marks c =
      let t = thin_stretches far bound silent e (each f 0 n) in
      let z : n - 0 ≡ n = omega arith in
      let s : 0 + t.count ≡ t.count = omega arith in
      record { so_far = omega arith; clear = c; whole = rw (z, s) refl }

  -- ---- one more
  rest_is : (lo hi : ℕ) → lo ≤ hi → hi < n → each f lo (n - lo) ≡ each f lo (hi - lo) ++ f hi ∷ each f (suc hi) (n - suc hi)
  unfolding each
  rest_is lo hi h g =
      let p : n - lo ≡ hi - lo + suc (n - suc hi) = omega arith in
      let q : lo + (hi - lo) ≡ hi = omega arith in
      rw p (each_append f lo (hi - lo) (suc (n - suc hi)) ∙ rw q refl)

  stretch_is : (lo hi : ℕ) → lo ≤ hi → from_to f lo hi ≡ each f lo (hi - lo) ++ f hi ∷ []
  stretch_is lo hi h = let q : lo + (hi - lo) ≡ hi = omega arith in each_more f lo (hi - lo) ∙ rw q refl

  -- the rest begins with the stretch from lo to hi
  module _ {lo hi : ℕ} (s : Stretch silent f n lo hi) where
    ends : EndsAt silent (f hi) (each f (suc hi) (n - suc hi))
    unfolding each
    ends = ⊎_elim by_silence (λ (q : suc hi ≡ n). let z : n - suc hi ≡ 0 = omega arith in rw z by_last) s.ended

    first_is : stretches silent (each f lo (n - lo)) ≡ from_to f lo hi ∷ stretches silent (each f (suc hi) (n - suc hi))
    first_is =
        let none : NoneSilent silent (each f lo (hi - lo)) = each_all f lo (hi - lo) (λ i p q. s.heard i p (omega arith)) in
        rw (rest_is lo hi s.low s.high, stretch_is lo hi s.low) (first_stretch silent none ends)

    first_thinned : thin_stretches far bound silent e (each f lo (n - lo)) ≡ together (thin far bound e (from_to f lo hi)) (thin_stretches far bound silent e (each f (suc hi) (n - suc hi)))
    unfolding thin_each
    first_thinned = ap (thin_each far bound e) first_is

  kept_further : {lo hi d : ℕ} {k k2 : List Bool} → lo ≤ hi → StretchMarked far bound f e lo hi k k2 d
      → kept_by k 0 (each f 0 lo) ++ kept_by k2 lo (from_to f lo hi) ≡ kept_by k2 0 (each f 0 (suc hi))
  kept_further {lo} {hi} {k} {k2} h m =
      let p : suc hi ≡ lo + suc (hi - lo) = omega arith in
      let q : 0 + lo ≡ lo = omega arith in
      let n = length_each f 0 lo in
      let same = kept_by_same k k2 0 (each f 0 lo) (λ i a b. sym (m.earlier i (omega arith))) in
      rw (p, each_append f 0 lo (suc (hi - lo)), q, kept_by_append k2 0 (each f 0 lo) (from_to f lo hi), n, q, same) refl

  pub one_marked : {lo hi c d : ℕ} {k k2 : List Bool} → MarkedTo far bound f e silent n lo k c → Stretch silent f n lo hi → StretchMarked far bound f e lo hi k k2 d
      → MarkedTo far bound f e silent n (hi + 1) k2 (c + d)
  one_marked {lo} {hi} {c} {d} {k} {k2} x s m =
      let low = s.low in
      let after : hi + 1 ≡ suc hi = omega arith in
      let rest = thin_stretches far bound silent e (each f (suc hi) (n - suc hi)) in
      let done : Thinned A = record { kept = kept_by k 0 (each f 0 lo); count = c } in
      let this : Thinned A = record { kept = kept_by k2 lo (from_to f lo hi); count = d } in
      let next : thin_stretches far bound silent e (each f lo (n - lo)) ≡ together this rest = first_thinned s ∙ ap (λ (t : Thinned A). together t rest) m.says in
      rw after (record {
        so_far = s.high;
        clear = record { clear_from = λ i p. m.later i p ∙ x.clear.clear_from i (omega arith) };
        whole = x.whole ∙ ap (together done) next ∙ together_assoc done this rest ∙ ap (λ (l : List A). together (record { kept = l; count = c + d }) rest) (kept_further low m);
      })

  -- ---- after the last
  pub all_marked : {marks : List Bool} {c : ℕ} → MarkedTo far bound f e silent n n marks c → thin_stretches far bound silent e (each f 0 n) ≡ record { kept = kept_by marks 0 (each f 0 n); count = c }
  unfolding each thin_each stretches
  all_marked {marks} {c} x =
      let z : n - n ≡ 0 = omega arith in
      let s : c + 0 ≡ c = omega arith in
      x.whole ∙ rw z (rw (append-nil (kept_by marks 0 (each f 0 n)), s) refl)

  -- ---- the count stays small
  pub marked_small : {lo c : ℕ} {marks : List Bool} → MarkedTo far bound f e silent n lo marks c → 1 ≤ n → n ≤ 4096 → c ≤ greatest_count 4096
  marked_small {lo} {c} x some few =
      let rest = (thin_stretches far bound silent e (each f lo (n - lo))).count in
      let all = (thin_stretches far bound silent e (each f 0 n)).count in
      let sum : all ≡ c + rest = ap (λ (t : Thinned A). t.count) x.whole in
      let is : n ≡ suc (n - 1) = omega arith in
      let count : 2 * all + 3 * suc (n - 1) ≤ suc (n - 1) * suc (n - 1) + 2 = rw (← is) (rw (length_each f 0 n) at (stretches_count far bound silent e (each f 0 n))) in
      omega (arith, at_most_greatest (n - 1) all count, greatest_rises (suc (n - 1)) 4096 (omega arith))

-- ---- at fixes: the marks and the count are the definition's
pub marked_says : (f : ℕ → Fix) (e n : ℕ) {marks : List Bool} {c : ℕ} → MarkedTo deviation allowance f e silent n n marks c → Says (thinning e (each f 0 n)) marks (each f 0 n) c
unfolding thinning
marked_says f e n x =
    let t = all_marked deviation allowance silent f e n x in
    record { says_kept = ap (λ (t : Thinned Fix). t.kept) t; says_count = ap (λ (t : Thinned Fix). t.count) t }
