-- The search of a span for its furthest position, one position further at a time.
use Rattle.std.specs.Prelude.{◌≡◌, Bool, ℕ, ◌+◌, ◌<◌, ◌≤◌, leb}
use Rattle.std.proofs.Common.{sym, ◌∙◌, ap, ⊎_elim, eq-or-lt_of_le, arith}
use Rattle.distance.specs.Integers.Tests.{Test, holds, fails, test}
use Rattle.thinning.specs.Marks.{Furthest, Judged}

module _ {g : ℕ → ℕ} {lo : ℕ} where
  furthest_one : (v : ℕ) → v ≡ g (lo + 1) → Furthest g lo (lo + 1 + 1) (lo + 1) v
  furthest_one v e = record {
    low = omega arith;
    high = omega arith;
    is = e;
    most = λ k l u. let q : k ≡ lo + 1 = omega arith in rw q (omega arith);
    first = λ k l u. absurd (omega arith);
  }

  module _ {hi m v : ℕ} (x : Furthest g lo hi m v) (w : ℕ) (e : w ≡ g hi) where
    -- the next is further
    furthest_new : v < w → Furthest g lo (hi + 1) hi w
    furthest_new h = record {
      low = omega (arith, x.low, x.high);
      high = omega arith;
      is = e;
      most = λ k l u. ⊎_elim (λ (q : k ≡ hi). rw q (omega arith)) (λ (q : k < hi). omega (arith, x.most k l q)) (eq-or-lt_of_le {n = k} {m = hi} (omega arith));
      first = λ k l u. omega (arith, x.most k l u);
    }

    -- it isn't
    furthest_stay : w ≤ v → Furthest g lo (hi + 1) m v
    furthest_stay h = record {
      low = x.low;
      high = omega (arith, x.high);
      is = x.is;
      most = λ k l u. ⊎_elim (λ (q : k ≡ hi). rw q (omega arith)) (λ (q : k < hi). x.most k l q) (eq-or-lt_of_le {n = k} {m = hi} (omega arith));
      first = x.first;
    }

-- What the search has before it looks at position k: nothing yet, and then the furthest of those before.
pub data Searched (g : ℕ → ℕ) (lo : ℕ) : (k m v : ℕ) → Type 0 where
  nothing_yet : Searched g lo (lo + 1) (lo + 1) 0
  so_far : {k m v : ℕ} → Furthest g lo k m v → Searched g lo k m v

module _ {g : ℕ → ℕ} {lo : ℕ} where
  pub search_new : {k m v : ℕ} → Searched g lo k m v → (w : ℕ) → w ≡ g k → v < w → Searched g lo (k + 1) k w
  search_new nothing_yet w e h = so_far (furthest_one w e)
  search_new (so_far x) w e h = so_far (furthest_new x w e h)

  pub search_stay : {k m v : ℕ} → Searched g lo k m v → (w : ℕ) → w ≡ g k → w ≤ v → Searched g lo (k + 1) m v
  search_stay nothing_yet w e h = so_far (furthest_one 0 (omega arith))
  search_stay (so_far x) w e h = so_far (furthest_stay x w e h)

  -- some position was looked at
  pub search_done : {k m v : ℕ} → Searched g lo k m v → lo + 1 < k → Furthest g lo k m v
  search_done nothing_yet h = absurd (omega arith)
  search_done (so_far x) h = x

-- ---- ONE WORD OR TWO DECIDES NOTHING, nor any other way to search: there is one furthest position, it has one measure, and a verdict is the same
no_later : {g : ℕ → ℕ} {lo hi m n v w : ℕ} → Furthest g lo hi m v → Furthest g lo hi n w → m ≤ n
no_later {m} {n} x y = go (test m n)
  where
    go : {b : Bool} → Test m n b → m ≤ n
    go (holds h) = h
    go (fails h) = absurd (omega (arith, x.first n y.low h, y.most m x.low x.high, x.is, y.is))

furthest_same : {g : ℕ → ℕ} {lo hi m n v w : ℕ} → Furthest g lo hi m v → Furthest g lo hi n w → (m ≡ n) × (v ≡ w)
furthest_same {m} {n} x y = (omega (arith, no_later x y, no_later y x), omega (arith, x.is, y.is, x.most n y.low y.high, y.most m x.low x.high))

pub judged_same : {A : Type 0} {far : (i m j : A) → ℕ} {bound : (e : ℕ) (i j : A) → ℕ} {f : ℕ → A} {e lo hi m n : ℕ} {b c : Bool}
    → Judged far bound f e lo hi m b → Judged far bound f e lo hi n c → (m ≡ n) × (b ≡ c)
judged_same {bound} {f} {e} {lo} {hi} x y =
    let p = furthest_same x.furthest y.furthest in
    (p.0, x.tested ∙ ap (λ v. leb v (bound e (f lo) (f hi))) p.1 ∙ sym y.tested)
