-- THINNING. Document 01: "Douglas-Peucker as in source document 000, where the split is at a furthest fix; 001 allows any fix that is too far,
-- and 000 decides."
-- It asks of fixes only that they can be measured, so it is written for any such type A; `thinning`, at the end, is at fixes.
--   far i m j     the measure of the inner fix m of the span from i to j: Nx² + Ny²
--   bound e i j   m is within e if its measure is at most this: e²·D²
--   silent i      silence follows i
use Rattle.std.specs.Prelude.{Bool, true, false, cond, ◌&&◌, List, [], ◌∷◌, ◌++◌, ℕ, zero, suc, ◌+◌, ◌-◌, ◌*◌, ◌/◌, leb, length}
use Rattle.distance.specs.Fix.{Fix, last_of}
use Rattle.distance.specs.Distance.{deviation, allowance}
use Rattle.distance.specs.Silence.{silent}

-- Where a span is split: nowhere, if it has no inner fix; else at one of them, with those before it and those after it.
pub data Split (A : Type 0) : Type 0 where
  nowhere : Split A
  split_at : List A → A → List A → Split A

module _ {A : Type 0} where
  -- m stands before `others`, which are split at their furthest by the measure g: m itself is the furthest unless that one is further.
  unfoldable pub sooner : (g : A → ℕ) (m : A) (others : List A) → Split A → Split A
  sooner g m others nowhere = split_at [] m others
  sooner g m others (split_at before n after) = cond (leb (g n) (g m)) (split_at [] m others) (split_at (m ∷ before) n after)

  -- "the furthest, the earliest of equals"
  unfoldable pub furthest : (g : A → ℕ) → List A → Split A
  furthest g [] = nowhere
  furthest g (m ∷ others) = sooner g m others (furthest g others)

  unfoldable pub every : (A → Bool) → List A → Bool
  every t [] = true
  every t (m ∷ l) = t m && every t l

  -- of the fixes m ∷ l: all but the last
  unfoldable pub but_last : A → List A → List A
  but_last m [] = []
  but_last m (n ∷ l) = m ∷ but_last n l

-- The fixes that stay, and the count: "one for each inner fix measured in each span examined".
pub record Thinned (A : Type 0) : Type 0 where
  pub kept : List A
  pub count : ℕ

module _ {A : Type 0} (far : (i m j : A) → ℕ) (bound : (e : ℕ) (i j : A) → ℕ) where
  -- The span from i to j: which of its inner fixes stay, and the count. "every inner fix is measured."
  -- `depth` is how deep splits may nest. The number of inner fixes is enough, and beyond that it decides nothing: `enough` of Laws/Keeps.antt.
  unfoldable pub thin_span : (depth e : ℕ) (i : A) (inner : List A) (j : A) → Thinned A
  thin_span zero e i inner j = record { kept = []; count = 0 }
  thin_span (suc depth) e i inner j =
      elim (every (λ m. leb (far i m j) (bound e i j)) inner) [
        -- "If all are within e, only the ends stay"; so too "A span with no inner fix"
        | true ↦ record { kept = []; count = length inner }
        -- "if not, the span is split at the furthest, the earliest of equals, and each of the two pieces is treated the same."
        | false ↦
            elim (furthest (λ m. far i m j) inner) [
              | nowhere ↦ record { kept = []; count = 0 }
              | split_at before m after ↦
                  let one = thin_span depth e i before m in
                  let two = thin_span depth e m after j in
                  record { kept = one.kept ++ m ∷ two.kept; count = length inner + (one.count + two.count) }
            ]
      ]

  -- A whole stretch is one span: its ends stay, and what stays between them. "A record of one fix keeps it."
  unfoldable pub thin : (e : ℕ) → List A → Thinned A
  thin e [] = record { kept = []; count = 0 }
  thin e (i ∷ []) = record { kept = i ∷ []; count = 0 }
  thin e (i ∷ m ∷ l) =
      let inner = but_last m l in
      let j = last_of m l in
      let between = thin_span (length inner) e i inner j in
      record { kept = i ∷ (between.kept ++ j ∷ []); count = between.count }

-- ---- SILENCES. Document 02, item 5: "A kept fix keeps its byte, both ends of a silence are always kept, and each stretch between silences is thinned by
-- itself, the counts added".
module _ {A : Type 0} where
  -- i stands before fixes that are cut into stretches: it is the first fix of the first of them.
  unfoldable pub joined : A → List (List A) → List (List A)
  joined i [] = (i ∷ []) ∷ []
  joined i (s ∷ others) = (i ∷ s) ∷ others

  -- The stretches between silences: one ends with each fix that silence follows, and one with the last; the next begins after it.
  unfoldable pub stretches : (silent : A → Bool) → List A → List (List A)
  stretches silent [] = []
  stretches silent (i ∷ l) = cond (silent i) ((i ∷ []) ∷ stretches silent l) (joined i (stretches silent l))

  -- Of two, one after the other: what stays of the first and then what stays of the second, and "the counts added".
  abbrev pub together : Thinned A → Thinned A → Thinned A
  together one two = record { kept = one.kept ++ two.kept; count = one.count + two.count }

module _ {A : Type 0} (far : (i m j : A) → ℕ) (bound : (e : ℕ) (i j : A) → ℕ) where
  -- "each stretch .. by itself"
  unfoldable pub thin_each : (e : ℕ) → List (List A) → Thinned A
  thin_each e [] = record { kept = []; count = 0 }
  thin_each e (s ∷ others) = together (thin far bound e s) (thin_each e others)

  abbrev pub thin_stretches : (silent : A → Bool) (e : ℕ) → List A → Thinned A
  thin_stretches silent e l = thin_each e (stretches silent l)

-- Thinning of a trail at the tolerance e.
unfoldable pub thinning : (e : ℕ) → List Fix → Thinned Fix
thinning e l = thin_stretches deviation allowance silent e l

-- The fixes that it keeps.
abbrev pub thinned : (e : ℕ) → List Fix → List Fix
thinned e l = (thinning e l).kept

-- ---- THE GREATEST COUNT of n fixes: "It is at most (n − 1)(n − 2)/2." (`count_at_most` of Laws/Count.antt.) Of one fix n − 2 is cut off at 0, beside a factor of 0; so
-- of a fix or more it is that number over ℤ, and no half is lost (`greatest_exactly`).
abbrev pub greatest_count : (n : ℕ) → ℕ
greatest_count n = (n - 1) * (n - 2) / 2
