-- KEEP MARKS, as the code thins by them: "The call works with 4,096 keep marks, cleared before each thinning."
-- The fixes stand at positions from 0, f k at position k. That such marks say what thinning keeps is shown in Laws/Marks.antt.
use Rattle.std.specs.Prelude.{◌≡◌, Bool, true, false, Option, Some, None, cond, ◌⊎◌, List, [], ◌∷◌, ℕ, suc, ◌+◌, ◌-◌, ◌<◌, ◌≤◌, leb, length, get_or, set}
use Rattle.distance.specs.Fix.{Fix}
use Rattle.format.specs.Format.{each}
use Rattle.thinning.specs.Thinning.{Thinned, together, thin, thin_stretches}

-- Of the fixes l, whose first stands at position k, those that are marked.
unfoldable pub kept_by : {A : Type 0} (marks : List Bool) (k : ℕ) → List A → List A
kept_by marks k [] = []
kept_by marks k (i ∷ l) = cond (get_or marks k false) (i ∷ kept_by marks (suc k) l) (kept_by marks (suc k) l)

-- What marks and a count say of a trail's fixes l is what thinning says.
pub record Says (t : Thinned Fix) (marks : List Bool) (l : List Fix) (c : ℕ) : Type 0 where
  pub says_kept : t.kept ≡ kept_by marks 0 l
  pub says_count : t.count ≡ c

-- No mark stands from position lo on; and of all positions: "cleared before each thinning".
pub record ClearFrom (lo : ℕ) (marks : List Bool) : Type 0 where
  pub clear_from : (k : ℕ) → lo ≤ k → get_or marks k false ≡ false

abbrev pub Cleared : List Bool → Type 0
Cleared marks = ClearFrom 0 marks

-- Marks for the stretch from position lo to position hi before it is examined: its two ends are marked, and no position between them.
pub record Ready (lo hi : ℕ) (marks : List Bool) : Type 0 where
  pub room : hi < length marks
  pub first : get_or marks lo false ≡ true
  pub last : get_or marks hi false ≡ true
  pub clear : (k : ℕ) → lo < k → k < hi → get_or marks k false ≡ false

-- m is the furthest position strictly between lo and hi by the measure g, "the earliest of equals", and v is its measure.
pub record Furthest (g : ℕ → ℕ) (lo hi m v : ℕ) : Type 0 where
  pub low : lo < m
  pub high : m < hi
  pub is : v ≡ g m
  pub most : (k : ℕ) → lo < k → k < hi → g k ≤ v
  pub first : (k : ℕ) → lo < k → k < m → g k < v

-- Of the span from position lo to position hi: m is the furthest, and whether it is within e, so that all are.
pub record Judged {A : Type 0} (far : (i m j : A) → ℕ) (bound : (e : ℕ) (i j : A) → ℕ) (f : ℕ → A) (e lo hi m : ℕ) (within : Bool) : Type 0 where
  pub measure : ℕ
  pub furthest : Furthest (λ x. far (f lo) (f x) (f hi)) lo hi m measure
  pub tested : within ≡ leb measure (bound e (f lo) (f hi))

-- Where such a span is split: at that position, or nowhere.
abbrev pub SplitJudged : {A : Type 0} (far : (i m j : A) → ℕ) (bound : (e : ℕ) (i j : A) → ℕ) (f : ℕ → A) (e lo hi : ℕ) → Option ℕ → Type 0
SplitJudged far bound f e lo hi None = (m : ℕ) × Judged far bound f e lo hi m true
SplitJudged far bound f e lo hi (Some m) = Judged far bound f e lo hi m false

-- Thinning of the span from position lo to position hi makes one list of marks of another, and counts c: a case for each way out of the function.
module _ {A : Type 0} (far : (i m j : A) → ℕ) (bound : (e : ℕ) (i j : A) → ℕ) (f : ℕ → A) (e : ℕ) where
  pub data Marks : (lo hi : ℕ) (before after : List Bool) (c : ℕ) → Type 0 where
    -- no inner fix
    marks_none : {lo hi : ℕ} {k : List Bool} → hi - lo < 2 → Marks lo hi k k 0
    -- the furthest is within e, so all are
    marks_ends : {lo hi m v : ℕ} {k : List Bool} → Furthest (λ x. far (f lo) (f x) (f hi)) lo hi m v → v ≤ bound e (f lo) (f hi) → Marks lo hi k k (hi - lo - 1)
    -- split at m, which is marked, and then the two pieces
    marks_split : {lo hi m v c d : ℕ} {k k1 k2 : List Bool} → Furthest (λ x. far (f lo) (f x) (f hi)) lo hi m v → bound e (f lo) (f hi) < v
        → Marks lo m (set k m true) k1 c → Marks m hi k1 k2 d → Marks lo hi k k2 (hi - lo - 1 + c + d)

-- ---- stretch by stretch
-- A stretch of the first n fixes runs from position lo to position hi: silence follows none before hi, and follows hi, or hi is the last.
pub record Stretch {A : Type 0} (silent : A → Bool) (f : ℕ → A) (n lo hi : ℕ) : Type 0 where
  pub low : lo ≤ hi
  pub high : hi < n
  pub heard : (k : ℕ) → lo ≤ k → k < hi → silent (f k) ≡ false
  pub ended : (silent (f hi) ≡ true) ⊎ (suc hi ≡ n)

-- The fixes from position lo to position hi.
abbrev pub from_to : {A : Type 0} (f : ℕ → A) (lo hi : ℕ) → List A
from_to f lo hi = each f lo (suc (hi - lo))

module _ {A : Type 0} (far : (i m j : A) → ℕ) (bound : (e : ℕ) (i j : A) → ℕ) (f : ℕ → A) (e : ℕ) where
  -- The stretch from position lo to position hi is thinned: the marks there and the count c say what thinning says, and all other marks are as before.
  pub record StretchMarked (lo hi : ℕ) (before after : List Bool) (c : ℕ) : Type 0 where
    pub says : thin far bound e (from_to f lo hi) ≡ record { kept = kept_by after lo (from_to f lo hi); count = c }
    pub earlier : (k : ℕ) → k < lo → get_or after k false ≡ get_or before k false
    pub later : (k : ℕ) → hi < k → get_or after k false ≡ get_or before k false

  -- The stretches before position lo are thinned, and what is to do is the rest: marks, and the count so far.
  pub record MarkedTo (silent : A → Bool) (n lo : ℕ) (marks : List Bool) (c : ℕ) : Type 0 where
    pub so_far : lo ≤ n
    pub clear : ClearFrom lo marks
    pub whole : thin_stretches far bound silent e (each f 0 n)
        ≡ together (record { kept = kept_by marks 0 (each f 0 lo); count = c }) (thin_stretches far bound silent e (each f lo (n - lo)))
