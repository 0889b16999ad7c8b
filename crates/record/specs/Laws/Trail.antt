-- The fixes that lent bytes have by position, a leg between two of them, and how far the bytes of an accepted record reach.
use Rattle.std.specs.Prelude.{◌≡◌, List, ℕ, ◌-◌, ◌<◌, ◌≤◌, ◌+◌, length}
use Rattle.distance.specs.Fix.{Fix, Bounded}
use Rattle.format.specs.Kinds.{Kind, layout}
use Rattle.format.specs.Format.{kind_of, record_length, count_field, fix_at, each}
use Rattle.format.specs.declared.fixes.Fixes.{Fixes}

-- one leg of a checked trail
pub record Leg (limit : ℕ) (a b : Fix) : Type 0 where
  pub rises : a.t < b.t
  pub short : b.t ≤ a.t + 65535
  pub bounded_a : Bounded limit a
  pub bounded_b : Bounded limit b

-- the fixes by position, of which there are n: those from k on
abbrev pub from : (ℕ → Fix) → (k n : ℕ) → List Fix
from f k n = each f k (n - k)

-- the fix that lent bytes have at a position
abbrev pub fix_in : List ℕ → ℕ → Fix
fix_in b = fix_at (kind_of b) b

-- how far the bytes of an accepted record of n fixes reach
pub record Lent (K : Kind) (b : List ℕ) (n : ℕ) : Type 0 where
  pub some : 1 ≤ n
  pub few : n ≤ 4096
  pub whole : record_length K n ≤ length b

-- these are the fixes of the record that lent bytes begin with: as many as its head says, read as its kind
pub record FixesOf (s : Fixes) (b : List ℕ) : Type 0 where
  pub bytes_are : s.bytes.now ≡ b
  pub kind_is : layout s.kind ≡ kind_of b
  pub count_is : s.count ≡ count_field b
