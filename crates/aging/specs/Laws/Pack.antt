-- Kept fixes close up at the record's start: each is read where it stood, and stored after the kept ones before it.
use Rattle.std.specs.Prelude.{◌≡◌, Bool, List, ℕ, ◌≤◌, length}
use Rattle.std.proofs.lemmas.List.Edits.{sets}
use Rattle.format.specs.Kinds.{Kind}
use Rattle.format.specs.Format.{each, fix_at, all_bytes}
use Rattle.thinning.specs.Marks.{kept_by}

-- ---- the loop: of the first i fixes those that are marked are stored, w of them
pub record Packed (K : Kind) (b₀ : List ℕ) (marks : List Bool) (i : ℕ) (b : List ℕ) (w : ℕ) : Type 0 where
  pub stored : b ≡ sets b₀ 10 (all_bytes K (kept_by marks 0 (each (fix_at K b₀) 0 i)))
  pub many : w ≡ length (kept_by marks 0 (each (fix_at K b₀) 0 i))
  pub few : w ≤ i
