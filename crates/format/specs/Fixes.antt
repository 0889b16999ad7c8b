-- The fixes of lent bytes, by position.
use Rattle.std.specs.Prelude.{ℕ}
use Rattle.distance.specs.Fix.{Fix}
use Rattle.format.specs.Kinds.{layout}
use Rattle.format.specs.Format.{fix_at}
use Rattle.format.specs.declared.fixes.Fixes.{Fixes}

abbrev pub nth : Fixes → ℕ → Fix
nth s = fix_at (layout s.kind) s.bytes.now
