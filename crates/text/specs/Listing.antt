-- THE LISTING AS IT IS PUT DOWN: the text so far stands at the start of an output, and what is put down next goes behind it.
use Rattle.std.specs.Prelude.{List, ℕ, ◌+◌, ◌≤◌, length}
use Rattle.text.specs.declared.Listing.{Listing}
use Rattle.text.specs.Laws.Text.{Stored}

-- the output has so many bytes more
abbrev pub HasRoom : Listing → ℕ → Type 0
HasRoom s n = s.end + n ≤ length s.out.now

-- a text was put down behind what stood there before
abbrev pub Adds : (before after : Listing) → List ℕ → Type 0
Adds before after l = Stored before.out.now before.end after.out.now after.end l

-- .. and it has no more than so many bytes
abbrev pub AddsAtMost : ℕ → (before after : Listing) → Type 0
AddsAtMost n before after = after.end ≤ before.end + n
