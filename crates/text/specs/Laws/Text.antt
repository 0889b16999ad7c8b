-- Laws of the listing's text: decimal numbers digit by digit, and how long the text can be.
use Rattle.std.specs.Prelude.{◌≡◌, List, [], ℕ, ◌+◌, length}
use Rattle.std.proofs.Math.Option.{Option, some, none}
use Rattle.std.proofs.lemmas.List.Edits.{sets}
use Rattle.distance.specs.Fix.{Fix, Bounded, widest}
use Rattle.text.specs.Text.{fix_line, end_line, first_line, refusal_line}
use Rattle.record.specs.Checks.{read_refusal}
use Rattle.format.specs.Format.{mark_field, count_field}

-- ---- text put down piece by piece: the buffer b became c, with l from `at` on, and r is where it ends
pub record Stored (b : List ℕ) (at : ℕ) (c : List ℕ) (r : ℕ) (l : List ℕ) : Type 0 where
  pub ends : r ≡ at + length l
  pub holds_it : c ≡ sets b at l

-- the line of a fix that is there
abbrev pub step_text : Option Fix → List ℕ
step_text (some f) = fix_line f
step_text none = []

-- .. and its place is no further out than any kind's may be
abbrev pub step_bounded : Option Fix → Type 0
step_bounded (some f) = Bounded widest f
step_bounded none = Unit

-- ---- the whole text: an opening line, the lines of fixes, and a closing line
abbrev pub opening_of : Option ℕ → (count mark : ℕ) → List ℕ
opening_of none count mark = first_line count mark
opening_of (some k) count mark = refusal_line k

abbrev pub opening_text : List ℕ → List ℕ
opening_text b = opening_of (read_refusal b) (count_field b) (mark_field b)

abbrev pub lines_of : Option ℕ → ℕ → ℕ
lines_of none count = count
lines_of (some k) count = 0

abbrev pub lines_in : List ℕ → ℕ
lines_in b = lines_of (read_refusal b) (count_field b)

abbrev pub closing_text : Option ℕ → List ℕ
closing_text none = end_line
closing_text (some k) = []
