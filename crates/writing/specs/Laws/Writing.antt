-- The writer: its checks in order, and that what it puts down is the record.
use Rattle.std.specs.Prelude.{◌≡◌, ℕ, length}
use mathlib.Core.List.{List}
use Rattle.std.proofs.Math.Option.{some, none}
use Rattle.std.proofs.lemmas.List.Edits.{sets}
use Rattle.distance.specs.Fix.{Fix}
use Rattle.format.specs.Kinds.{Kind}
use Rattle.format.specs.Format.{record_length, header_bytes}
use Rattle.writing.specs.Writing.{write_refusal}
use Rattle.record.specs.Answers.{Answer, gives, turns_away}

-- ---- how a writer begins: what it answers of the list l, and the output after that, which has the head if nothing turns the list away
abbrev pub Begun : Kind → List Fix → (out : List ℕ) → Answer ℕ → (begun : List ℕ) → Type 0
Begun K l out (turns_away k) begun = (write_refusal K l out ≡ some k) × (begun ≡ out)
Begun K l out (gives bytes) begun = (write_refusal K l out ≡ none) × (bytes ≡ record_length K (length l)) × (begun ≡ sets out 0 (header_bytes K 65535 (length l)))
