-- A RECORD WRITTEN ANEW: the reader's checks of the bytes, and if they turn none away, the writer of the record's kind over its own fixes.
use Rattle.std.specs.Prelude.{◌≡◌, List, ℕ}
use Rattle.std.proofs.Math.Option.{Option, some, none}
use Rattle.format.specs.Format.{kind_of, fixes}
use Rattle.record.specs.Checks.{read_refusal, IsAccepted}
use Rattle.record.specs.Answers.{Answer, turns_away, unless}
use Rattle.writing.specs.Writing.{write_answer, written, ReadsBack}

-- A refusal comes before what is answered without one.
abbrev pub refused_or : {A : Type 0} → Option ℕ → Answer A → Answer A
refused_or none a = a
refused_or (some k) a = turns_away k

-- The answer, and the output afterwards.
unfoldable pub anew_answer : (b out : List ℕ) → Answer ℕ
anew_answer b out = refused_or (read_refusal b) (write_answer (kind_of b) (fixes b) out)

unfoldable pub anew : (b out : List ℕ) → List ℕ
anew b out = unless (read_refusal b) out (written (kind_of b) (fixes b) out)

-- What the program promises of both, of an output that holds the longest record.
abbrev pub WrittenAnew : (b out : List ℕ) → Answer ℕ → List ℕ → Type 0
WrittenAnew b out a l = (a ≡ anew_answer b out) × (l ≡ anew b out) × (IsAccepted b → ReadsBack (kind_of b) (fixes b) l)
