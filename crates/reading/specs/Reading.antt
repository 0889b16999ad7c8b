-- THE READER. Document 01: "A reader stands on the record's bytes and yields fixes in order; after the n-th it says that none is left, each time."
use Rattle.std.specs.Prelude.{Bool, cond, ◌&&◌, List, ◌++◌, map, ℕ, suc, ltb, leb, length, take, drop, ℤ}
use Rattle.std.proofs.Math.Option.{Option, some, none}
use Rattle.distance.specs.Fix.{Fix}
use Rattle.format.specs.Kinds.{kinds, coded}
use Rattle.format.specs.Format.{count_field, kind_field, kind_of, record_length, fix_at, fixes}
use Rattle.record.specs.Checks.{read_refusal}
use Rattle.record.specs.Answers.{Answer, answer, unless}

-- A fix stands at position k: there is such a kind, the count says so, and the lent bytes hold it. Of an accepted record the second suffices (`yields_fix` of
-- Laws/Accepted.antt); bytes or a position of somebody's own making are read no further than they go, and of an unknown kind not at all (`unknown_yields_none`
-- of Laws/Reading.antt).
unfoldable pub stands : List ℕ → ℕ → Bool
stands b k = coded kinds (kind_field b) && (ltb k (count_field b) && leb (record_length (kind_of b) (suc k)) (length b))

-- What a reader at position k yields, and where it stands afterwards: one on, or where it stood if none is left.
unfoldable pub yields : List ℕ → ℕ → Option Fix
yields b k = cond (stands b k) (some (fix_at (kind_of b) b k)) none

unfoldable pub moves : List ℕ → ℕ → ℕ
moves b k = cond (stands b k) (suc k) k

-- Where a reader begins: on the first fix, if its checks accept the bytes. If they don't, it stands past every fix: no count of two bytes reaches
-- this position, so it yields none, each time (`refused_yields_none` of Laws/Accepted.antt).
abbrev pub past_every_fix : ℕ
past_every_fix = 65536

abbrev pub position_for : Option ℕ → ℕ
position_for none = 0
position_for (some k) = past_every_fix

abbrev pub begins : List ℕ → ℕ
begins b = position_for (read_refusal b)

-- What a reader that stands there says of the checks (`begins_tells` of Laws/Reading.antt: of one that has just begun, what they say).
unfoldable pub told_refusal : List ℕ → (at : ℕ) → Option ℕ
told_refusal b at = cond (ltb at past_every_fix) none (read_refusal b)

-- The unit of the fixes that it yields, so many of which make a centimetre, or the refusal.
abbrev pub unit_answer : List ℕ → Answer ℕ
unit_answer b = answer (read_refusal b) (kind_of b).per_centimetre

-- ---- ALL FIXES AT ONCE, in order, into four lent columns: their times, x, y and silences. "the reader and the listing [make checks] 1 to 9", and 20; "A
-- refusal is its number and nothing more, with all lent bytes untouched".
-- A column that values are put into from its first place on: as many as it holds, and its later places as they were.
unfoldable pub filled : {A : Type 0} → (column values : List A) → List A
filled column values = take (length column) values ++ drop (length values) column

abbrev pub times_of : List Fix → List ℕ
times_of = map (λ (f : Fix). f.t)

abbrev pub xs_of : List Fix → List ℤ
xs_of = map (λ (f : Fix). f.x)

abbrev pub ys_of : List Fix → List ℤ
ys_of = map (λ (f : Fix). f.y)

abbrev pub silences_of : List Fix → List ℕ
silences_of = map (λ (f : Fix). f.silence)

-- The answer is the record's count, however long the columns are, or the refusal ..
abbrev pub read_answer : List ℕ → Answer ℕ
read_answer b = answer (read_refusal b) (count_field b)

-- .. and each column is filled, or left as it was.
abbrev pub times_read : List ℕ → (column : List ℕ) → List ℕ
times_read b column = unless (read_refusal b) column (filled column (times_of (fixes b)))

abbrev pub xs_read : List ℕ → (column : List ℤ) → List ℤ
xs_read b column = unless (read_refusal b) column (filled column (xs_of (fixes b)))

abbrev pub ys_read : List ℕ → (column : List ℤ) → List ℤ
ys_read b column = unless (read_refusal b) column (filled column (ys_of (fixes b)))

abbrev pub silences_read : List ℕ → (column : List ℕ) → List ℕ
silences_read b column = unless (read_refusal b) column (filled column (silences_of (fixes b)))
