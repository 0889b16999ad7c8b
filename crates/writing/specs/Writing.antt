-- THE WRITER. Document 01: "The writer takes a lent list of fixes and puts down the record marked never; it answers the record's length, and later
-- bytes of the output don't change." Document 02, item 5: a fix of kind 3 has a byte "which reader and writer pass on: 1 = silence follows, 0 = none".
use Rattle.std.specs.Prelude.{◌≡◌, cond, List, ◌++◌, ℕ, min, length, get_or, drop, ℤ, pos}
use Rattle.std.proofs.Math.Option.{Option, none}
use Rattle.distance.specs.Fix.{Fix}
use Rattle.writing.specs.declared.CentimetreFix.{CentimetreFix}
use Rattle.writing.specs.declared.MillimetreFix.{MillimetreFix}
use Rattle.writing.specs.declared.SilenceFix.{SilenceFix}
use Rattle.format.specs.Kinds.{Kind, has_silences}
use Rattle.format.specs.Format.{never, mark_field, kind_of, record_length, each, fixes, record_bytes}
use Rattle.record.specs.Checks.{Asked, nothing, refusal, writing, IsAccepted}
use Rattle.record.specs.Answers.{Answer, answer, unless}

-- What is asked of a list of fixes. Checks 3, 7, 8, 9, 20 and 15 look at the count, the fixes and the output; there are no bytes yet, so the rest is 0 and
-- `nothing`, and decides nothing (`writing_alone` of the record's Laws/First.antt).
abbrev pub asked_to_write : List Fix → (output : ℕ) → Asked
asked_to_write l output = record {
  lent = 0;
  length_says = 0;
  kind = 0;
  mark = 0;
  count = length l;
  trail_fixes = l;
  given = record {
    tolerance = nothing.tolerance;
    second = nothing.second;
    thousandths = nothing.thousandths;
    start = nothing.start;
    end = nothing.end;
    box = nothing.box;
    output = output;
    table = nothing.table;
    point = nothing.point;
    radius = nothing.radius;
    report = nothing.report;
  };
}

abbrev pub write_refusal : Kind → List Fix → List ℕ → Option ℕ
write_refusal K l out = refusal K writing (asked_to_write l (length out))

-- The answer, and the output afterwards.
abbrev pub write_answer : Kind → List Fix → List ℕ → Answer ℕ
write_answer K l out = answer (write_refusal K l out) (record_length K (length l))

abbrev pub written : Kind → List Fix → List ℕ → List ℕ
written K l out = unless (write_refusal K l out) out (record_bytes K never l ++ drop (record_length K (length l)) out)

-- "Reading it gives the list again": the bytes begin with an accepted record of that kind, marked never, whose fixes are the list.
pub record ReadsBack (K : Kind) (l : List Fix) (b : List ℕ) : Type 0 where
  pub is_accepted : IsAccepted b
  pub of_kind : kind_of b ≡ K
  pub is_never : mark_field b ≡ never
  pub fixes_are : fixes b ≡ l

-- What a writer promises of its answer and of the output afterwards.
abbrev pub Writes : Kind → List Fix → List ℕ → Answer ℕ → List ℕ → Type 0
Writes K l out says after = (says ≡ write_answer K l out) × (after ≡ written K l out) × (write_refusal K l out ≡ none → ReadsBack K l after)

-- What a fix of a lent list says: its unit is the struct's, and no silence follows it but where its struct says so.
abbrev pub in_centimetres : CentimetreFix → Fix
in_centimetres f = record { t = f.t.0; x = f.x.0; y = f.y.0; silence = 0 }

abbrev pub in_millimetres : MillimetreFix → Fix
in_millimetres f = record { t = f.t.0; x = f.x.0; y = f.y.0; silence = 0 }

abbrev pub with_silences : SilenceFix → Fix
with_silences f = record { t = f.t.0; x = f.x.0; y = f.y.0; silence = f.silence.0 }

-- A list of fixes as it is lent to the core, for a record of some kind: a column of numbers for each field. A kind whose fixes say whether silence follows has
-- it from the column of silences, and as many fixes as all four columns have. Of any other kind that column isn't looked at: no fix has a silence, and there
-- are as many as the three other columns have.
abbrev pub column_fix : Kind → List ℕ → List ℤ → List ℤ → List ℕ → ℕ → Fix
column_fix K ts xs ys silences k = record { t = get_or ts k 0; x = get_or xs k (pos 0); y = get_or ys k (pos 0); silence = cond (has_silences K) (get_or silences k 0) 0 }

abbrev pub columns_count : Kind → List ℕ → List ℤ → List ℤ → List ℕ → ℕ
columns_count K ts xs ys silences = let places = min (length ts) (min (length xs) (length ys)) in cond (has_silences K) (min places (length silences)) places

abbrev pub columns : Kind → List ℕ → List ℤ → List ℤ → List ℕ → List Fix
columns K ts xs ys silences = each (column_fix K ts xs ys silences) 0 (columns_count K ts xs ys silences)
