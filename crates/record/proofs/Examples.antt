-- THE CHECKS IN NUMBERS. Bytes, written out, and what document 01 and document 02's items 3, 5, 6 and 8 say of them: the definitions and the code cannot be changed
-- together without these rows. Each line is computed.
use Rattle.std.specs.Prelude.{refl, List, [], ◌∷◌, map, Bool, true, false, ℕ, ◌+◌, ℤ, pos, Result, Ok, Err}
use Rattle.std.proofs.Math.Option.{Option, some, none}
use Rattle.std.proofs.Common.{arith}
use Rattle.distance.proofs.Examples.{Computes, minus}
use Rattle.distance.specs.Fix.{last_of}
use Rattle.distance.specs.Place.{Point, point_at}
use Rattle.distance.specs.Silence.{silence_from, in_silence}
use Rattle.distance.specs.Box.{Box, box_with}
use Rattle.distance.specs.Clock.{Stays}
use Rattle.distance.specs.Laws.All.{all_none, all_more}
use Rattle.distance.proofs.Laws.Clock.{computed_stays}
use Rattle.format.specs.Bytes.{number_at, bytes_of, signed, unsigned}
use Rattle.format.specs.Format.{kind_of, fix_from, fix_at, each, fix_to, fix_bytes, all_bytes, header_bytes, record_bytes}
use Rattle.format.specs.Examples.{document_bytes, millimetre_bytes, silence_bytes}
use Rattle.format.proofs.Laws.RoundTrip.{AreBytes, all_below, computed_bytes}
use Rattle.record.specs.Checks.{Row, Report, anchor_refusal, first, sentence, some_bad_row, some_outside, some_other_silence, some_early_after, some_early, of_ends, read_refusal, load_refusal}
use Rattle.record.specs.Checks.{Given, nothing, number, Operation, checks, refusal_of}
use Rattle.record.specs.Checks.{reading, writing, aging, aging_by_days, placing, crossing, loading, approaching}
use Rattle.record.specs.Checks.{anchoring, writing_dearest}
use Rattle.record.specs.Answers.{gives, turns_away, answer, or_else, unless, number_of, answer_by, refused}
use Rattle.record.specs.declared.refusal.Refusal.{Refusal}
use Rattle.record.specs.declared.refusal.Refusal.TheVariants.{FewBytes, OtherKind, BadCount, BadLength, ShortRecord, BadMark, Misplaced, Unordered, LongSpan}
use Rattle.record.specs.declared.refusal.Refusal.TheVariants.{HighTolerance, BadThousandths, BadMoment, BadWindow, BadBox, ShortOutput, BadPoint}
use Rattle.record.specs.declared.refusal.Refusal.TheVariants.{BadReading, BadState, BadNewPlace, BadSilence, MomentInSilence, BadRowCount, BadRows}
use Rattle.record.specs.Moved.{Movable}
use Rattle.record.specs.Tenfold.{tenfold_mark, tenfold_record, Tenfold}
use Rattle.record.proofs.Laws.Tenfold.{tenfold_never, tenfold_marked}
use Rattle.record.proofs.Laws.First.{some_none}

-- Document 01's 18 bytes with x = 16,001, and with the mark 32,001.
abbrev pub misplaced_bytes : List ℕ
misplaced_bytes = 18 ∷ 0 ∷ 0 ∷ 0 ∷ 1 ∷ 0 ∷ 255 ∷ 255 ∷ 1 ∷ 0 ∷ 232 ∷ 3 ∷ 0 ∷ 0 ∷ 129 ∷ 62 ∷ 2 ∷ 0 ∷ []

abbrev pub badly_marked_bytes : List ℕ
badly_marked_bytes = 18 ∷ 0 ∷ 0 ∷ 0 ∷ 1 ∷ 0 ∷ 1 ∷ 125 ∷ 1 ∷ 0 ∷ 232 ∷ 3 ∷ 0 ∷ 0 ∷ 255 ∷ 255 ∷ 2 ∷ 0 ∷ []

-- A record of kind 3 with document 01's fix, under a mark of these two bytes and with this silence; and one with a second fix a second later, the place of the
-- first with this x.
abbrev pub one_silence : (low high silence : ℕ) → List ℕ
one_silence low high silence = 19 ∷ 0 ∷ 0 ∷ 0 ∷ 3 ∷ 0 ∷ low ∷ high ∷ 1 ∷ 0 ∷ 232 ∷ 3 ∷ 0 ∷ 0 ∷ 255 ∷ 255 ∷ 2 ∷ 0 ∷ silence ∷ []

abbrev pub two_silences : (x_low x_high first last : ℕ) → List ℕ
two_silences x_low x_high first last =
    28 ∷ 0 ∷ 0 ∷ 0 ∷ 3 ∷ 0 ∷ 255 ∷ 255 ∷ 2 ∷ 0 ∷ 5 ∷ 0 ∷ 0 ∷ 0 ∷ x_low ∷ x_high ∷ 0 ∷ 0 ∷ first ∷ 6 ∷ 0 ∷ 0 ∷ 0 ∷ 0 ∷ 0 ∷ 0 ∷ 0 ∷ last ∷ []

-- Lent bytes, and the number of their refusal: a record's length (4 bytes), kind (2), mark (2) and count (2), and the fixes.
abbrev pub read_rows : List (List ℕ × Option ℕ)
read_rows =
    -- document 01's 18 bytes: one fix, (1000, −1, 2), never thinned
    (document_bytes, none)
    -- bytes after the record are ignored
    ∷ (18 ∷ 0 ∷ 0 ∷ 0 ∷ 1 ∷ 0 ∷ 255 ∷ 255 ∷ 1 ∷ 0 ∷ 232 ∷ 3 ∷ 0 ∷ 0 ∷ 255 ∷ 255 ∷ 2 ∷ 0 ∷ 1 ∷ 2 ∷ 3 ∷ [], none)
    -- 1. "The lent bytes are fewer than 10.": none, and 9; with 10 they are a head, of a record that is cut off
    ∷ ([], some 1)
    ∷ (18 ∷ 0 ∷ 0 ∷ 0 ∷ 1 ∷ 0 ∷ 255 ∷ 255 ∷ 1 ∷ [], some 1)
    ∷ (18 ∷ 0 ∷ 0 ∷ 0 ∷ 1 ∷ 0 ∷ 255 ∷ 255 ∷ 1 ∷ 0 ∷ [], some 5)
    -- 2. "The kind isn't 1." (nor 2 nor 3): 0, 4, and 257 and 258, whose lower bytes are 1 and 2
    ∷ (18 ∷ 0 ∷ 0 ∷ 0 ∷ 0 ∷ 0 ∷ 255 ∷ 255 ∷ 1 ∷ 0 ∷ 232 ∷ 3 ∷ 0 ∷ 0 ∷ 255 ∷ 255 ∷ 2 ∷ 0 ∷ [], some 2)
    ∷ (18 ∷ 0 ∷ 0 ∷ 0 ∷ 4 ∷ 0 ∷ 255 ∷ 255 ∷ 1 ∷ 0 ∷ 232 ∷ 3 ∷ 0 ∷ 0 ∷ 255 ∷ 255 ∷ 2 ∷ 0 ∷ [], some 2)
    ∷ (18 ∷ 0 ∷ 0 ∷ 0 ∷ 2 ∷ 1 ∷ 255 ∷ 255 ∷ 1 ∷ 0 ∷ 232 ∷ 3 ∷ 0 ∷ 0 ∷ 255 ∷ 255 ∷ 2 ∷ 0 ∷ [], some 2)
    ∷ (18 ∷ 0 ∷ 0 ∷ 0 ∷ 1 ∷ 1 ∷ 255 ∷ 255 ∷ 1 ∷ 0 ∷ 232 ∷ 3 ∷ 0 ∷ 0 ∷ 255 ∷ 255 ∷ 2 ∷ 0 ∷ [], some 2)
    -- 3. "The count is 0 or above 4,096.": 0, and 4,097 with the length that goes with it; 4,096 is not, and such a head alone is cut off
    ∷ (10 ∷ 0 ∷ 0 ∷ 0 ∷ 1 ∷ 0 ∷ 255 ∷ 255 ∷ 0 ∷ 0 ∷ [], some 3)
    ∷ (18 ∷ 128 ∷ 0 ∷ 0 ∷ 1 ∷ 0 ∷ 255 ∷ 255 ∷ 1 ∷ 16 ∷ [], some 3)
    ∷ (10 ∷ 128 ∷ 0 ∷ 0 ∷ 1 ∷ 0 ∷ 255 ∷ 255 ∷ 0 ∷ 16 ∷ [], some 5)
    -- 4. "The length field isn't 10 + 8 times the count.": 17, 19, and 65,554, whose lower half is 18
    ∷ (17 ∷ 0 ∷ 0 ∷ 0 ∷ 1 ∷ 0 ∷ 255 ∷ 255 ∷ 1 ∷ 0 ∷ 232 ∷ 3 ∷ 0 ∷ 0 ∷ 255 ∷ 255 ∷ 2 ∷ 0 ∷ [], some 4)
    ∷ (19 ∷ 0 ∷ 0 ∷ 0 ∷ 1 ∷ 0 ∷ 255 ∷ 255 ∷ 1 ∷ 0 ∷ 232 ∷ 3 ∷ 0 ∷ 0 ∷ 255 ∷ 255 ∷ 2 ∷ 0 ∷ 0 ∷ [], some 4)
    ∷ (18 ∷ 0 ∷ 1 ∷ 0 ∷ 1 ∷ 0 ∷ 255 ∷ 255 ∷ 1 ∷ 0 ∷ 232 ∷ 3 ∷ 0 ∷ 0 ∷ 255 ∷ 255 ∷ 2 ∷ 0 ∷ [], some 4)
    -- 5. "The lent bytes are fewer than the length field.": one byte too few
    ∷ (18 ∷ 0 ∷ 0 ∷ 0 ∷ 1 ∷ 0 ∷ 255 ∷ 255 ∷ 1 ∷ 0 ∷ 232 ∷ 3 ∷ 0 ∷ 0 ∷ 255 ∷ 255 ∷ 2 ∷ [], some 5)
    -- 6. "The mark is above 32,000 and isn't 65,535.": 0 and 32,000 are not, 32,001 and 65,534 are
    ∷ (18 ∷ 0 ∷ 0 ∷ 0 ∷ 1 ∷ 0 ∷ 0 ∷ 0 ∷ 1 ∷ 0 ∷ 232 ∷ 3 ∷ 0 ∷ 0 ∷ 255 ∷ 255 ∷ 2 ∷ 0 ∷ [], none)
    ∷ (18 ∷ 0 ∷ 0 ∷ 0 ∷ 1 ∷ 0 ∷ 0 ∷ 125 ∷ 1 ∷ 0 ∷ 232 ∷ 3 ∷ 0 ∷ 0 ∷ 255 ∷ 255 ∷ 2 ∷ 0 ∷ [], none)
    ∷ (badly_marked_bytes, some 6)
    ∷ (18 ∷ 0 ∷ 0 ∷ 0 ∷ 1 ∷ 0 ∷ 254 ∷ 255 ∷ 1 ∷ 0 ∷ 232 ∷ 3 ∷ 0 ∷ 0 ∷ 255 ∷ 255 ∷ 2 ∷ 0 ∷ [], some 6)
    -- 7. "Some x or y is outside −16,000 to 16,000.": the limits are not, and 16,001 and −16,001 are, of x and of y
    ∷ (18 ∷ 0 ∷ 0 ∷ 0 ∷ 1 ∷ 0 ∷ 255 ∷ 255 ∷ 1 ∷ 0 ∷ 232 ∷ 3 ∷ 0 ∷ 0 ∷ 128 ∷ 62 ∷ 128 ∷ 193 ∷ [], none)
    ∷ (18 ∷ 0 ∷ 0 ∷ 0 ∷ 1 ∷ 0 ∷ 255 ∷ 255 ∷ 1 ∷ 0 ∷ 232 ∷ 3 ∷ 0 ∷ 0 ∷ 128 ∷ 193 ∷ 128 ∷ 62 ∷ [], none)
    ∷ (misplaced_bytes, some 7)
    ∷ (18 ∷ 0 ∷ 0 ∷ 0 ∷ 1 ∷ 0 ∷ 255 ∷ 255 ∷ 1 ∷ 0 ∷ 232 ∷ 3 ∷ 0 ∷ 0 ∷ 127 ∷ 193 ∷ 2 ∷ 0 ∷ [], some 7)
    ∷ (18 ∷ 0 ∷ 0 ∷ 0 ∷ 1 ∷ 0 ∷ 255 ∷ 255 ∷ 1 ∷ 0 ∷ 232 ∷ 3 ∷ 0 ∷ 0 ∷ 255 ∷ 255 ∷ 129 ∷ 62 ∷ [], some 7)
    ∷ (18 ∷ 0 ∷ 0 ∷ 0 ∷ 1 ∷ 0 ∷ 255 ∷ 255 ∷ 1 ∷ 0 ∷ 232 ∷ 3 ∷ 0 ∷ 0 ∷ 255 ∷ 255 ∷ 127 ∷ 193 ∷ [], some 7)
    -- 8. "Some fix's time isn't later than the time before it.": a second later is accepted, the same time and an earlier one are not
    ∷ (26 ∷ 0 ∷ 0 ∷ 0 ∷ 1 ∷ 0 ∷ 255 ∷ 255 ∷ 2 ∷ 0 ∷ 5 ∷ 0 ∷ 0 ∷ 0 ∷ 0 ∷ 0 ∷ 0 ∷ 0 ∷ 6 ∷ 0 ∷ 0 ∷ 0 ∷ 0 ∷ 0 ∷ 0 ∷ 0 ∷ [], none)
    ∷ (26 ∷ 0 ∷ 0 ∷ 0 ∷ 1 ∷ 0 ∷ 255 ∷ 255 ∷ 2 ∷ 0 ∷ 5 ∷ 0 ∷ 0 ∷ 0 ∷ 0 ∷ 0 ∷ 0 ∷ 0 ∷ 5 ∷ 0 ∷ 0 ∷ 0 ∷ 0 ∷ 0 ∷ 0 ∷ 0 ∷ [], some 8)
    ∷ (26 ∷ 0 ∷ 0 ∷ 0 ∷ 1 ∷ 0 ∷ 255 ∷ 255 ∷ 2 ∷ 0 ∷ 5 ∷ 0 ∷ 0 ∷ 0 ∷ 0 ∷ 0 ∷ 0 ∷ 0 ∷ 4 ∷ 0 ∷ 0 ∷ 0 ∷ 0 ∷ 0 ∷ 0 ∷ 0 ∷ [], some 8)
    -- 9. "The last time less the first is above 65,535."
    ∷ (26 ∷ 0 ∷ 0 ∷ 0 ∷ 1 ∷ 0 ∷ 255 ∷ 255 ∷ 2 ∷ 0 ∷ 5 ∷ 0 ∷ 0 ∷ 0 ∷ 0 ∷ 0 ∷ 0 ∷ 0 ∷ 4 ∷ 0 ∷ 1 ∷ 0 ∷ 0 ∷ 0 ∷ 0 ∷ 0 ∷ [], none)
    ∷ (26 ∷ 0 ∷ 0 ∷ 0 ∷ 1 ∷ 0 ∷ 255 ∷ 255 ∷ 2 ∷ 0 ∷ 5 ∷ 0 ∷ 0 ∷ 0 ∷ 0 ∷ 0 ∷ 0 ∷ 0 ∷ 5 ∷ 0 ∷ 1 ∷ 0 ∷ 0 ∷ 0 ∷ 0 ∷ 0 ∷ [], some 9)
    -- the first that holds is said: 2 and 3; 5 and 6; 6 and 7; 7 and 8; 8 and 9
    ∷ (10 ∷ 0 ∷ 0 ∷ 0 ∷ 4 ∷ 0 ∷ 255 ∷ 255 ∷ 0 ∷ 0 ∷ [], some 2)
    ∷ (18 ∷ 0 ∷ 0 ∷ 0 ∷ 1 ∷ 0 ∷ 1 ∷ 125 ∷ 1 ∷ 0 ∷ [], some 5)
    ∷ (18 ∷ 0 ∷ 0 ∷ 0 ∷ 1 ∷ 0 ∷ 1 ∷ 125 ∷ 1 ∷ 0 ∷ 232 ∷ 3 ∷ 0 ∷ 0 ∷ 129 ∷ 62 ∷ 2 ∷ 0 ∷ [], some 6)
    ∷ (26 ∷ 0 ∷ 0 ∷ 0 ∷ 1 ∷ 0 ∷ 255 ∷ 255 ∷ 2 ∷ 0 ∷ 5 ∷ 0 ∷ 0 ∷ 0 ∷ 0 ∷ 0 ∷ 0 ∷ 0 ∷ 5 ∷ 0 ∷ 0 ∷ 0 ∷ 129 ∷ 62 ∷ 0 ∷ 0 ∷ [], some 7)
    ∷ (34 ∷ 0 ∷ 0 ∷ 0 ∷ 1 ∷ 0 ∷ 255 ∷ 255 ∷ 3 ∷ 0 ∷ 5 ∷ 0 ∷ 0 ∷ 0 ∷ 0 ∷ 0 ∷ 0 ∷ 0 ∷ 112 ∷ 17 ∷ 1 ∷ 0 ∷ 0 ∷ 0 ∷ 0 ∷ 0 ∷ 111 ∷ 17 ∷ 1 ∷ 0 ∷ 0 ∷ 0 ∷ 0 ∷ 0 ∷ [], some 8)
    -- kind 2, by its own limits: 4. "length 10 + 12n": 18 is not one, 22 is
    ∷ (18 ∷ 0 ∷ 0 ∷ 0 ∷ 2 ∷ 0 ∷ 255 ∷ 255 ∷ 1 ∷ 0 ∷ 232 ∷ 3 ∷ 0 ∷ 0 ∷ 255 ∷ 255 ∷ 2 ∷ 0 ∷ [], some 4)
    ∷ (22 ∷ 0 ∷ 0 ∷ 0 ∷ 2 ∷ 0 ∷ 255 ∷ 255 ∷ 1 ∷ 0 ∷ 232 ∷ 3 ∷ 0 ∷ 0 ∷ 255 ∷ 255 ∷ 255 ∷ 255 ∷ 2 ∷ 0 ∷ 0 ∷ 0 ∷ [], none)
    -- 4,096 fixes are 49,162 bytes; such a head alone is cut off
    ∷ (10 ∷ 192 ∷ 0 ∷ 0 ∷ 2 ∷ 0 ∷ 255 ∷ 255 ∷ 0 ∷ 16 ∷ [], some 5)
    -- 6. "mark up to 60,000 or never": 32,001 and 60,000 are, 60,001 and 65,534 are not
    ∷ (22 ∷ 0 ∷ 0 ∷ 0 ∷ 2 ∷ 0 ∷ 1 ∷ 125 ∷ 1 ∷ 0 ∷ 232 ∷ 3 ∷ 0 ∷ 0 ∷ 255 ∷ 255 ∷ 255 ∷ 255 ∷ 2 ∷ 0 ∷ 0 ∷ 0 ∷ [], none)
    ∷ (22 ∷ 0 ∷ 0 ∷ 0 ∷ 2 ∷ 0 ∷ 96 ∷ 234 ∷ 1 ∷ 0 ∷ 232 ∷ 3 ∷ 0 ∷ 0 ∷ 255 ∷ 255 ∷ 255 ∷ 255 ∷ 2 ∷ 0 ∷ 0 ∷ 0 ∷ [], none)
    ∷ (22 ∷ 0 ∷ 0 ∷ 0 ∷ 2 ∷ 0 ∷ 97 ∷ 234 ∷ 1 ∷ 0 ∷ 232 ∷ 3 ∷ 0 ∷ 0 ∷ 255 ∷ 255 ∷ 255 ∷ 255 ∷ 2 ∷ 0 ∷ 0 ∷ 0 ∷ [], some 6)
    ∷ (22 ∷ 0 ∷ 0 ∷ 0 ∷ 2 ∷ 0 ∷ 254 ∷ 255 ∷ 1 ∷ 0 ∷ 232 ∷ 3 ∷ 0 ∷ 0 ∷ 255 ∷ 255 ∷ 255 ∷ 255 ∷ 2 ∷ 0 ∷ 0 ∷ 0 ∷ [], some 6)
    -- 7. "places −160,000 to 160,000": both limits, and 160,001 of x and −160,001 of y
    ∷ (millimetre_bytes, none)
    ∷ (22 ∷ 0 ∷ 0 ∷ 0 ∷ 2 ∷ 0 ∷ 255 ∷ 255 ∷ 1 ∷ 0 ∷ 232 ∷ 3 ∷ 0 ∷ 0 ∷ 1 ∷ 113 ∷ 2 ∷ 0 ∷ 2 ∷ 0 ∷ 0 ∷ 0 ∷ [], some 7)
    ∷ (22 ∷ 0 ∷ 0 ∷ 0 ∷ 2 ∷ 0 ∷ 255 ∷ 255 ∷ 1 ∷ 0 ∷ 232 ∷ 3 ∷ 0 ∷ 0 ∷ 2 ∷ 0 ∷ 0 ∷ 0 ∷ 255 ∷ 142 ∷ 253 ∷ 255 ∷ [], some 7)
    -- kind 3, by kind 1's limits: 4. "its length is 10 + 9n": 18 is not one, 19 is; 4,096 fixes are 36,874 bytes, and such a head alone is cut off
    ∷ (silence_bytes, none)
    ∷ (18 ∷ 0 ∷ 0 ∷ 0 ∷ 3 ∷ 0 ∷ 255 ∷ 255 ∷ 1 ∷ 0 ∷ 232 ∷ 3 ∷ 0 ∷ 0 ∷ 255 ∷ 255 ∷ 2 ∷ 0 ∷ 0 ∷ [], some 4)
    ∷ (one_silence 255 255 0, none)
    ∷ (10 ∷ 144 ∷ 0 ∷ 0 ∷ 3 ∷ 0 ∷ 255 ∷ 255 ∷ 0 ∷ 16 ∷ [], some 5)
    -- 6. and 7. by the limits of kind 1: the mark 32,001, and x = 16,001
    ∷ (one_silence 1 125 0, some 6)
    ∷ (two_silences 129 62 1 0, some 7)
    -- 20. "a silence byte is neither 0 nor 1": 2 and 255, of the first fix and of the last; "or the last fix has 1"
    ∷ (two_silences 0 0 2 0, some 20)
    ∷ (two_silences 0 0 255 0, some 20)
    ∷ (two_silences 0 0 0 2, some 20)
    ∷ (two_silences 0 0 1 1, some 20)
    ∷ (one_silence 255 255 1, some 20)
    -- 9 before 20
    ∷ (28 ∷ 0 ∷ 0 ∷ 0 ∷ 3 ∷ 0 ∷ 255 ∷ 255 ∷ 2 ∷ 0 ∷ 5 ∷ 0 ∷ 0 ∷ 0 ∷ 0 ∷ 0 ∷ 0 ∷ 0 ∷ 2 ∷ 5 ∷ 0 ∷ 1 ∷ 0 ∷ 0 ∷ 0 ∷ 0 ∷ 0 ∷ 1 ∷ [], some 9)
    ∷ []

-- All rows in one statement.
pub reader_says : Computes (read_refusal) read_rows
unfolding kind_of first sentence some_outside some_other_silence some_early_after some_early last_of of_ends fix_from fix_at each number_at signed
reader_says = refl

-- What an operation that makes the reader's checks too has of the rows that the reader refuses: `f` of the bytes and the number.
abbrev pub on_refused : {A : Type 0} → (f : List ℕ → ℕ → A) → List (List ℕ × Option ℕ) → List A
on_refused f [] = []
on_refused f ((b, none) ∷ rows) = on_refused f rows
on_refused f ((b, some k) ∷ rows) = f b k ∷ on_refused f rows

-- ---- TABLES: a row, and n rows for day 0, 1 and so on, of tolerance 5
abbrev pub row : (day tolerance : ℕ) → Row
row day tolerance = record { day = day; row_tolerance = tolerance }

abbrev pub daily : (n : ℕ) → List Row
daily n = each (λ k. row k 5) 0 n

-- ---- 22: "there are no rows or more than 32". 23, next: "days don't rise strictly, tolerances fall, or one is above 32,000".
abbrev pub load_rows : List (List Row × Option ℕ)
load_rows =
    ([], some 22)
    ∷ (daily 1, none)
    ∷ (daily 32, none)
    ∷ (daily 33, some 22)
    -- 22 before 23
    ∷ (row 7 32001 ∷ daily 32, some 22)
    -- the first row may be for any day, and give any tolerance up to 32,000
    ∷ (row 0 0 ∷ [], none)
    ∷ (row 65535 32000 ∷ [], none)
    ∷ (row 0 32001 ∷ [], some 23)
    ∷ (row 0 65535 ∷ [], some 23)
    -- days rise strictly, and tolerances may stay
    ∷ (row 2 10 ∷ row 3 10 ∷ [], none)
    ∷ (row 2 10 ∷ row 2 10 ∷ [], some 23)
    ∷ (row 3 10 ∷ row 2 10 ∷ [], some 23)
    ∷ (row 2 10 ∷ row 3 9 ∷ [], some 23)
    ∷ (row 2 10 ∷ row 3 32001 ∷ [], some 23)
    -- wherever the fault stands
    ∷ (row 2 10 ∷ row 7 25 ∷ row 7 100 ∷ row 90 400 ∷ [], some 23)
    ∷ (row 2 10 ∷ row 7 25 ∷ row 30 100 ∷ row 90 99 ∷ [], some 23)
    ∷ []

pub loads_computed : Computes load_refusal load_rows
unfolding first sentence some_bad_row each
loads_computed = refl

-- ---- CHECKS 10 TO 16 AND 21, each at its limits and by the kind of the record. What a call is handed:
abbrev pub handed : (tolerance second thousandths start end : ℕ) → Box → (output : ℕ) → Point → (radius : ℕ) → Given
handed e s m start end box output point r = record {
  tolerance = e;
  second = s;
  thousandths = m;
  start = start;
  end = end;
  box = box;
  output = output;
  table = [];
  point = point;
  radius = r;
  report = nothing.report;
}

abbrev pub no_box : Box
no_box = nothing.box

abbrev pub no_point : Point
no_point = nothing.point

-- .. and the refusal of the call that takes it: aging by tolerance, the place question, the crossing, the radius
-- question, and the writers with an output of so many bytes
abbrev pub ages : List ℕ × ℕ → Option ℕ
ages (b, e) = refusal_of aging b (handed e 0 0 0 0 no_box 0 no_point 0)

abbrev pub places : List ℕ × ℕ × ℕ → Option ℕ
places (b, s, m) = refusal_of placing b (handed 0 s m 0 0 no_box 0 no_point 0)

abbrev pub crosses : List ℕ × ℕ × ℕ × Box → Option ℕ
crosses (b, start, end, box) = refusal_of crossing b (handed 0 0 0 start end box 0 no_point 0)

abbrev pub nears : List ℕ × Point × ℕ → Option ℕ
nears (b, point, r) = refusal_of approaching b (handed 0 0 0 0 0 no_box 0 point r)

abbrev pub writes : List ℕ × ℕ → Option ℕ
writes (b, output) = refusal_of writing b (handed 0 0 0 0 0 no_box output no_point 0)

abbrev pub writes_dearest : List ℕ × ℕ → Option ℕ
writes_dearest (b, output) = refusal_of writing_dearest b (handed 0 0 0 0 0 no_box output no_point 0)

-- a record of kind 1 with a fix at second 1000, and one at the second of these three bytes
abbrev pub from_1000_to : (low high third : ℕ) → List ℕ
from_1000_to low high third =
    26 ∷ 0 ∷ 0 ∷ 0 ∷ 1 ∷ 0 ∷ 255 ∷ 255 ∷ 2 ∷ 0
    ∷ 232 ∷ 3 ∷ 0 ∷ 0 ∷ 0 ∷ 0 ∷ 0 ∷ 0
    ∷ low ∷ high ∷ third ∷ 0 ∷ 0 ∷ 0 ∷ 0 ∷ 0 ∷ []

abbrev pub ten_seconds : List ℕ
ten_seconds = from_1000_to 242 3 0

-- 65,536 seconds: 9 turns it away
abbrev pub long_trail : List ℕ
long_trail = from_1000_to 232 3 1

-- a record of kind 3 with fixes at 1000, 1010 and 1020, and a silence between the first two
abbrev pub silent_leg : List ℕ
silent_leg =
    37 ∷ 0 ∷ 0 ∷ 0 ∷ 3 ∷ 0 ∷ 255 ∷ 255 ∷ 3 ∷ 0
    ∷ 232 ∷ 3 ∷ 0 ∷ 0 ∷ 0 ∷ 0 ∷ 0 ∷ 0 ∷ 1
    ∷ 242 ∷ 3 ∷ 0 ∷ 0 ∷ 0 ∷ 0 ∷ 0 ∷ 0 ∷ 0
    ∷ 252 ∷ 3 ∷ 0 ∷ 0 ∷ 0 ∷ 0 ∷ 0 ∷ 0 ∷ 0 ∷ []

-- a silence byte of 2: 20 turns it away
abbrev pub other_silence_byte : List ℕ
other_silence_byte = two_silences 0 0 2 0

-- ---- 10. "The asked tolerance is above 32,000.", and of kind 2 above 60,000
pub tolerances_computed : Computes ages
    (((document_bytes, 0), none)
    ∷ ((document_bytes, 32000), none)
    ∷ ((document_bytes, 32001), some 10)
    ∷ ((document_bytes, 60000), some 10)
    ∷ ((document_bytes, 65535), some 10)
    ∷ ((millimetre_bytes, 32001), none)
    ∷ ((millimetre_bytes, 60000), none)
    ∷ ((millimetre_bytes, 60001), some 10)
    ∷ ((millimetre_bytes, 65535), some 10)
    ∷ ((silence_bytes, 32000), none)
    ∷ ((silence_bytes, 32001), some 10)
    -- after 9 and 20
    ∷ ((long_trail, 32001), some 9)
    ∷ ((other_silence_byte, 32001), some 20)
    ∷ [])
unfolding kind_of first sentence some_outside some_other_silence some_early_after some_early
    last_of of_ends fix_from fix_at each number_at signed
tolerances_computed = refl

pub moments_refused : Computes places
    -- 12. "The asked moment is before the first fix or after the last.": by a thousandth, at each end; of a lone fix
    (((ten_seconds, 999, 999), some 12)
    ∷ ((ten_seconds, 1000, 0), none)
    ∷ ((ten_seconds, 1010, 0), none)
    ∷ ((ten_seconds, 1010, 1), some 12)
    ∷ ((document_bytes, 999, 999), some 12)
    ∷ ((document_bytes, 1000, 0), none)
    ∷ ((document_bytes, 1000, 1), some 12)
    ∷ ((millimetre_bytes, 0, 0), none)
    ∷ ((millimetre_bytes, 7, 0), none)
    ∷ ((millimetre_bytes, 7, 1), some 12)
    -- 11. "The asked thousandths are above 999."
    ∷ ((ten_seconds, 1000, 999), none)
    ∷ ((ten_seconds, 1000, 1000), some 11)
    ∷ ((millimetre_bytes, 0, 999), none)
    ∷ ((millimetre_bytes, 0, 1000), some 11)
    -- 21. "the moment is strictly inside a silence": at its two ends it isn't, nor on the leg after it
    ∷ ((silent_leg, 1000, 0), none)
    ∷ ((silent_leg, 1000, 1), some 21)
    ∷ ((silent_leg, 1005, 0), some 21)
    ∷ ((silent_leg, 1009, 999), some 21)
    ∷ ((silent_leg, 1010, 0), none)
    ∷ ((silent_leg, 1010, 1), none)
    ∷ ((silent_leg, 1020, 0), none)
    -- 11 before 12, and before 21; 12 at the ends of such a trail too; 9 and 20 before them
    ∷ ((ten_seconds, 998, 1000), some 11)
    ∷ ((ten_seconds, 1010, 1000), some 11)
    ∷ ((silent_leg, 1005, 1000), some 11)
    ∷ ((silent_leg, 999, 999), some 12)
    ∷ ((silent_leg, 1020, 1), some 12)
    ∷ ((long_trail, 0, 1000), some 9)
    ∷ ((other_silence_byte, 0, 1000), some 20)
    ∷ [])
unfolding kind_of first sentence some_outside some_other_silence some_early_after some_early
    last_of of_ends fix_from fix_at each number_at signed in_silence silence_from
moments_refused = refl

-- ---- a box from one corner to the other, and one of a single point
abbrev pub square : (low high : ℤ) → Box
square low high = box_with low high low high

pub windows_refused : Computes crosses
    -- 13. "The window's end is before its start, or either is outside the trail's times."
    (((ten_seconds, 1000, 1010, square (pos 0) (pos 0)), none)
    ∷ ((ten_seconds, 1000, 1000, square (pos 0) (pos 0)), none)
    ∷ ((ten_seconds, 1010, 1010, square (pos 0) (pos 0)), none)
    ∷ ((ten_seconds, 1005, 1004, square (pos 0) (pos 0)), some 13)
    ∷ ((ten_seconds, 999, 1010, square (pos 0) (pos 0)), some 13)
    ∷ ((ten_seconds, 1000, 1011, square (pos 0) (pos 0)), some 13)
    ∷ ((ten_seconds, 999, 999, square (pos 0) (pos 0)), some 13)
    ∷ ((ten_seconds, 1011, 1011, square (pos 0) (pos 0)), some 13)
    ∷ ((document_bytes, 1000, 1000, square (pos 0) (pos 0)), none)
    ∷ ((document_bytes, 1000, 1001, square (pos 0) (pos 0)), some 13)
    ∷ ((millimetre_bytes, 0, 7, square (pos 0) (pos 0)), none)
    ∷ ((millimetre_bytes, 0, 8, square (pos 0) (pos 0)), some 13)
    -- it may end and start inside a silence
    ∷ ((silent_leg, 1003, 1007, square (pos 0) (pos 0)), none)
    -- 13 before 14; 9 and 20 before them
    ∷ ((ten_seconds, 1005, 1004, square (pos 1) (pos 0)), some 13)
    ∷ ((ten_seconds, 1000, 1011, square (pos 16001) (pos 16001)), some 13)
    ∷ ((long_trail, 1005, 1004, square (pos 1) (pos 0)), some 9)
    ∷ ((other_silence_byte, 6, 5, square (pos 1) (pos 0)), some 20)
    ∷ [])
unfolding kind_of first sentence some_outside some_other_silence some_early_after some_early
    last_of of_ends fix_from fix_at each number_at signed
windows_refused = refl

pub boxes_refused : Computes (λ (r : List ℕ × ℕ × Box). crosses (r.0, r.1, r.1, r.2))
    -- 14. "A box edge is outside −16,000 to 16,000, or a low edge is above its high edge."
    (((ten_seconds, 1000, square (minus 16000) (pos 16000)), none)
    ∷ ((ten_seconds, 1000, square (pos 16000) (pos 16000)), none)
    ∷ ((ten_seconds, 1000, square (minus 16000) (minus 16000)), none)
    ∷ ((ten_seconds, 1000, box_with (minus 16001) (pos 5) (pos 0) (pos 5)), some 14)
    ∷ ((ten_seconds, 1000, box_with (pos 0) (pos 16001) (pos 0) (pos 5)), some 14)
    ∷ ((ten_seconds, 1000, box_with (pos 0) (pos 5) (minus 16001) (pos 5)), some 14)
    ∷ ((ten_seconds, 1000, box_with (pos 0) (pos 5) (pos 0) (pos 16001)), some 14)
    ∷ ((ten_seconds, 1000, box_with (pos 16001) (pos 16001) (pos 0) (pos 5)), some 14)
    ∷ ((ten_seconds, 1000, box_with (pos 0) (pos 5) (minus 16001) (minus 16001)), some 14)
    ∷ ((ten_seconds, 1000, box_with (pos 5) (pos 5) (minus 7) (minus 7)), none)
    ∷ ((ten_seconds, 1000, box_with (pos 6) (pos 5) (minus 7) (minus 7)), some 14)
    ∷ ((ten_seconds, 1000, box_with (pos 5) (pos 5) (minus 7) (minus 8)), some 14)
    -- of kind 2 by its own limits, of kind 3 by kind 1's
    ∷ ((millimetre_bytes, 0, square (minus 160000) (pos 160000)), none)
    ∷ ((millimetre_bytes, 0, box_with (minus 160001) (pos 5) (pos 0) (pos 5)), some 14)
    ∷ ((millimetre_bytes, 0, box_with (pos 0) (pos 160001) (pos 0) (pos 5)), some 14)
    ∷ ((millimetre_bytes, 0, box_with (pos 0) (pos 5) (minus 160001) (pos 5)), some 14)
    ∷ ((millimetre_bytes, 0, box_with (pos 0) (pos 5) (pos 0) (pos 160001)), some 14)
    ∷ ((millimetre_bytes, 0, box_with (pos 6) (pos 5) (pos 0) (pos 5)), some 14)
    ∷ ((silence_bytes, 0, square (minus 16000) (pos 16000)), none)
    ∷ ((silence_bytes, 0, box_with (pos 0) (pos 5) (pos 0) (pos 16001)), some 14)
    ∷ [])
unfolding kind_of first sentence some_outside some_other_silence some_early_after some_early
    last_of of_ends fix_from fix_at each number_at signed
boxes_refused = refl

pub outputs_refused : Computes writes
    -- 15. "The output has fewer than 10 + 8n bytes.", and of kinds 2 and 3 fewer than 10 + 12n and 10 + 9n
    (((document_bytes, 18), none)
    ∷ ((document_bytes, 17), some 15)
    ∷ ((ten_seconds, 26), none)
    ∷ ((ten_seconds, 25), some 15)
    ∷ ((millimetre_bytes, 34), none)
    ∷ ((millimetre_bytes, 33), some 15)
    ∷ ((silence_bytes, 28), none)
    ∷ ((silence_bytes, 27), some 15)
    -- after 3, 7, 9 and 20
    ∷ (([], 0), some 3)
    ∷ ((misplaced_bytes, 17), some 7)
    ∷ ((long_trail, 25), some 9)
    ∷ ((other_silence_byte, 27), some 20)
    ∷ [])
    -- of item 13's trail "3 and 15 apply", and 7 to 9 and 20 don't
    × Computes writes_dearest
    ((([], 0), some 3)
    ∷ ((misplaced_bytes, 18), none)
    ∷ ((misplaced_bytes, 17), some 15)
    ∷ ((long_trail, 26), none)
    ∷ ((other_silence_byte, 28), none)
    ∷ [])
unfolding kind_of first sentence some_outside some_other_silence some_early_after some_early
    last_of of_ends fix_from fix_at each number_at signed
outputs_refused = (refl, refl)

pub points_refused : Computes nears
    -- 16. "the point is outside −16,000 to 16,000 or the radius is above 32,000"
    (((document_bytes, point_at (pos 16000) (minus 16000), 32000), none)
    ∷ ((document_bytes, point_at (minus 16000) (pos 16000), 0), none)
    ∷ ((document_bytes, point_at (pos 16001) (pos 0), 0), some 16)
    ∷ ((document_bytes, point_at (minus 16001) (pos 0), 0), some 16)
    ∷ ((document_bytes, point_at (pos 0) (pos 16001), 0), some 16)
    ∷ ((document_bytes, point_at (pos 0) (minus 16001), 0), some 16)
    ∷ ((document_bytes, point_at (pos 0) (pos 0), 32001), some 16)
    -- of kind 2 by its own limits, of kind 3 by kind 1's
    ∷ ((millimetre_bytes, point_at (pos 160000) (minus 160000), 320000), none)
    ∷ ((millimetre_bytes, point_at (pos 160001) (pos 0), 0), some 16)
    ∷ ((millimetre_bytes, point_at (minus 160001) (pos 0), 0), some 16)
    ∷ ((millimetre_bytes, point_at (pos 0) (pos 160001), 0), some 16)
    ∷ ((millimetre_bytes, point_at (pos 0) (minus 160001), 0), some 16)
    ∷ ((millimetre_bytes, point_at (pos 0) (pos 0), 320001), some 16)
    ∷ ((silence_bytes, point_at (pos 16000) (minus 16000), 32000), none)
    ∷ ((silence_bytes, point_at (pos 16001) (pos 0), 0), some 16)
    ∷ ((silence_bytes, point_at (pos 0) (pos 0), 32001), some 16)
    -- after 9 and 20
    ∷ ((long_trail, point_at (pos 16001) (pos 0), 0), some 9)
    ∷ ((other_silence_byte, point_at (pos 0) (pos 0), 32001), some 20)
    ∷ [])
unfolding kind_of first sentence some_outside some_other_silence some_early_after some_early
    last_of of_ends fix_from fix_at each number_at signed
points_refused = refl

-- ---- WHICH CHECKS EACH OPERATION MAKES, and in which order
abbrev pub numbers : Operation → List ℕ
numbers o = map number (checks o)

pub operations_computed : Computes numbers
    ((reading, 1 ∷ 2 ∷ 3 ∷ 4 ∷ 5 ∷ 6 ∷ 7 ∷ 8 ∷ 9 ∷ 20 ∷ [])
    ∷ (writing, 3 ∷ 7 ∷ 8 ∷ 9 ∷ 20 ∷ 15 ∷ [])
    ∷ (aging, 1 ∷ 2 ∷ 3 ∷ 4 ∷ 5 ∷ 6 ∷ 7 ∷ 8 ∷ 9 ∷ 20 ∷ 10 ∷ [])
    ∷ (aging_by_days, 1 ∷ 2 ∷ 3 ∷ 4 ∷ 5 ∷ 6 ∷ 7 ∷ 8 ∷ 9 ∷ 20 ∷ 22 ∷ 23 ∷ [])
    ∷ (placing, 1 ∷ 2 ∷ 3 ∷ 4 ∷ 5 ∷ 6 ∷ 7 ∷ 8 ∷ 9 ∷ 20 ∷ 11 ∷ 12 ∷ 21 ∷ [])
    ∷ (crossing, 1 ∷ 2 ∷ 3 ∷ 4 ∷ 5 ∷ 6 ∷ 7 ∷ 8 ∷ 9 ∷ 20 ∷ 13 ∷ 14 ∷ [])
    ∷ (approaching, 1 ∷ 2 ∷ 3 ∷ 4 ∷ 5 ∷ 6 ∷ 7 ∷ 8 ∷ 9 ∷ 20 ∷ 16 ∷ [])
    ∷ (loading, 22 ∷ 23 ∷ [])
    ∷ (anchoring, 17 ∷ 18 ∷ 19 ∷ [])
    ∷ (writing_dearest, 3 ∷ 15 ∷ [])
    ∷ [])
operations_computed = refl

-- ---- THE REFUSALS OF THE CODE, and their numbers.
pub refusals_numbered :
    Computes number_of (
    (FewBytes, 1)
    ∷ (OtherKind, 2)
    ∷ (BadCount, 3)
    ∷ (BadLength, 4)
    ∷ (ShortRecord, 5)
    ∷ (BadMark, 6)
    ∷ (Misplaced, 7)
    ∷ (Unordered, 8)
    ∷ (LongSpan, 9)
    ∷ (HighTolerance, 10)
    ∷ (BadThousandths, 11)
    ∷ (BadMoment, 12)
    ∷ (BadWindow, 13)
    ∷ (BadBox, 14)
    ∷ (ShortOutput, 15)
    ∷ (BadPoint, 16)
    ∷ (BadReading, 17)
    ∷ (BadState, 18)
    ∷ (BadNewPlace, 19)
    ∷ (BadSilence, 20)
    ∷ (MomentInSilence, 21)
    ∷ (BadRowCount, 22)
    ∷ (BadRows, 23)
    ∷ [])
refusals_numbered = refl

-- ---- WHAT AN ANSWER SAYS: of the code's answer the refusal's number, or none; what is given, or the number "and nothing
-- more"; a buffer afterwards, as it was on a refusal
pub answers_computed :
    Computes (λ (r : Result ℕ Refusal). refused r) ((Ok 5, none) ∷ (Err Misplaced, some 7) ∷ [])
    × Computes (answer_by (λ (n : ℕ). n + 1)) ((Ok 5, gives 6) ∷ (Err Misplaced, turns_away 7) ∷ [])
    × Computes (λ (r : Option ℕ). answer {A = ℕ} r 5) ((none, gives 5) ∷ (some 7, turns_away 7) ∷ [])
    × Computes (λ (r : Option ℕ). unless {A = ℕ} r 5 6) ((none, 6) ∷ (some 7, 5) ∷ [])
    × Computes (λ (r : Option ℕ). or_else {A = ℕ} r (some 6)) ((none, some 6) ∷ (some 7, some 7) ∷ [])
answers_computed = (refl, refl, refl, refl, refl)

-- ---- AN ANCHOR'S READINGS, in sixteenths, and which refusal they get. An absolute place, the state it is given having no place and its flag off; and a step, from a
-- state with its flag on.
abbrev pub place_report : (x y : Option ℤ) → Report
place_report x y = record { is_step = false; sent = record { x = x; y = y }; flag = false; last = record { x = none; y = none } }

abbrev pub step_report : (flag : Bool) (last-x last-y x y : Option ℤ) → Report
step_report on a b x y = record { is_step = true; sent = record { x = x; y = y }; flag = on; last = record { x = a; y = b } }

pub anchors_computed : Computes anchor_refusal
    ((place_report (some (pos 0)) (some (pos 0)), none)
    -- 19. 16,000 centimetres are 256,000 sixteenths
    ∷ (place_report (some (pos 256000)) (some (minus 256000)), none)
    ∷ (place_report (some (pos 256001)) (some (pos 0)), some 19)
    ∷ (place_report (some (pos 0)) (some (minus 256001)), some 19)
    -- 17 before 19, and before 18
    ∷ (place_report none (some (pos 0)), some 17)
    ∷ (place_report (some (pos 256001)) none, some 17)
    ∷ (step_report false none none none (some (pos 0)), some 17)
    -- 18 before 19: the flag, what the state's place counts, and where it is
    ∷ (step_report false (some (pos 0)) (some (pos 0)) (some (pos 0)) (some (pos 0)), some 18)
    ∷ (step_report true (some (pos 0)) none (some (pos 0)) (some (pos 0)), some 18)
    ∷ (step_report true (some (pos 256001)) (some (pos 0)) (some (minus 1)) (some (pos 0)), some 18)
    ∷ (step_report false (some (pos 0)) (some (pos 0)) (some (pos 0)) (some (pos 999999)), some 18)
    -- 19 of the sum, and not of its parts
    ∷ (step_report true (some (pos 256000)) (some (pos 0)) (some (minus 512000)) (some (pos 256000)), none)
    ∷ (step_report true (some (pos 256000)) (some (pos 0)) (some (pos 1)) (some (pos 0)), some 19)
    ∷ (step_report true (some (pos 0)) (some (minus 1)) (some (pos 0)) (some (minus 256000)), some 19)
    ∷ [])
unfolding first sentence
anchors_computed = refl

-- ---- BUFFERS WHOSE CLOCK IS MOVED, with all that the laws of it ask, so that nothing they ask is empty: document 01's 18 bytes, their fix moved to the last second
-- of 32 bits and to the first; the same with x = 16,001, which 7 turns away; and with the mark 32,001, which 6 turns away, so that its time may leave 32 bits. Last
-- a record of kind 2 with fixes at 0 and 7, whose latest becomes the last second.
pub record MovableRow : Type 0 where
  pub by : ℤ
  pub buffer : List ℕ
  pub bytes : AreBytes buffer
  pub movable : Movable by buffer
  -- a second that is asked
  pub asked : ℕ
  pub asked_stays : Stays by asked

pub movable_rows : List MovableRow
unfolding kind_of all_below first sentence fix_from fix_at each number_at
movable_rows =
    record {
      by = pos 4294966295;
      buffer = document_bytes;
      bytes = computed_bytes document_bytes refl;
      movable = record { all_stay = (λ h. all_more (computed_stays (pos 4294966295) 1000 tt tt) all_none) };
      asked = 1000;
      asked_stays = computed_stays (pos 4294966295) 1000 tt tt;
    }
    ∷ record {
      by = minus 1000;
      buffer = document_bytes;
      bytes = computed_bytes document_bytes refl;
      movable = record { all_stay = (λ h. all_more (computed_stays (minus 1000) 1000 tt tt) all_none) };
      asked = 1000;
      asked_stays = computed_stays (minus 1000) 1000 tt tt;
    }
    ∷ record {
      by = pos 4294966295;
      buffer = misplaced_bytes;
      bytes = computed_bytes misplaced_bytes refl;
      movable = record { all_stay = (λ h. all_more (computed_stays (pos 4294966295) 1000 tt tt) all_none) };
      asked = 1000;
      asked_stays = computed_stays (pos 4294966295) 1000 tt tt;
    }
    ∷ record {
      by = pos 4294967295;
      buffer = badly_marked_bytes;
      bytes = computed_bytes badly_marked_bytes refl;
      movable = record { all_stay = (λ h. absurd (some_none h)) };
      asked = 0;
      asked_stays = computed_stays (pos 4294967295) 0 tt tt;
    }
    ∷ record {
      by = pos 4294967288;
      buffer = millimetre_bytes;
      bytes = computed_bytes millimetre_bytes refl;
      movable = record { all_stay = (λ h. all_more (computed_stays (pos 4294967288) 0 tt tt) (all_more (computed_stays (pos 4294967288) 7 tt tt) all_none)) };
      asked = 3;
      asked_stays = computed_stays (pos 4294967288) 3 tt tt;
    }
    ∷ []

-- ---- CENTIMETRES IN MILLIMETRES: document 01's fix, (1000, −1, 2), under a mark of these two bytes, and (1000, −10, 20). A mark of 6,000 becomes 60,000, `never`
-- stays, and what stands behind the record is left out.
abbrev pub centimetre_record : (low high : ℕ) → List ℕ
centimetre_record low high = 18 ∷ 0 ∷ 0 ∷ 0 ∷ 1 ∷ 0 ∷ low ∷ high ∷ 1 ∷ 0 ∷ 232 ∷ 3 ∷ 0 ∷ 0 ∷ 255 ∷ 255 ∷ 2 ∷ 0 ∷ 7 ∷ 9 ∷ []

abbrev pub millimetre_record : (low high : ℕ) → List ℕ
millimetre_record low high = 22 ∷ 0 ∷ 0 ∷ 0 ∷ 2 ∷ 0 ∷ low ∷ high ∷ 1 ∷ 0 ∷ 232 ∷ 3 ∷ 0 ∷ 0 ∷ 246 ∷ 255 ∷ 255 ∷ 255 ∷ 20 ∷ 0 ∷ 0 ∷ 0 ∷ []

pub tenfold_records_computed : Computes tenfold_record ((centimetre_record 255 255, millimetre_record 255 255) ∷ (centimetre_record 0 0, millimetre_record 0 0) ∷ (centimetre_record 112 23, millimetre_record 96 234) ∷ [])
unfolding tenfold_record tenfold_mark kind_of fix_from fix_at each number_at signed unsigned bytes_of fix_to fix_bytes all_bytes header_bytes record_bytes
tenfold_records_computed = refl

-- the law of it, of each of the three
pub tenfold_rows : Tenfold (centimetre_record 255 255) (tenfold_record (centimetre_record 255 255))
    × Tenfold (centimetre_record 0 0) (tenfold_record (centimetre_record 0 0))
    × Tenfold (centimetre_record 112 23) (tenfold_record (centimetre_record 112 23))
unfolding kind_of all_below first sentence some_outside some_other_silence some_early_after some_early last_of of_ends fix_from fix_at each number_at signed
tenfold_rows = (
  tenfold_never (centimetre_record 255 255) (computed_bytes (centimetre_record 255 255) refl) (record { accepted = refl }) refl refl,
  tenfold_marked (centimetre_record 0 0) (computed_bytes (centimetre_record 0 0) refl) (record { accepted = refl }) refl (omega arith),
  tenfold_marked (centimetre_record 112 23) (computed_bytes (centimetre_record 112 23) refl) (record { accepted = refl }) refl (omega arith),
)
