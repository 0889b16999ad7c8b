-- TRAILS WORKED BY HAND. Document 01: "Fixes as (t, x, y), positions from 0. All twelve are to be shown of the definitions by one shared statement over
-- a list of them". The list is `rows`, the line below the table is `rows_below`; `millimetre_rows` has those of kind 2 and `silence_rows` those of kind 3. The
-- statement is `Holds` of each row, and `worked`, `worked_below`, `worked_in_millimetres` and `worked_with_silences` prove it. Every row speaks of a record's bytes
-- and of the definitions that the contracts of the calls cite.
use Rattle.std.specs.Prelude.{◌≡◌, refl, List, [], ◌∷◌, ◌++◌, map, ℕ, length, take, drop, ℤ, pos}
use Rattle.std.proofs.Math.Option.{Option, some, none}
use Rattle.std.proofs.Common.{arith}
use Rattle.distance.proofs.Examples.{minus}
use Rattle.distance.specs.Fix.{Fix, last_of}
use Rattle.distance.specs.Distance.{deviation, allowance}
use Rattle.distance.specs.Box.{Box, box_with}
use Rattle.distance.specs.Tenfold.{tenfold_fix}
use Rattle.distance.specs.Place.{own}
use Rattle.distance.specs.Silence.{silence_from, in_silence}
use Rattle.distance.specs.Rounding.{half_up, with_sign_of, rounded}
use Rattle.format.specs.Bytes.{number_at, bytes_of, signed, unsigned}
use Rattle.format.specs.Kinds.{Kind, trail, millimetre_trail, silence_trail}
use Rattle.format.specs.Format.{kind_of, never, mark_field, record_length, fixes, fix_from, fix_at, each, fix_to, fix_bytes, all_bytes, header_bytes, record_bytes}
use Rattle.record.specs.Checks.{first, sentence, some_outside, some_other_silence, some_early, some_early_after, of_ends, read_refusal}
use Rattle.record.specs.Answers.{Answer, gives, turns_away, answer, SameAnswer}
use Rattle.writing.specs.Writing.{write_refusal, written}
use Rattle.thinning.specs.Thinning.{sooner, furthest, every, but_last, thin_span, thin, joined, stretches, thin_each, thinning}
use Rattle.aging.specs.Aging.{by_tolerance, left_by, answered, new_mark, thinned_record}
use Rattle.legs.specs.declared.Fraction.{Fraction}
use Rattle.moment.specs.Moment.{Standing, on_leg, moment_from, at_moment, place_answer}
use Rattle.legs.specs.Legs.{later_of, earlier_of, first_of, axis_times, leg_times, leg_first}
use Rattle.crossing.specs.Crossing.{first_from, first_crossing, cross_answer, SameCrossing}
use Rattle.crossing.proofs.Examples.{yes_at}

-- ---- WHAT A ROW ASKS of a trail
pub data Question : Type 0 where
  -- agings at these tolerances, one after the other
  age_at : (tolerances : List ℕ) → Question
  -- its place at a moment
  place_at : (second thousandths : ℕ) → Question
  -- whether it crosses a box in a window
  cross : Box → (start end : ℕ) → Question
  -- whether the writer takes it, and the reader under a mark
  write : Question
  read : (mark : ℕ) → Question

-- ---- WHAT THE DEFINITIONS ANSWER
-- What agings leave: the fixes and the mark that the bytes left say, and the count that the last of them answered.
pub record Left : Type 0 where
  pub kept : List Fix
  pub count : ℕ
  pub mark : ℕ

abbrev pub Reply : Question → Type 0
Reply (age_at es) = Left
Reply (place_at s m) = Standing
Reply (cross box s e) = Option Fraction
Reply write = Unit
Reply (read m) = Unit

-- An output of the record's length, and the trail's record as the writer of a kind puts it down there.
abbrev pub output : Kind → List Fix → List ℕ
output K l = each (λ k. 0) 0 (record_length K (length l))

abbrev pub recorded : Kind → List Fix → List ℕ
recorded K l = written K l (output K l)

-- Each aging gets the buffer as the one before it left it; the first that is turned away is the answer.
abbrev pub unless_refused : Answer ℕ → (ℕ → Answer Left) → Answer Left
unless_refused (gives c) next = next c
unless_refused (turns_away k) next = turns_away k

abbrev pub aged_all : (b : List ℕ) (count : ℕ) (tolerances : List ℕ) → Answer Left
aged_all b count [] = gives (record { kept = fixes b; count = count; mark = mark_field b })
aged_all b count (e ∷ es) = unless_refused (answered b (by_tolerance e)) (λ c. aged_all (left_by b (by_tolerance e)) c es)

-- The reader is asked of the same bytes put down without the writer's checks, since some of these trails the writer turns away.
abbrev pub reply : Kind → List Fix → (q : Question) → Answer (Reply q)
reply K l (age_at es) = aged_all (recorded K l) 0 es
reply K l (place_at s m) = place_answer (recorded K l) s m
reply K l (cross box s e) = cross_answer (recorded K l) s e box
reply K l write = answer (write_refusal K l (output K l)) tt
reply K l (read m) = answer (read_refusal (record_bytes K m l)) tt

-- ---- WHAT THE TABLE GIVES: the positions that are kept, and the count and the mark where it has them
pub record Kept : Type 0 where
  pub positions : List ℕ
  pub count_given : Option ℕ
  pub mark_given : Option ℕ

abbrev pub Entry : Question → Type 0
Entry (age_at es) = Kept
Entry (place_at s m) = Standing
Entry (cross box s e) = Option Fraction
Entry write = Unit
Entry (read m) = Unit

-- A row: the kind of its record, the trail in that kind's unit, what is asked, and what the table gives, or the number of the refusal.
pub data WorkedRow : Type 0 where
  row_of : Kind → List Fix → (q : Question) → Answer (Entry q) → WorkedRow

-- one of document 01, in centimetres, and of document 02 one of item 8, in millimetres, and one of item 5, with silences
abbrev pub row : List Fix → (q : Question) → Answer (Entry q) → WorkedRow
row = row_of trail

abbrev pub millimetre_row : List Fix → (q : Question) → Answer (Entry q) → WorkedRow
millimetre_row = row_of millimetre_trail

abbrev pub silence_row : List Fix → (q : Question) → Answer (Entry q) → WorkedRow
silence_row = row_of silence_trail

-- ---- WHAT A ROW SAYS
-- The fixes of a trail at these positions.
abbrev pub at_positions : List Fix → List ℕ → List Fix
at_positions l [] = []
at_positions l (k ∷ ks) = take 1 (drop k l) ++ at_positions l ks

-- A number is the table's, where the table has one.
abbrev pub Is : ℕ → Option ℕ → Type 0
Is n none = Unit
Is n (some k) = n ≡ k

abbrev pub Agrees : Kind → List Fix → (q : Question) → Reply q → Entry q → Type 0
Agrees K l (age_at es) a g = (a.kept ≡ at_positions l g.positions) × Is a.count g.count_given × Is a.mark g.mark_given
Agrees K l (place_at s m) a g = a ≡ g
Agrees K l (cross box s e) a g = SameCrossing K a g
Agrees K l write a g = Unit
Agrees K l (read m) a g = Unit

abbrev pub Holds : WorkedRow → Type 0
Holds (row_of K l q g) = SameAnswer (Agrees K l q) (reply K l q) g

abbrev pub AllHold : List WorkedRow → Type 0
AllHold [] = Unit
AllHold (r ∷ l) = Holds r × AllHold l

-- ---- how rows are written
-- (t, x, y), where no number is negative
abbrev pub fix : (t x y : ℕ) → Fix
fix t x y = record { t = t; x = pos x; y = pos y; silence = 0 }

-- .. with silence after it
abbrev pub silent_fix : (t x y : ℕ) → Fix
silent_fix t x y = record { t = t; x = pos x; y = pos y; silence = 1 }

abbrev pub keeps : (positions : List ℕ) (count mark : Option ℕ) → Answer Kept
keeps ks c m = gives (record { positions = ks; count_given = c; mark_given = m })

-- x and y over d, and the rounded place
abbrev pub stands_at : (x y d rounded_x rounded_y : ℤ) → Answer Standing
stands_at x y d rx ry = gives (record { exact = record { x = x; y = y; d = d }; rounded_x = rx; rounded_y = ry })

abbrev pub no_crossing : Answer (Option Fraction)
no_crossing = gives none

abbrev pub nothing_refused : Answer Unit
nothing_refused = gives tt

-- the trails that are named in more than one row
abbrev pub trail_c : List Fix
trail_c = fix 0 0 0 ∷ fix 10 30 40 ∷ fix 20 0 0 ∷ []

abbrev pub trail_e : List Fix
trail_e = fix 0 0 0 ∷ fix 10 90 0 ∷ fix 20 100 0 ∷ []

abbrev pub trail_h : List Fix
trail_h = fix 0 0 0 ∷ fix 10 20 0 ∷ fix 20 20 0 ∷ fix 30 0 0 ∷ []

abbrev pub trail_k : List Fix
trail_k = fix 0 0 0 ∷ record { t = 10; x = pos 5; y = minus 5; silence = 0 } ∷ []

abbrev pub image_k : List Fix
image_k = fix 0 0 0 ∷ record { t = 10; x = minus 5; y = pos 5; silence = 0 } ∷ []

abbrev pub trail_l : List Fix
trail_l = fix 0 0 0 ∷ fix 10 100 0 ∷ []

abbrev pub box_l : Box
box_l = box_with (pos 33) (pos 40) (minus 5) (pos 5)

abbrev pub span : ℕ → List Fix
span s = fix 0 0 0 ∷ fix s 0 0 ∷ []

-- ---- THE TABLE, each row below its words
abbrev pub rows : List WorkedRow
rows =
    -- a | (5,1,1), e 0 | all kept, count 0
    row (fix 5 1 1 ∷ []) (age_at (0 ∷ [])) (keeps (0 ∷ []) (some 0) none)
    -- b | (0,0,0) (10,100,0) (20,200,0), e 0 | 0, 2; count 1
    ∷ row (fix 0 0 0 ∷ fix 10 100 0 ∷ fix 20 200 0 ∷ []) (age_at (0 ∷ [])) (keeps (0 ∷ 2 ∷ []) (some 1) none)
    -- c | (0,0,0) (10,30,40) (20,0,0), e 50 | 0, 2; count 1
    ∷ row trail_c (age_at (50 ∷ [])) (keeps (0 ∷ 2 ∷ []) (some 1) none)
    -- d | c, e 49 | all; count 1
    ∷ row trail_c (age_at (49 ∷ [])) (keeps (0 ∷ 1 ∷ 2 ∷ []) (some 1) none)
    -- e | (0,0,0) (10,90,0) (20,100,0), e 39 | all
    ∷ row trail_e (age_at (39 ∷ [])) (keeps (0 ∷ 1 ∷ 2 ∷ []) none none)
    -- f | e's trail, e 40 | 0, 2
    ∷ row trail_e (age_at (40 ∷ [])) (keeps (0 ∷ 2 ∷ []) none none)
    -- g | (0,0,0) (1,0,0) (3,1,0), e 0 | all
    ∷ row (fix 0 0 0 ∷ fix 1 0 0 ∷ fix 3 1 0 ∷ []) (age_at (0 ∷ [])) (keeps (0 ∷ 1 ∷ 2 ∷ []) none none)
    -- h | (0,0,0) (10,20,0) (20,20,0) (30,0,0), e 12 | 0, 1, 3; count 3
    ∷ row trail_h (age_at (12 ∷ [])) (keeps (0 ∷ 1 ∷ 3 ∷ []) (some 3) none)
    -- i | h's trail, 25 then 12 | 0, 3; mark 25
    ∷ row trail_h (age_at (25 ∷ 12 ∷ [])) (keeps (0 ∷ 3 ∷ []) none (some 25))
    -- j | h's trail, 12 then 25 | 0, 3; mark 25
    ∷ row trail_h (age_at (12 ∷ 25 ∷ [])) (keeps (0 ∷ 3 ∷ []) none (some 25))
    -- k | (0,0,0) (10,5,−5), moment 1.000 | 5000 and −5000 over 10000; rounded 1, 0; and document 02, item 1: "Trail k then gives 1 and −1. The fraction
    -- beside it is as before."
    ∷ row trail_k (place_at 1 0) (stands_at (pos 5000) (minus 5000) (pos 10000) (pos 1) (minus 1))
    -- l | (0,0,0) (10,100,0), box x 33..40, y −5..5, window 0..10 | yes, 33/10
    ∷ row trail_l (cross box_l 0 10) (yes_at 33 10)
    ∷ []

-- ---- THE LINE BELOW IT
abbrev pub rows_below : List WorkedRow
rows_below =
    -- "Trail l with window 4..10: yes, 4; with 5..10: no."
    row trail_l (cross box_l 4 10) (yes_at 4 1)
    ∷ row trail_l (cross box_l 5 10) no_crossing
    -- "Tolerance 32,000 passes, 32,001 is 10.", of trail c, whose middle fix then goes
    ∷ row trail_c (age_at (32000 ∷ [])) (keeps (0 ∷ 2 ∷ []) none none)
    ∷ row trail_c (age_at (32001 ∷ [])) (turns_away 10)
    -- "Span 65,535 passes, 65,536 is 9."
    ∷ row (span 65535) write nothing_refused
    ∷ row (span 65535) (read never) nothing_refused
    ∷ row (span 65536) write (turns_away 9)
    ∷ row (span 65536) (read never) (turns_away 9)
    -- "Equal times are 8."
    ∷ row (span 0) write (turns_away 8)
    ∷ row (span 0) (read never) (turns_away 8)
    -- and of "The leg is the first whose end isn't earlier than the moment": at the second fix it is the leg that ends there
    ∷ row (trail_k ++ fix 30 0 0 ∷ []) (place_at 10 0) (stands_at (pos 50000) (minus 50000) (pos 10000) (pos 5) (minus 5))
    -- and of a moment whose thousandths have three different digits, 1.234: 5·1234 over 10,000
    ∷ row trail_k (place_at 1 234) (stands_at (pos 6170) (minus 6170) (pos 10000) (pos 1) (minus 1))
    -- and of document 02's item 1, "rounds halves away from zero": 1.5 and −1.5, and the trail mirrored in x and in y
    ∷ row trail_k (place_at 3 0) (stands_at (pos 15000) (minus 15000) (pos 10000) (pos 2) (minus 2))
    ∷ row image_k (place_at 1 0) (stands_at (minus 5000) (pos 5000) (pos 10000) (minus 1) (pos 1))
    ∷ row image_k (place_at 3 0) (stands_at (minus 15000) (pos 15000) (pos 10000) (minus 2) (pos 2))
    ∷ []

-- ---- MILLIMETRES. Document 02, item 8: kind 2, by its own limits.
abbrev pub tenfold : List Fix → List Fix
tenfold l = map tenfold_fix l

-- from one corner of the places there are to the other and back: the fix in the middle has Nx = 320,000·65,535 and Ny = −Nx, and Nx² + Ny² =
-- 879,582,458,880,000,000,000, which is 47·2⁶⁴ + 12,585,487,415,651,074,048. At 60,000 the allowance is 15,461,410,410,000,000,000: above what one word would have
-- left of that sum.
abbrev pub corners : List Fix
corners = record { t = 0; x = minus 160000; y = pos 160000; silence = 0 } ∷ record { t = 1; x = pos 160000; y = minus 160000; silence = 0 } ∷ record { t = 65535; x = minus 160000; y = pos 160000; silence = 0 } ∷ []

-- of its inner fixes the second is the furthest: (160,000·65,535)² = 25,599,218,755·2³² + 4,125,163,520, and of the first (159,983·65,535)² = 25,593,779,210·2³² +
-- 4,148,952,865, which has the greater low word. Split at the first, the second would go.
abbrev pub words_apart : List Fix
words_apart = fix 0 0 0 ∷ fix 1 159983 0 ∷ fix 2 160000 0 ∷ fix 65535 0 0 ∷ []

abbrev pub millimetre_rows : List WorkedRow
millimetre_rows =
    -- c, d, h, i and j times ten, at ten times the tolerance: the same positions, counts and marks times ten
    millimetre_row (tenfold trail_c) (age_at (500 ∷ [])) (keeps (0 ∷ 2 ∷ []) (some 1) none)
    ∷ millimetre_row (tenfold trail_c) (age_at (499 ∷ [])) (keeps (0 ∷ 1 ∷ 2 ∷ []) (some 1) none)
    ∷ millimetre_row (tenfold trail_h) (age_at (120 ∷ [])) (keeps (0 ∷ 1 ∷ 3 ∷ []) (some 3) none)
    ∷ millimetre_row (tenfold trail_h) (age_at (250 ∷ 120 ∷ [])) (keeps (0 ∷ 3 ∷ []) none (some 250))
    ∷ millimetre_row (tenfold trail_h) (age_at (120 ∷ 250 ∷ [])) (keeps (0 ∷ 3 ∷ []) none (some 250))
    -- k and l: the place times ten over the same denominator, the same time
    ∷ millimetre_row (tenfold trail_k) (place_at 1 0) (stands_at (pos 50000) (minus 50000) (pos 10000) (pos 5) (minus 5))
    ∷ millimetre_row (tenfold trail_l) (cross (box_with (pos 330) (pos 400) (minus 50) (pos 50)) 0 10) (yes_at 33 10)
    -- sums of two words
    ∷ millimetre_row corners (age_at (60000 ∷ [])) (keeps (0 ∷ 1 ∷ 2 ∷ []) (some 1) (some 60000))
    ∷ millimetre_row words_apart (age_at (60000 ∷ [])) (keeps (0 ∷ 1 ∷ 2 ∷ 3 ∷ []) (some 3) none)
    -- "tolerance and mark up to 60,000 or never": 60,000 passes, 60,001 is 10; a mark of 60,000 passes, 60,001 is 6
    ∷ millimetre_row (tenfold trail_c) (age_at (60000 ∷ [])) (keeps (0 ∷ 2 ∷ []) none (some 60000))
    ∷ millimetre_row (tenfold trail_c) (age_at (60001 ∷ [])) (turns_away 10)
    ∷ millimetre_row trail_c (read 60000) nothing_refused
    ∷ millimetre_row trail_c (read 60001) (turns_away 6)
    -- "places −160,000 to 160,000"
    ∷ millimetre_row (record { t = 0; x = pos 160000; y = minus 160000; silence = 0 } ∷ []) write nothing_refused
    ∷ millimetre_row (record { t = 0; x = pos 160001; y = pos 0; silence = 0 } ∷ []) write (turns_away 7)
    ∷ millimetre_row (record { t = 0; x = pos 160000; y = minus 160000; silence = 0 } ∷ []) (read never) nothing_refused
    ∷ millimetre_row (record { t = 0; x = pos 0; y = minus 160001; silence = 0 } ∷ []) (read never) (turns_away 7)
    ∷ []

-- ---- SILENCES. Document 02, item 5: kind 3, with silence where a fix says so.
-- two straight lines with a silence between them, and trails k and l with silence after their first fix
abbrev pub parted : List Fix
parted = fix 0 0 0 ∷ fix 10 100 0 ∷ silent_fix 20 200 0 ∷ fix 30 0 0 ∷ fix 40 100 0 ∷ fix 50 200 0 ∷ []

abbrev pub silent_k : List Fix
silent_k = silent_fix 0 0 0 ∷ record { t = 10; x = pos 5; y = minus 5; silence = 0 } ∷ []

abbrev pub silent_l : List Fix
silent_l = silent_fix 0 0 0 ∷ fix 10 100 0 ∷ []

abbrev pub silence_rows : List WorkedRow
silence_rows =
    -- "both ends of a silence are always kept, and each stretch between silences is thinned by itself, the counts added"
    silence_row parted (age_at (0 ∷ [])) (keeps (0 ∷ 2 ∷ 3 ∷ 5 ∷ []) (some 2) (some 0))
    ∷ silence_row parted (age_at (32000 ∷ [])) (keeps (0 ∷ 2 ∷ 3 ∷ 5 ∷ []) (some 2) (some 32000))
    -- "in demand 3's lists too": h's trail with silence in its midst, where every stretch has its two ends alone, and without, as of kind 1
    ∷ silence_row (fix 0 0 0 ∷ silent_fix 10 20 0 ∷ fix 20 20 0 ∷ fix 30 0 0 ∷ []) (age_at (25 ∷ 12 ∷ [])) (keeps (0 ∷ 1 ∷ 2 ∷ 3 ∷ []) (some 0) (some 25))
    ∷ silence_row trail_h (age_at (25 ∷ 12 ∷ [])) (keeps (0 ∷ 3 ∷ []) none (some 25))
    -- 21 "if the moment is strictly inside a silence", and not at its two ends
    ∷ silence_row silent_k (place_at 1 0) (turns_away 21)
    ∷ silence_row silent_k (place_at 0 0) (stands_at (pos 0) (pos 0) (pos 10000) (pos 0) (pos 0))
    ∷ silence_row silent_k (place_at 10 0) (stands_at (pos 50000) (minus 50000) (pos 10000) (pos 5) (minus 5))
    -- "For crossings [..] only the two ends of a silent leg count."
    ∷ silence_row silent_l (cross box_l 0 10) no_crossing
    ∷ silence_row silent_l (cross (box_with (pos 0) (pos 40) (minus 5) (pos 5)) 0 10) (yes_at 0 1)
    ∷ silence_row silent_l (cross (box_with (pos 33) (pos 100) (minus 5) (pos 5)) 0 10) (yes_at 10 1)
    ∷ silence_row silent_l (cross (box_with (pos 0) (pos 100) (minus 5) (pos 5)) 1 9) no_crossing
    -- 20 "if a silence byte is neither 0 nor 1 or the last fix has 1"
    ∷ silence_row (record { t = 0; x = pos 0; y = pos 0; silence = 2 } ∷ fix 1 0 0 ∷ []) write (turns_away 20)
    ∷ silence_row (record { t = 0; x = pos 0; y = pos 0; silence = 2 } ∷ fix 1 0 0 ∷ []) (read never) (turns_away 20)
    ∷ silence_row (fix 0 0 0 ∷ silent_fix 1 0 0 ∷ []) write (turns_away 20)
    ∷ silence_row (fix 0 0 0 ∷ silent_fix 1 0 0 ∷ []) (read never) (turns_away 20)
    -- "directly after 9"
    ∷ silence_row (silent_fix 0 0 0 ∷ silent_fix 65536 0 0 ∷ []) (read never) (turns_away 9)
    ∷ silence_row (silent_fix 0 0 0 ∷ fix 65535 0 0 ∷ []) write nothing_refused
    ∷ []

-- ---- all by computation, row by row
infixr 20 ◌and◌
◌and◌ : {A B : Type 0} → A → B → A × B
a and b = (a, b)

pub worked : AllHold rows
unfolding thinned_record new_mark thinning thin_each stretches joined thin thin_span furthest sooner every but_last last_of deviation allowance first sentence some_outside some_other_silence some_early_after some_early of_ends kind_of fix_from fix_at each number_at signed unsigned bytes_of fix_to fix_bytes all_bytes header_bytes record_bytes in_silence silence_from at_moment moment_from on_leg own rounded with_sign_of half_up first_crossing first_from leg_first leg_times axis_times first_of later_of earlier_of
worked =
    (refl, refl, tt)
    and (refl, refl, tt)
    and (refl, refl, tt)
    and (refl, refl, tt)
    and (refl, tt, tt)
    and (refl, tt, tt)
    and (refl, tt, tt)
    and (refl, refl, tt)
    and (refl, tt, refl)
    and (refl, tt, refl)
    and refl
    and record { same_value = refl; at_least = omega arith; at_most = omega arith }
    and tt

pub worked_below : AllHold rows_below
unfolding thinned_record new_mark thinning thin_each stretches joined thin thin_span furthest sooner every but_last last_of deviation allowance first sentence some_outside some_other_silence some_early_after some_early of_ends kind_of fix_from fix_at each number_at signed unsigned bytes_of fix_to fix_bytes all_bytes header_bytes record_bytes in_silence silence_from at_moment moment_from on_leg own rounded with_sign_of half_up first_crossing first_from leg_first leg_times axis_times first_of later_of earlier_of
worked_below =
    record { same_value = refl; at_least = omega arith; at_most = omega arith }
    and tt
    and (refl, tt, tt)
    and refl
    and tt
    and tt
    and refl
    and refl
    and refl
    and refl
    and refl
    and refl
    and refl
    and refl
    and refl
    and tt

pub worked_in_millimetres : AllHold millimetre_rows
unfolding thinned_record new_mark thinning thin_each stretches joined thin thin_span furthest sooner every but_last last_of deviation allowance first sentence some_outside some_other_silence some_early_after some_early of_ends kind_of fix_from fix_at each number_at signed unsigned bytes_of fix_to fix_bytes all_bytes header_bytes record_bytes in_silence silence_from at_moment moment_from on_leg own rounded with_sign_of half_up first_crossing first_from leg_first leg_times axis_times first_of later_of earlier_of
worked_in_millimetres =
    (refl, refl, tt)
    and (refl, refl, tt)
    and (refl, refl, tt)
    and (refl, tt, refl)
    and (refl, tt, refl)
    and refl
    and record { same_value = refl; at_least = omega arith; at_most = omega arith }
    and (refl, refl, refl)
    and (refl, refl, tt)
    and (refl, tt, refl)
    and refl
    and tt
    and refl
    and tt
    and refl
    and tt
    and refl
    and tt

pub worked_with_silences : AllHold silence_rows
unfolding thinned_record new_mark thinning thin_each stretches joined thin thin_span furthest sooner every but_last last_of deviation allowance first sentence some_outside some_other_silence some_early_after some_early of_ends kind_of fix_from fix_at each number_at signed unsigned bytes_of fix_to fix_bytes all_bytes header_bytes record_bytes in_silence silence_from at_moment moment_from on_leg own rounded with_sign_of half_up first_crossing first_from leg_first leg_times axis_times first_of later_of earlier_of
worked_with_silences =
    (refl, refl, refl)
    and (refl, refl, refl)
    and (refl, refl, refl)
    and (refl, tt, refl)
    and refl
    and refl
    and refl
    and tt
    and record { same_value = refl; at_least = omega arith; at_most = omega arith }
    and record { same_value = refl; at_least = omega arith; at_most = omega arith }
    and tt
    and refl
    and refl
    and refl
    and refl
    and refl
    and tt
    and tt
