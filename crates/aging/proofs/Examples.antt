-- THE AGINGS IN NUMBERS. Days and bytes, written out, and what document 01 and document 02's items 5, 6 and 8 say of them: the definitions and the code cannot be
-- changed together without these rows. Each line is computed.
use Rattle.std.specs.Prelude.{◌≡◌, refl, Bool, true, false, List, [], ◌∷◌, ◌++◌, ℕ, ◌*◌, ◌≤◌, pos}
use Rattle.std.proofs.Math.Option.{some}
use Rattle.std.proofs.Common.{arith}
use Rattle.distance.proofs.Examples.{Computes}
use Rattle.distance.specs.Fix.{last_of}
use Rattle.distance.specs.Laws.All.{All, all_none, all_more}
use Rattle.distance.proofs.Laws.All.{all_always}
use Rattle.distance.proofs.Laws.Clock.{computed_stays}
use Rattle.distance.specs.Distance.{deviation, allowance}
use Rattle.format.specs.Bytes.{number_at, bytes_of, signed, unsigned}
use Rattle.format.specs.Kinds.{Kind, trail, millimetre_trail}
use Rattle.format.specs.Format.{kind_of, fixes, fix_from, fix_at, each, fix_to, fix_bytes, all_bytes, header_bytes, record_bytes}
use Rattle.format.specs.Examples.{document_bytes}
use Rattle.format.proofs.Laws.RoundTrip.{all_below, computed_bytes}
use Rattle.record.specs.Checks.{Row, sentence, first, some_bad_row, some_outside, some_other_silence, some_early_after, some_early, of_ends}
use Rattle.record.specs.Answers.{Answer, gives, turns_away}
use Rattle.record.proofs.Examples.{read_rows, on_refused, MovableRow, movable_rows, row, daily}
use Rattle.record.specs.Moved.{moved_record}
use Rattle.record.specs.Tenfold.{tenfold_record, Tenfold}
use Rattle.record.proofs.Laws.Tenfold.{tenfold_never, tenfold_bytes}
use Rattle.table.specs.Table.{last_row, built_in}
use Rattle.table.proofs.Laws.Checking.{no_rows_refused}
use Rattle.table.proofs.Laws.Days.{rows_until}
use Rattle.thinning.specs.Marks.{kept_by}
use Rattle.thinning.specs.Thinning.{sooner, furthest, every, but_last, thin_span, thin, joined, stretches, thin_each, thinning}
use Rattle.aging.specs.Aging.{new_mark, thinned_record, in_unit, Call, by_tolerance, by_days, left_by, answered}
use Rattle.aging.specs.Tenfold.{TenfoldCall, at_ten_times, by_same_days, by_refused_table, both_too_high}
use Rattle.aging.proofs.Laws.Days.{age_alike}
use Rattle.aging.specs.Moved.{AgedAlike}
use Rattle.aging.proofs.Laws.Moved.{aged_moved}
use Rattle.aging.proofs.Laws.Tenfold.{AgedTenfold, aged_tenfold}

-- ---- a hall's own table, whose last row is the greatest that a table may have
abbrev pub hall : List Row
hall = row 14 5 ∷ row 365 32000 ∷ []

-- ---- calls: lent bytes and a call, and then what it answers and the bytes afterwards
abbrev pub CallRow : Type 0
CallRow = (List ℕ × Call) × (Answer ℕ × List ℕ)

-- A refusal leaves the bytes as they were.
abbrev pub refuses : Call → List ℕ → ℕ → CallRow
refuses c b k = ((b, c), (turns_away k, b))

-- The lone fix of document 01's 18 bytes, under a mark of these two bytes.
abbrev pub marked : (low high : ℕ) → List ℕ
marked low high = 18 ∷ 0 ∷ 0 ∷ 0 ∷ 1 ∷ 0 ∷ low ∷ high ∷ 1 ∷ 0 ∷ 232 ∷ 3 ∷ 0 ∷ 0 ∷ 255 ∷ 255 ∷ 2 ∷ 0 ∷ []

abbrev pub call_rows : List CallRow
call_rows =
    -- what the reader refuses both agings refuse, 1 to 9 and 20, and before 10 and 22
    on_refused (refuses (by_tolerance 0)) read_rows
    ++ on_refused (refuses (by_days 7 built_in)) read_rows
    ++ on_refused (refuses (by_tolerance 32001)) read_rows
    ++ on_refused (refuses (by_days 7 [])) read_rows
    -- "Tolerance 32,000 passes, 32,001 is 10.": the lone fix stays, and the mark is 32,000
    ++ ((document_bytes, by_tolerance 32000), (gives 0, marked 0 125))
    ∷ refuses (by_tolerance 32001) document_bytes 10
    -- by days no tolerance is asked: day 1 leaves the record, day 2 marks it 10, the last day 400, and none is turned away
    ∷ ((document_bytes, by_days 1 built_in), (gives 0, document_bytes))
    ∷ ((document_bytes, by_days 2 built_in), (gives 0, marked 10 0))
    ∷ ((document_bytes, by_days 65535 built_in), (gives 0, marked 144 1))
    -- a table of one's own, from its first day on
    ∷ ((document_bytes, by_days 13 hall), (gives 0, document_bytes))
    ∷ ((document_bytes, by_days 14 hall), (gives 0, marked 5 0))
    ∷ ((document_bytes, by_days 65535 hall), (gives 0, marked 0 125))
    -- 22 and 23, "directly after 9 and 20", whatever the day is
    ∷ refuses (by_days 0 []) document_bytes 22
    ∷ refuses (by_days 7 (daily 33)) document_bytes 22
    ∷ refuses (by_days 0 (row 7 25 ∷ row 7 100 ∷ [])) document_bytes 23
    ∷ refuses (by_days 7 (row 7 32001 ∷ [])) document_bytes 23
    -- a mark of 100 stays the greater of 100 and 25
    ∷ ((marked 100 0, by_days 7 built_in), (gives 0, marked 100 0))
    ∷ []

pub calls_computed : Computes (λ (p : List ℕ × Call). (answered p.0 p.1, left_by p.0 p.1)) call_rows
unfolding thinned_record new_mark last_row some_bad_row thinning thin_each stretches joined thin thin_span furthest sooner every but_last last_of deviation allowance first sentence some_outside some_other_silence some_early_after some_early of_ends kind_of fix_from fix_at each number_at signed unsigned bytes_of fix_to fix_bytes all_bytes header_bytes record_bytes
calls_computed = refl

-- ---- kind 2, by its own limits, in millimetres: one fix, under a mark of these two bytes
abbrev pub millimetre_marked : (low high : ℕ) → List ℕ
millimetre_marked low high = 22 ∷ 0 ∷ 0 ∷ 0 ∷ 2 ∷ 0 ∷ low ∷ high ∷ 1 ∷ 0 ∷ 232 ∷ 3 ∷ 0 ∷ 0 ∷ 255 ∷ 255 ∷ 255 ∷ 255 ∷ 2 ∷ 0 ∷ 0 ∷ 0 ∷ []

-- "tolerance and mark up to 60,000": 60,000 passes and 60,001 is 10; "ten times the row": day 2 marks it 100, day 90 and every later one 4,000
abbrev pub millimetre_call_rows : List CallRow
millimetre_call_rows =
    ((millimetre_marked 255 255, by_tolerance 60000), (gives 0, millimetre_marked 96 234))
    ∷ refuses (by_tolerance 60001) (millimetre_marked 255 255) 10
    ∷ ((millimetre_marked 255 255, by_tolerance 32001), (gives 0, millimetre_marked 1 125))
    ∷ ((millimetre_marked 255 255, by_days 1 built_in), (gives 0, millimetre_marked 255 255))
    ∷ ((millimetre_marked 255 255, by_days 2 built_in), (gives 0, millimetre_marked 100 0))
    ∷ ((millimetre_marked 255 255, by_days 65535 built_in), (gives 0, millimetre_marked 160 15))
    -- "the lesser of 60,000 and ten times the row": 50 of a row of 5, and 60,000 of one of 32,000
    ∷ ((millimetre_marked 255 255, by_days 14 hall), (gives 0, millimetre_marked 50 0))
    ∷ ((millimetre_marked 255 255, by_days 365 hall), (gives 0, millimetre_marked 96 234))
    ∷ refuses (by_days 365 (row 0 32001 ∷ [])) (millimetre_marked 255 255) 23
    ∷ []

pub millimetre_calls_computed : Computes (λ (p : List ℕ × Call). (answered p.0 p.1, left_by p.0 p.1)) millimetre_call_rows
unfolding thinned_record new_mark last_row some_bad_row thinning thin_each stretches joined thin thin_span furthest sooner every but_last last_of deviation allowance first sentence some_outside some_other_silence some_early_after some_early of_ends kind_of fix_from fix_at each number_at signed unsigned bytes_of fix_to fix_bytes all_bytes header_bytes record_bytes
millimetre_calls_computed = refl

-- ---- kind 3: six fixes, at x 0, 5, 10 with silence after it, 100, 110 and 120. "each stretch between silences is thinned by itself, the counts added": of either
-- stretch its two ends stay, at any tolerance, each with its byte, and one inner fix is measured in each; as one stretch the trail would keep its two ends alone at
-- tolerance 1,000. What follows the new length is as before.
abbrev pub parted_trail : List ℕ
parted_trail =
    64 ∷ 0 ∷ 0 ∷ 0 ∷ 3 ∷ 0 ∷ 255 ∷ 255 ∷ 6 ∷ 0
    ∷ 0 ∷ 0 ∷ 0 ∷ 0 ∷ 0 ∷ 0 ∷ 0 ∷ 0 ∷ 0
    ∷ 10 ∷ 0 ∷ 0 ∷ 0 ∷ 5 ∷ 0 ∷ 0 ∷ 0 ∷ 0
    ∷ 20 ∷ 0 ∷ 0 ∷ 0 ∷ 10 ∷ 0 ∷ 0 ∷ 0 ∷ 1
    ∷ 30 ∷ 0 ∷ 0 ∷ 0 ∷ 100 ∷ 0 ∷ 0 ∷ 0 ∷ 0
    ∷ 40 ∷ 0 ∷ 0 ∷ 0 ∷ 110 ∷ 0 ∷ 0 ∷ 0 ∷ 0
    ∷ 50 ∷ 0 ∷ 0 ∷ 0 ∷ 120 ∷ 0 ∷ 0 ∷ 0 ∷ 0
    ∷ []

abbrev pub parted_aged : (low high : ℕ) → List ℕ
parted_aged low high =
    46 ∷ 0 ∷ 0 ∷ 0 ∷ 3 ∷ 0 ∷ low ∷ high ∷ 4 ∷ 0
    ∷ 0 ∷ 0 ∷ 0 ∷ 0 ∷ 0 ∷ 0 ∷ 0 ∷ 0 ∷ 0
    ∷ 20 ∷ 0 ∷ 0 ∷ 0 ∷ 10 ∷ 0 ∷ 0 ∷ 0 ∷ 1
    ∷ 30 ∷ 0 ∷ 0 ∷ 0 ∷ 100 ∷ 0 ∷ 0 ∷ 0 ∷ 0
    ∷ 50 ∷ 0 ∷ 0 ∷ 0 ∷ 120 ∷ 0 ∷ 0 ∷ 0 ∷ 0
    ∷ 40 ∷ 0 ∷ 0 ∷ 0 ∷ 110 ∷ 0 ∷ 0 ∷ 0 ∷ 0
    ∷ 50 ∷ 0 ∷ 0 ∷ 0 ∷ 120 ∷ 0 ∷ 0 ∷ 0 ∷ 0
    ∷ []

-- Three fixes with silence after each but the last, under a mark of these two bytes: all stay.
abbrev pub all_silent : (low high : ℕ) → List ℕ
all_silent low high =
    37 ∷ 0 ∷ 0 ∷ 0 ∷ 3 ∷ 0 ∷ low ∷ high ∷ 3 ∷ 0
    ∷ 0 ∷ 0 ∷ 0 ∷ 0 ∷ 0 ∷ 0 ∷ 0 ∷ 0 ∷ 1
    ∷ 10 ∷ 0 ∷ 0 ∷ 0 ∷ 5 ∷ 0 ∷ 0 ∷ 0 ∷ 1
    ∷ 20 ∷ 0 ∷ 0 ∷ 0 ∷ 10 ∷ 0 ∷ 0 ∷ 0 ∷ 0
    ∷ []

abbrev pub silent_call_rows : List CallRow
silent_call_rows =
    ((parted_trail, by_tolerance 0), (gives 2, parted_aged 0 0))
    ∷ ((parted_trail, by_tolerance 1000), (gives 2, parted_aged 232 3))
    ∷ ((parted_trail, by_days 7 built_in), (gives 2, parted_aged 25 0))
    ∷ ((all_silent 255 255, by_tolerance 32000), (gives 0, all_silent 0 125))
    ∷ refuses (by_tolerance 32001) (all_silent 255 255) 10
    ∷ []

pub silent_calls_computed : Computes (λ (p : List ℕ × Call). (answered p.0 p.1, left_by p.0 p.1)) silent_call_rows
unfolding thinned_record new_mark last_row some_bad_row thinning thin_each stretches joined thin thin_span furthest sooner every but_last last_of deviation allowance first sentence some_outside some_other_silence some_early_after some_early of_ends kind_of fix_from fix_at each number_at signed unsigned bytes_of fix_to fix_bytes all_bytes header_bytes record_bytes
silent_calls_computed = refl

-- .. and where the two meet: a row of 6,001 centimetres is above it
pub units_computed : Computes (λ (p : Kind × ℕ). in_unit p.0 (some p.1)) (((trail, 400), some 400) ∷ ((millimetre_trail, 400), some 4000) ∷ ((millimetre_trail, 6000), some 60000) ∷ ((millimetre_trail, 6001), some 60000) ∷ ((millimetre_trail, 32000), some 60000) ∷ [])
units_computed = refl

-- ---- two tables that agree up to day 6 age alike up to it: the built-in one, and one whose second row comes a day later
pub alike_until_6 : (b : List ℕ) (d : ℕ) → d ≤ 6 → (answered b (by_days d built_in) ≡ answered b (by_days d (row 2 10 ∷ row 8 25 ∷ []))) × (left_by b (by_days d built_in) ≡ left_by b (by_days d (row 2 10 ∷ row 8 25 ∷ [])))
unfolding first sentence some_bad_row rows_until
alike_until_6 b d h = age_alike b 6 d built_in (row 2 10 ∷ row 8 25 ∷ []) refl refl refl h

-- ---- the law of a moved clock, of bytes that are accepted and of refused ones
pub movable_aged : All (λ (m : MovableRow). AgedAlike m.by m.buffer (moved_record m.by m.buffer) (by_days 7 built_in)) movable_rows
movable_aged = all_always (λ (m : MovableRow). aged_moved m.by m.buffer m.bytes m.movable (by_days 7 built_in)) movable_rows

-- The trail of document 01's row b, a straight line of three fixes, at 0, 10 and 20 seconds.
abbrev pub straight : List ℕ
straight =
    34 ∷ 0 ∷ 0 ∷ 0 ∷ 1 ∷ 0 ∷ 255 ∷ 255 ∷ 3 ∷ 0
    ∷ 0 ∷ 0 ∷ 0 ∷ 0 ∷ 0 ∷ 0 ∷ 0 ∷ 0
    ∷ 10 ∷ 0 ∷ 0 ∷ 0 ∷ 100 ∷ 0 ∷ 0 ∷ 0
    ∷ 20 ∷ 0 ∷ 0 ∷ 0 ∷ 200 ∷ 0 ∷ 0 ∷ 0
    ∷ []

-- Tolerance 0 keeps the first and the last of them, ..
abbrev pub ends_marked : List Bool
ends_marked = true ∷ false ∷ true ∷ []

pub straight_kept : fixes (left_by straight (by_tolerance 0)) ≡ kept_by ends_marked 0 (fixes straight)
unfolding kept_by thinned_record new_mark thinning thin_each stretches joined thin thin_span furthest sooner every but_last last_of deviation allowance first sentence some_outside some_other_silence some_early_after some_early of_ends kind_of fix_from fix_at each number_at signed unsigned bytes_of fix_to fix_bytes all_bytes header_bytes record_bytes
straight_kept = refl

-- .. and the same positions of the trail moved to the last second of 32 bits.
straight_alike : AgedAlike (pos 4294967275) straight (moved_record (pos 4294967275) straight) (by_tolerance 0)
unfolding kind_of all_below fix_from fix_at each number_at
straight_alike =
    let stays = computed_stays (pos 4294967275) in
    aged_moved (pos 4294967275) straight (computed_bytes straight refl)
    (record { all_stay = (λ h. all_more (stays 0 tt tt) (all_more (stays 10 tt tt) (all_more (stays 20 tt tt) all_none))) }) (by_tolerance 0)

pub straight_moved : fixes (left_by (moved_record (pos 4294967275) straight) (by_tolerance 0)) ≡ kept_by ends_marked 0 (fixes (moved_record (pos 4294967275) straight))
unfolding kind_of first sentence number_at
straight_moved = straight_alike.same_positions refl ends_marked straight_kept

-- ---- CENTIMETRES AND MILLIMETRES: the straight trail in both units, ..
straight_tenfold : Tenfold straight (tenfold_record straight)
unfolding kind_of all_below first sentence some_outside some_other_silence some_early_after some_early last_of of_ends fix_from fix_at each number_at signed
straight_tenfold = tenfold_never straight (computed_bytes straight refl) (record { accepted = refl }) refl refl

straight_aged : {q r : Call} → TenfoldCall q r → AgedTenfold straight (tenfold_record straight) q r
unfolding all_below
straight_aged = aged_tenfold straight (tenfold_record straight) (computed_bytes straight refl) (tenfold_bytes straight) straight_tenfold

pub low_rows : All (λ (r : Row). 10 * r.row_tolerance ≤ millimetre_trail.top) built_in
low_rows = all_more {m = row 2 10} (omega arith) (all_more {m = row 7 25} (omega arith) (all_more {m = row 30 100} (omega arith) (all_more {m = row 90 400} (omega arith) all_none)))

-- .. at the least tolerance and at the greatest that both units have, by days, by a table that both turn away, and at the least tolerance that both do
pub straight_in_millimetres : AgedTenfold straight (tenfold_record straight) (by_tolerance 0) (by_tolerance 0)
    × AgedTenfold straight (tenfold_record straight) (by_tolerance 6000) (by_tolerance 60000)
    × AgedTenfold straight (tenfold_record straight) (by_days 7 built_in) (by_days 7 built_in)
    × AgedTenfold straight (tenfold_record straight) (by_days 7 []) (by_days 7 [])
    × AgedTenfold straight (tenfold_record straight) (by_tolerance 32001) (by_tolerance 60001)
straight_in_millimetres = (straight_aged (at_ten_times {e = 0} (omega arith)), straight_aged (at_ten_times {e = 6000} (omega arith)), straight_aged (by_same_days low_rows), straight_aged (by_refused_table (no_rows_refused [] refl)), straight_aged (both_too_high (omega arith) (omega arith)))

-- the same positions
pub straight_kept_in_millimetres : fixes (left_by (tenfold_record straight) (by_tolerance 0)) ≡ kept_by ends_marked 0 (fixes (tenfold_record straight))
straight_kept_in_millimetres = (straight_aged (at_ten_times {e = 0} (omega arith))).same_positions ends_marked straight_kept
