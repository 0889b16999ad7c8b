-- The claim on one buffer: the trail of document 01's rows h to j, never thinned, with two bytes after it. No hypothesis of the claim is empty, and
-- each list leaves what those rows say; of the trail of row b too.
use Rattle.std.specs.Prelude.{◌≡◌, refl, List, [], ◌∷◌, ◌++◌, ℕ, ◌*◌, pos}
use Rattle.std.proofs.Math.Option.{Option, some, none}
use Rattle.std.proofs.Common.{arith}
use Rattle.distance.proofs.Examples.{Computes}
use Rattle.distance.specs.Distance.{deviation, allowance}
use Rattle.distance.specs.Box.{Box, box_with}
use Rattle.distance.specs.Tenfold.{tenfold_box}
use Rattle.distance.specs.Clock.{moved}
use Rattle.distance.specs.Laws.All.{All, all_none, all_more}
use Rattle.distance.proofs.Laws.All.{all_always}
use Rattle.format.specs.Bytes.{number_at, bytes_of, signed, unsigned}
use Rattle.format.specs.Format.{kind_of, never, mark_field, fix_from, fix_at, each, fix_to, fix_bytes, all_bytes, header_bytes, record_bytes}
use Rattle.record.specs.Checks.{IsAccepted, sentence, first, some_bad_row, some_outside, some_other_silence, some_early_after, some_early, of_ends}
use Rattle.record.specs.Answers.{Answer, gives, turns_away}
use Rattle.format.proofs.Laws.RoundTrip.{AreBytes, all_below, computed_bytes}
use Rattle.thinning.specs.Thinning.{sooner, furthest, every, but_last, thin_span, thin, joined, stretches, thin_each, thinning}
use Rattle.aging.proofs.Examples.{straight, parted_trail, parted_aged, low_rows}
use Rattle.aging.specs.Aging.{Call, by_tolerance, by_days, applies, new_mark, thinned_record}
use Rattle.aging.specs.Tenfold.{at_ten_times, by_same_days, both_too_high}
use Rattle.table.specs.Table.{last_row, built_in}
use Rattle.table.specs.Answers.{table_of}
use Rattle.table.proofs.Examples.{built_in_numbers, own_numbers, full, full_held}
use Rattle.legs.specs.declared.Fraction.{Fraction}
use Rattle.crossing.specs.Crossing.{first_crossing, first_from, cross_answer}
use Rattle.approach.specs.declared.Approach.{Approach}
use Rattle.approach.specs.Approach.{heard_part, silent_part, near_part, leg_near, near_from, first_near, near_answer}
use Rattle.approach.specs.Tenfold.{tenfold_point}
use Rattle.legs.specs.Legs.{leg_first, leg_times, axis_times, first_of, later_of, earlier_of}
use Rattle.record.proofs.Examples.{MovableRow, movable_rows, row}
use Rattle.record.specs.Moved.{moved_record}
use Rattle.record.specs.Tenfold.{tenfold_mark, tenfold_record}
use Rattle.questions.specs.Agings.{new_book, fed_all, fed, greater, counts_as, run, answer_then, left_then, after_answer, near_after_answer, near_left_after, call_of, calls_of}
use Rattle.questions.specs.Claim.{book, bound_after, Claim}
use Rattle.questions.specs.Tenfold.{TenfoldCalls, no_calls, and_then, all_answered, TenfoldClaim}
use Rattle.questions.proofs.Laws.Moved.{after_answer_moved, near_after_moved}
use Rattle.questions.proofs.Laws.Calls.{tolerance_16, days_16, Lent, numbers_of}
use Rattle.questions.proofs.Laws.Claim.{claim}
use Rattle.questions.proofs.Laws.Tenfold.{made_tenfold}
use Rattle.distance.specs.Fix.{last_of}
use Rattle.distance.specs.Place.{Point, point_at}

abbrev pub lent : List ℕ
lent =
    42 ∷ 0 ∷ 0 ∷ 0 ∷ 1 ∷ 0 ∷ 255 ∷ 255 ∷ 4 ∷ 0
    ∷ 0 ∷ 0 ∷ 0 ∷ 0 ∷ 0 ∷ 0 ∷ 0 ∷ 0
    ∷ 10 ∷ 0 ∷ 0 ∷ 0 ∷ 20 ∷ 0 ∷ 0 ∷ 0
    ∷ 20 ∷ 0 ∷ 0 ∷ 0 ∷ 20 ∷ 0 ∷ 0 ∷ 0
    ∷ 30 ∷ 0 ∷ 0 ∷ 0 ∷ 0 ∷ 0 ∷ 0 ∷ 0
    ∷ 7 ∷ 9 ∷ []

-- the same after thinning at 25: the first and the last fix, marked 25; each call leaves the bytes from its new length on as they were before it,
-- and a call that thins at 12 in between closes three fixes up
abbrev pub two_fixes : List ℕ → List ℕ
two_fixes rest = 26 ∷ 0 ∷ 0 ∷ 0 ∷ 1 ∷ 0 ∷ 25 ∷ 0 ∷ 2 ∷ 0 ∷ 0 ∷ 0 ∷ 0 ∷ 0 ∷ 0 ∷ 0 ∷ 0 ∷ 0 ∷ 30 ∷ 0 ∷ 0 ∷ 0 ∷ 0 ∷ 0 ∷ 0 ∷ 0 ∷ rest

abbrev pub old_rest : List ℕ
old_rest = 30 ∷ 0 ∷ 0 ∷ 0 ∷ 0 ∷ 0 ∷ 0 ∷ 0 ∷ 7 ∷ 9 ∷ []

abbrev pub left_at_25 : List ℕ
left_at_25 = two_fixes (20 ∷ 0 ∷ 0 ∷ 0 ∷ 20 ∷ 0 ∷ 0 ∷ 0 ∷ old_rest)

abbrev pub left_at_12_and_25 : List ℕ
left_at_12_and_25 = two_fixes (30 ∷ 0 ∷ 0 ∷ 0 ∷ 0 ∷ 0 ∷ 0 ∷ 0 ∷ old_rest)

-- the straight trail after thinning at 0: the bytes from the new length on are as they were
abbrev pub straight_at_0 : List ℕ
straight_at_0 =
    26 ∷ 0 ∷ 0 ∷ 0 ∷ 1 ∷ 0 ∷ 0 ∷ 0 ∷ 2 ∷ 0
    ∷ 0 ∷ 0 ∷ 0 ∷ 0 ∷ 0 ∷ 0 ∷ 0 ∷ 0
    ∷ 20 ∷ 0 ∷ 0 ∷ 0 ∷ 200 ∷ 0 ∷ 0 ∷ 0
    ∷ 20 ∷ 0 ∷ 0 ∷ 0 ∷ 200 ∷ 0 ∷ 0 ∷ 0
    ∷ []

-- the first trail in millimetres, (0,0,0) (10,200,0) (20,200,0) (30,0,0), and what thinning at 32,001 leaves of it: the first fix and the last, marked so
abbrev pub lent_in_kind_2 : List ℕ
lent_in_kind_2 =
    58 ∷ 0 ∷ 0 ∷ 0 ∷ 2 ∷ 0 ∷ 255 ∷ 255 ∷ 4 ∷ 0
    ∷ 0 ∷ 0 ∷ 0 ∷ 0 ∷ 0 ∷ 0 ∷ 0 ∷ 0 ∷ 0 ∷ 0 ∷ 0 ∷ 0
    ∷ 10 ∷ 0 ∷ 0 ∷ 0 ∷ 200 ∷ 0 ∷ 0 ∷ 0 ∷ 0 ∷ 0 ∷ 0 ∷ 0
    ∷ 20 ∷ 0 ∷ 0 ∷ 0 ∷ 200 ∷ 0 ∷ 0 ∷ 0 ∷ 0 ∷ 0 ∷ 0 ∷ 0
    ∷ 30 ∷ 0 ∷ 0 ∷ 0 ∷ 0 ∷ 0 ∷ 0 ∷ 0 ∷ 0 ∷ 0 ∷ 0 ∷ 0
    ∷ 7 ∷ 9 ∷ []

abbrev pub left_at_32001 : List ℕ
left_at_32001 =
    34 ∷ 0 ∷ 0 ∷ 0 ∷ 2 ∷ 0 ∷ 1 ∷ 125 ∷ 2 ∷ 0
    ∷ 0 ∷ 0 ∷ 0 ∷ 0 ∷ 0 ∷ 0 ∷ 0 ∷ 0 ∷ 0 ∷ 0 ∷ 0 ∷ 0
    ∷ 30 ∷ 0 ∷ 0 ∷ 0 ∷ 0 ∷ 0 ∷ 0 ∷ 0 ∷ 0 ∷ 0 ∷ 0 ∷ 0
    ∷ 20 ∷ 0 ∷ 0 ∷ 0 ∷ 200 ∷ 0 ∷ 0 ∷ 0 ∷ 0 ∷ 0 ∷ 0 ∷ 0
    ∷ 30 ∷ 0 ∷ 0 ∷ 0 ∷ 0 ∷ 0 ∷ 0 ∷ 0 ∷ 0 ∷ 0 ∷ 0 ∷ 0
    ∷ 7 ∷ 9 ∷ []

-- The first trail with silence after its second fix, of kind 3. Its stretches have two fixes each, so that no tolerance drops any; behind the record stand 7 and 9.
abbrev pub lent_in_kind_3 : (low high : ℕ) → List ℕ
lent_in_kind_3 low high =
    46 ∷ 0 ∷ 0 ∷ 0 ∷ 3 ∷ 0 ∷ low ∷ high ∷ 4 ∷ 0
    ∷ 0 ∷ 0 ∷ 0 ∷ 0 ∷ 0 ∷ 0 ∷ 0 ∷ 0 ∷ 0
    ∷ 10 ∷ 0 ∷ 0 ∷ 0 ∷ 20 ∷ 0 ∷ 0 ∷ 0 ∷ 1
    ∷ 20 ∷ 0 ∷ 0 ∷ 0 ∷ 20 ∷ 0 ∷ 0 ∷ 0 ∷ 0
    ∷ 30 ∷ 0 ∷ 0 ∷ 0 ∷ 0 ∷ 0 ∷ 0 ∷ 0 ∷ 0
    ∷ 7 ∷ 9 ∷ []

-- ---- what the claim asks
pub lent_accepted : IsAccepted lent
unfolding first sentence some_outside some_other_silence some_early_after some_early last_of of_ends kind_of fix_from fix_at each number_at signed
lent_accepted = record { accepted = refl }

pub lent_bytes : AreBytes lent
unfolding all_below
lent_bytes = computed_bytes lent refl

pub lent_never : mark_field lent ≡ never
unfolding number_at
lent_never = refl

-- ---- the claim holds of every list of calls on it
pub on_lent : (calls : List Call) → Claim lent calls
on_lent calls = claim lent calls lent_bytes lent_accepted lent_never

-- .. and on the record of kind 2
pub on_kind_2 : (calls : List Call) → Claim lent_in_kind_2 calls
unfolding all_below first sentence some_outside some_other_silence some_early_after some_early last_of of_ends kind_of fix_from fix_at each number_at signed
on_kind_2 calls = claim lent_in_kind_2 calls (computed_bytes lent_in_kind_2 refl) (record { accepted = refl }) refl

-- .. and on the record of kind 3
pub on_kind_3 : (calls : List Call) → Claim (lent_in_kind_3 255 255) calls
unfolding all_below first sentence some_outside some_other_silence some_early_after some_early last_of of_ends kind_of fix_from fix_at each number_at signed
on_kind_3 calls = claim (lent_in_kind_3 255 255) calls (computed_bytes (lent_in_kind_3 255 255) refl) (record { accepted = refl }) refl

-- A buffer, the calls on it, and the bytes that they leave.
pub record Example : Type 0 where
  pub buffer : List ℕ
  pub calls : List Call
  pub bytes : List ℕ

abbrev pub cases : List Example
cases =
    record { buffer = lent; calls = []; bytes = lent }
    -- refused: 32,001 is above 32,000
    ∷ record { buffer = lent; calls = by_tolerance 32001 ∷ []; bytes = lent }
    ∷ record { buffer = lent; calls = by_tolerance 25 ∷ by_tolerance 12 ∷ []; bytes = left_at_25 }
    ∷ record { buffer = lent; calls = by_tolerance 12 ∷ by_tolerance 25 ∷ []; bytes = left_at_12_and_25 }
    -- days 0 and 1 leave the record, day 7 thins at 25
    ∷ record { buffer = lent; calls = by_days 1 built_in ∷ []; bytes = lent }
    ∷ record { buffer = lent; calls = by_days 7 built_in ∷ by_tolerance 65535 ∷ by_days 2 built_in ∷ []; bytes = left_at_25 }
    -- "each call may have another" table: of a table of one's own, and then the built-in one; between them two are turned away, and leave E and every byte
    ∷ record { buffer = lent; calls = by_days 7 (row 7 12 ∷ []) ∷ by_days 7 [] ∷ by_days 7 (row 7 25 ∷ row 7 400 ∷ []) ∷ by_days 7 built_in ∷ []; bytes = left_at_12_and_25 }
    -- E 0 is not E none, though both count as 0 for the bound: the fix in the middle of a straight line goes, and the mark is 0
    ∷ record { buffer = straight; calls = by_days 1 built_in ∷ []; bytes = straight }
    ∷ record { buffer = straight; calls = by_tolerance 0 ∷ []; bytes = straight_at_0 }
    -- of kind 2, 60,001 is refused and 32,001 is not; day 7 thins at 250, which the mark stays above
    ∷ record { buffer = lent_in_kind_2; calls = by_tolerance 60001 ∷ []; bytes = lent_in_kind_2 }
    ∷ record { buffer = lent_in_kind_2; calls = by_tolerance 32001 ∷ by_days 7 built_in ∷ []; bytes = left_at_32001 }
    -- of kind 3 each stretch is thinned by itself, at 25 and after it at 12 too, and 32,001 is refused
    ∷ record { buffer = lent_in_kind_3 255 255; calls = by_tolerance 25 ∷ by_tolerance 32001 ∷ by_tolerance 12 ∷ []; bytes = lent_in_kind_3 25 0 }
    ∷ record { buffer = parted_trail; calls = by_tolerance 0 ∷ by_days 7 built_in ∷ []; bytes = parted_aged 25 0 }
    ∷ []

abbrev pub computed : List Example → List (List ℕ)
computed [] = []
computed (r ∷ l) = run r.buffer r.calls ∷ computed l

abbrev pub expected : List Example → List (List ℕ)
expected [] = []
expected (r ∷ l) = r.bytes ∷ expected l

pub examples : computed cases ≡ expected cases
unfolding run thinned_record new_mark last_row some_bad_row thinning thin_each stretches joined thin thin_span furthest sooner every but_last last_of deviation allowance first sentence some_outside some_other_silence some_early_after some_early of_ends kind_of fix_from fix_at each number_at signed unsigned bytes_of fix_to fix_bytes all_bytes header_bytes record_bytes
examples = refl

-- ---- E and the bound that it counts as, each in the record's unit: of a buffer and the calls on it
abbrev pub E_rows : List ((List ℕ × List Call) × (Option ℕ × ℕ))
E_rows =
    ((lent, []), (none, 0))
    -- a call that is turned away leaves E, and so do days that apply no tolerance; 0 is a tolerance
    ∷ ((lent, by_tolerance 32001 ∷ []), (none, 0))
    ∷ ((lent, by_days 1 built_in ∷ []), (none, 0))
    ∷ ((lent, by_tolerance 0 ∷ []), (some 0, 0))
    ∷ ((lent, by_tolerance 32000 ∷ []), (some 32000, 32000))
    -- "the greater of E and e", in either order, and not their sum
    ∷ ((lent, by_tolerance 25 ∷ by_tolerance 12 ∷ []), (some 25, 25))
    ∷ ((lent, by_tolerance 12 ∷ by_tolerance 25 ∷ []), (some 25, 25))
    -- by a table of one's own, by one without rows and one whose days don't rise, which are turned away, at 32,001, on day 1 and at 0
    ∷ ((lent, by_days 7 (row 7 12 ∷ []) ∷ by_days 7 [] ∷ by_days 7 (row 7 25 ∷ row 7 400 ∷ []) ∷ by_tolerance 32001 ∷ by_days 1 built_in ∷ by_tolerance 0 ∷ []), (some 12, 12))
    -- of kind 2 in millimetres: day 7 gives 250, 32,001 is applied and 60,001 isn't
    ∷ ((lent_in_kind_2, by_days 7 built_in ∷ []), (some 250, 250))
    ∷ ((lent_in_kind_2, by_tolerance 32001 ∷ by_tolerance 60001 ∷ by_days 90 built_in ∷ []), (some 32001, 32001))
    -- of kind 3 as of kind 1
    ∷ ((lent_in_kind_3 255 255, by_days 7 built_in ∷ by_tolerance 32001 ∷ []), (some 25, 25))
    ∷ []

pub E_computed : Computes (λ (p : List ℕ × List Call). ((book p.0 p.1).E, bound_after p.0 p.1)) E_rows
unfolding new_book fed_all fed greater counts_as applies last_row some_bad_row first sentence kind_of number_at
E_computed = refl

-- ---- calls as numbers: a tolerance; day 7 by the first table that is lent, the built-in one, as of old; by the second; and by a third, which isn't lent
pub numbered_calls_computed : calls_of (built_in_numbers ++ own_numbers) (25 ∷ 65543 ∷ 131079 ∷ 196615 ∷ []) ≡ by_tolerance 25 ∷ by_days 7 built_in ∷ by_days 7 (row 7 12 ∷ []) ∷ by_days 7 [] ∷ []
unfolding calls_of call_of each
numbered_calls_computed = refl

-- and numbers of calls: an aging at the highest tolerance of 16 bits, which is turned away, and two by a table with a row and by one whose count says 40
pub calls_have_numbers : Lent [] (by_tolerance 65535 ∷ by_days 7 (table_of (full 1)) ∷ by_days 65535 (table_of (full 40)) ∷ [])
calls_have_numbers =
    numbers_of
    (all_more (tolerance_16 {e = 65535} (omega arith))
    (all_more (days_16 {d = 7} (omega arith) (full 1) (full_held 1 (omega arith))) (all_more (days_16 {d = 65535} (omega arith) (full 40) (full_held 40 (omega arith))) all_none))) (omega arith)

-- ---- the crossing on it: the original reaches x = 20, what is left at 25 does not
abbrev pub shelf : Box
shelf = box_with (pos 10) (pos 20) (pos 0) (pos 0)

abbrev pub answers : List (Answer (Option Fraction))
answers = cross_answer lent 0 30 shelf ∷ cross_answer left_at_25 0 30 shelf ∷ cross_answer lent 0 31 shelf
    ∷ cross_answer lent_in_kind_2 0 30 (tenfold_box shelf) ∷ cross_answer left_at_32001 0 30 (tenfold_box shelf) ∷ []

pub crossings : answers ≡ gives (some (record { num = 100; den = 20 })) ∷ gives none ∷ turns_away 13
    ∷ gives (some (record { num = 1000; den = 200 })) ∷ gives none ∷ []
unfolding first sentence some_outside some_other_silence some_early_after some_early last_of of_ends kind_of fix_from fix_at each number_at signed first_crossing first_from leg_first leg_times axis_times first_of later_of earlier_of
crossings = refl

-- ---- and radius questions: the cart was at (20, 0) after 10 seconds. Thinning at 25 leaves a trail at rest, 20 from there: a no at 19 says nothing of the original,
-- since 19 is below 25, and a yes at 20 that the original was then within 45
abbrev pub near_answers : List (Answer (Option Approach))
near_answers = near_answer lent (point_at (pos 20) (pos 0)) 0 ∷ near_answer left_at_25 (point_at (pos 20) (pos 0)) 19 ∷ near_answer left_at_25 (point_at (pos 20) (pos 0)) 20
    ∷ near_answer lent (point_at (pos 16001) (pos 0)) 0 ∷ near_answer lent_in_kind_2 (point_at (pos 200) (pos 0)) 0 ∷ near_answer left_at_32001 (point_at (pos 200) (pos 0)) 199
    ∷ near_answer (lent_in_kind_3 25 0) (point_at (pos 20) (pos 0)) 0 ∷ []

pub approaches : near_answers ≡ gives (some (record { leg = 0; num = 10; den = 1 })) ∷ gives none ∷ gives (some (record { leg = 0; num = 0; den = 1 }))
    ∷ turns_away 16 ∷ gives (some (record { leg = 0; num = 10; den = 1 })) ∷ gives none
    ∷ gives (some (record { leg = 0; num = 10; den = 1 })) ∷ []
unfolding first sentence some_outside some_other_silence some_early_after some_early last_of of_ends kind_of fix_from fix_at each number_at signed first_near near_from leg_near near_part heard_part silent_part
approaches = refl

-- .. and with the list, in one call: a point that is turned away leaves the list unmade
pub approaches_after : (near_after_answer lent (by_tolerance 25 ∷ []) (point_at (pos 20) (pos 0)) 20 ≡ gives (some (record { leg = 0; num = 0; den = 1 })))
    × (near_left_after lent (by_tolerance 25 ∷ []) (point_at (pos 20) (pos 0)) 20 ≡ left_at_25)
    × (near_after_answer lent (by_tolerance 25 ∷ []) (point_at (pos 16001) (pos 0)) 20 ≡ turns_away 16)
    × (near_left_after lent (by_tolerance 25 ∷ []) (point_at (pos 16001) (pos 0)) 20 ≡ lent)
unfolding answer_then left_then run thinned_record new_mark last_row thinning thin_each stretches joined thin thin_span furthest sooner every but_last last_of deviation allowance first sentence some_bad_row some_outside some_other_silence some_early_after some_early of_ends kind_of fix_from fix_at each number_at signed unsigned bytes_of fix_to fix_bytes all_bytes header_bytes record_bytes first_near near_from leg_near near_part heard_part silent_part
approaches_after = (refl, refl, refl, refl)

-- ---- the law of a moved clock and a list, of bytes that are accepted and of refused ones
pub movable_after : All (λ (m : MovableRow). after_answer (moved_record m.by m.buffer) (by_days 7 built_in ∷ by_tolerance 32001 ∷ []) (moved m.by m.asked) (moved m.by m.asked) shelf
    ≡ after_answer m.buffer (by_days 7 built_in ∷ by_tolerance 32001 ∷ []) m.asked m.asked shelf) movable_rows
movable_after = all_always (λ (m : MovableRow). after_answer_moved m.by m.buffer (by_days 7 built_in ∷ by_tolerance 32001 ∷ []) m.bytes m.movable m.asked m.asked shelf m.asked_stays m.asked_stays) movable_rows

pub movable_near_after : All (λ (m : MovableRow). near_after_answer (moved_record m.by m.buffer) (by_days 7 built_in ∷ by_tolerance 32001 ∷ []) (point_at (pos 3) (pos 4)) 5
    ≡ near_after_answer m.buffer (by_days 7 built_in ∷ by_tolerance 32001 ∷ []) (point_at (pos 3) (pos 4)) 5) movable_rows
movable_near_after = all_always (λ (m : MovableRow). near_after_moved m.by m.buffer (by_days 7 built_in ∷ by_tolerance 32001 ∷ []) m.bytes m.movable (point_at (pos 3) (pos 4)) 5) movable_rows

-- ---- CENTIMETRES AND MILLIMETRES: the buffer above, and its trail in millimetres. The claim holds of every two lists of the same agings, such as these: at 12 and
-- 120, at a tolerance that each turns away, by days, which is at 25 and 250, and at the greatest that both have.
pub lent_in_millimetres : {calls tens : List Call} → TenfoldCalls calls tens → TenfoldClaim lent (tenfold_record lent) calls tens
unfolding kind_of number_at
lent_in_millimetres k = made_tenfold lent lent_bytes lent_accepted refl lent_never k

pub same_agings : TenfoldCalls (by_tolerance 12 ∷ by_tolerance 32001 ∷ by_days 7 built_in ∷ by_tolerance 6000 ∷ []) (by_tolerance 120 ∷ by_tolerance 60001 ∷ by_days 7 built_in ∷ by_tolerance 60000 ∷ [])
same_agings = and_then (at_ten_times {e = 12} (omega arith)) (and_then (both_too_high {e = 32001} {d = 60001} (omega arith) (omega arith)) (and_then (by_same_days low_rows) (and_then (at_ten_times {e = 6000} (omega arith)) no_calls)))

-- In numbers: at 120 the first, the second and the last fix stay, as at 12, and by days of those the first and the last, under a mark of 250. (0, 20 and 0
-- centimetres are 0, 200 and 0 millimetres.)
abbrev pub millimetres_at_120 : List ℕ
millimetres_at_120 =
    46 ∷ 0 ∷ 0 ∷ 0 ∷ 2 ∷ 0 ∷ 120 ∷ 0 ∷ 3 ∷ 0
    ∷ 0 ∷ 0 ∷ 0 ∷ 0 ∷ 0 ∷ 0 ∷ 0 ∷ 0 ∷ 0 ∷ 0 ∷ 0 ∷ 0
    ∷ 10 ∷ 0 ∷ 0 ∷ 0 ∷ 200 ∷ 0 ∷ 0 ∷ 0 ∷ 0 ∷ 0 ∷ 0 ∷ 0
    ∷ 30 ∷ 0 ∷ 0 ∷ 0 ∷ 0 ∷ 0 ∷ 0 ∷ 0 ∷ 0 ∷ 0 ∷ 0 ∷ 0
    ∷ 30 ∷ 0 ∷ 0 ∷ 0 ∷ 0 ∷ 0 ∷ 0 ∷ 0 ∷ 0 ∷ 0 ∷ 0 ∷ 0
    ∷ []

abbrev pub millimetres_at_120_and_250 : List ℕ
millimetres_at_120_and_250 =
    34 ∷ 0 ∷ 0 ∷ 0 ∷ 2 ∷ 0 ∷ 250 ∷ 0 ∷ 2 ∷ 0
    ∷ 0 ∷ 0 ∷ 0 ∷ 0 ∷ 0 ∷ 0 ∷ 0 ∷ 0 ∷ 0 ∷ 0 ∷ 0 ∷ 0
    ∷ 30 ∷ 0 ∷ 0 ∷ 0 ∷ 0 ∷ 0 ∷ 0 ∷ 0 ∷ 0 ∷ 0 ∷ 0 ∷ 0
    ∷ 30 ∷ 0 ∷ 0 ∷ 0 ∷ 0 ∷ 0 ∷ 0 ∷ 0 ∷ 0 ∷ 0 ∷ 0 ∷ 0
    ∷ 30 ∷ 0 ∷ 0 ∷ 0 ∷ 0 ∷ 0 ∷ 0 ∷ 0 ∷ 0 ∷ 0 ∷ 0 ∷ 0
    ∷ []

pub millimetres_left : (run (tenfold_record lent) (by_tolerance 120 ∷ []) ≡ millimetres_at_120)
    × (run (tenfold_record lent) (by_tolerance 120 ∷ by_tolerance 60001 ∷ by_days 7 built_in ∷ []) ≡ millimetres_at_120_and_250)
    × (all_answered (tenfold_record lent) (by_tolerance 120 ∷ by_tolerance 60001 ∷ by_days 7 built_in ∷ []) ≡ gives 3 ∷ turns_away 10 ∷ gives 1 ∷ [])
unfolding tenfold_record tenfold_mark all_answered run thinned_record new_mark last_row some_bad_row thinning thin_each stretches joined thin thin_span furthest sooner every but_last last_of deviation allowance first sentence some_outside some_other_silence some_early_after some_early of_ends kind_of fix_from fix_at each number_at signed unsigned bytes_of fix_to fix_bytes all_bytes header_bytes record_bytes
millimetres_left = (refl, refl, refl)

abbrev approach : (leg num den : ℕ) → Approach
approach leg num den = record { leg = leg; num = num; den = den }

-- .. and the radius question after a list, each line in both units: 15 centimetres along the first leg after 7.5
-- seconds, over the square of the leg; a leg that thinning took away; and a point a centimetre too far
pub approaches_in_millimetres : Computes {B = Answer (Option Approach) × Answer (Option Approach)}
    (λ (q : Call × Call × Point × ℕ). (
      near_after_answer lent (q.0 ∷ []) q.2 q.3,
      near_after_answer (tenfold_record lent) (q.1 ∷ []) (tenfold_point q.2) (10 * q.3),
    ))
    ((
      (by_tolerance 12, by_tolerance 120, point_at (pos 15) (pos 0), 0),
      (gives (some (approach 0 3000 400)), gives (some (approach 0 300000 40000))),
    )
    ∷ ((by_tolerance 25, by_tolerance 250, point_at (pos 15) (pos 0), 14), (gives none, gives none))
    ∷ ((by_tolerance 25, by_tolerance 250, point_at (pos 16001) (pos 0), 20), (turns_away 16, turns_away 16))
    ∷ [])
unfolding tenfold_record tenfold_mark answer_then run thinned_record new_mark last_row thinning thin_each stretches
    joined thin thin_span furthest sooner every but_last last_of deviation allowance first sentence some_bad_row
    some_outside some_other_silence some_early_after some_early of_ends kind_of fix_from fix_at each number_at signed
    unsigned bytes_of fix_to fix_bytes all_bytes header_bytes record_bytes first_near near_from leg_near near_part
    heard_part silent_part
approaches_in_millimetres = refl
