-- THE CROSSING IN NUMBERS. Bytes, windows and boxes, written out, and what document 01 and document 02's items 4, 5 and 8 say of them: the definitions and the code
-- cannot be changed together without these rows. Each line is computed.
use Rattle.std.specs.Prelude.{◌≡◌, refl, List, [], ◌∷◌, ℕ, ◌≤◌, ℤ, pos}
use Rattle.std.proofs.Math.Option.{Option, some, none}
use Rattle.distance.proofs.Examples.{Computes, minus}
use Rattle.distance.specs.Fix.{Fix, last_of}
use Rattle.distance.specs.Clock.{moved}
use Rattle.distance.specs.Tenfold.{tenfold_box}
use Rattle.distance.specs.Laws.All.{All}
use Rattle.distance.proofs.Laws.All.{all_always}
use Rattle.distance.specs.Box.{Box, box_with}
use Rattle.format.specs.Bytes.{number_at, bytes_of, signed, unsigned}
use Rattle.format.specs.Kinds.{trail, millimetre_trail}
use Rattle.format.specs.Format.{kind_of, fix_at, fix_from, each, fix_to, fix_bytes, all_bytes, header_bytes, record_bytes, changed}
use Rattle.format.proofs.Laws.RoundTrip.{all_below, computed_bytes}
use Rattle.record.specs.Checks.{sentence, first, some_outside, some_other_silence, some_early_after, some_early, of_ends}
use Rattle.record.specs.Answers.{Answer, gives, turns_away, SameAnswer}
use Rattle.record.specs.Moved.{moved_record}
use Rattle.record.specs.Tenfold.{tenfold_mark, tenfold_record}
use Rattle.record.proofs.Laws.Tenfold.{tenfold_never}
use Rattle.record.proofs.Examples.{read_rows, on_refused, MovableRow, movable_rows}
use Rattle.legs.specs.declared.Fraction.{Fraction}
use Rattle.legs.specs.Legs.{fraction, later_of, earlier_of, first_of, axis_times, leg_times, leg_first}
use Rattle.crossing.specs.Crossing.{Told, first_from, first_crossing, cross_answer, SameCrossing}
use Rattle.crossing.proofs.Laws.Moved.{cross_answer_moved}
use Rattle.crossing.proofs.Laws.Tenfold.{cross_answer_tenfold}

-- The trail (1000,0,0) (1010,100,0).
abbrev pub cross_trail : List ℕ
cross_trail = 26 ∷ 0 ∷ 0 ∷ 0 ∷ 1 ∷ 0 ∷ 255 ∷ 255 ∷ 2 ∷ 0 ∷ 232 ∷ 3 ∷ 0 ∷ 0 ∷ 0 ∷ 0 ∷ 0 ∷ 0 ∷ 242 ∷ 3 ∷ 0 ∷ 0 ∷ 100 ∷ 0 ∷ 0 ∷ 0 ∷ []

-- x 33..40, y −5..5; all of the hall; and boxes that are one centimetre too far, or turned round
abbrev pub asked_box : Box
asked_box = box_with (pos 33) (pos 40) (minus 5) (pos 5)

abbrev pub yes_at : (n d : ℕ) → Answer (Option Fraction)
yes_at n d = gives (some (fraction n d))

-- A window, from a second to a second, and a box; and what is answered of that trail.
abbrev pub cross_rows : List ((ℕ × ℕ × Box) × Answer (Option Fraction))
cross_rows =
    -- the window is all of the trail's times, one end of it, and a part that comes too late
    ((1000, 1010, asked_box), yes_at 330 100)
    ∷ ((1004, 1004, asked_box), yes_at 4 1)
    ∷ ((1005, 1010, asked_box), gives none)
    -- 13. "The window's end is before its start, or either is outside the trail's times."
    ∷ ((1005, 1004, asked_box), turns_away 13)
    ∷ ((999, 1010, asked_box), turns_away 13)
    ∷ ((1000, 1011, asked_box), turns_away 13)
    -- 14. "A box edge is outside −16,000 to 16,000, or a low edge is above its high edge.": each edge at the limit, and one centimetre further
    ∷ ((1000, 1010, box_with (minus 16000) (pos 16000) (minus 16000) (pos 16000)), yes_at 0 1)
    ∷ ((1000, 1010, box_with (minus 16001) (pos 40) (minus 5) (pos 5)), turns_away 14)
    ∷ ((1000, 1010, box_with (pos 33) (pos 16001) (minus 5) (pos 5)), turns_away 14)
    ∷ ((1000, 1010, box_with (pos 33) (pos 40) (minus 16001) (pos 5)), turns_away 14)
    ∷ ((1000, 1010, box_with (pos 33) (pos 40) (minus 5) (pos 16001)), turns_away 14)
    ∷ ((1000, 1010, box_with (pos 33) (pos 33) (pos 0) (pos 0)), yes_at 330 100)
    ∷ ((1000, 1010, box_with (pos 34) (pos 33) (pos 0) (pos 0)), turns_away 14)
    ∷ ((1000, 1010, box_with (pos 33) (pos 33) (pos 1) (pos 0)), turns_away 14)
    -- 13 comes before 14
    ∷ ((1005, 1004, box_with (pos 34) (pos 33) (pos 0) (pos 0)), turns_away 13)
    ∷ []

pub crossings_computed : Computes (λ (q : ℕ × ℕ × Box). cross_answer cross_trail q.0 q.1 q.2) cross_rows
unfolding first sentence some_outside some_other_silence some_early_after some_early last_of of_ends kind_of fix_at fix_from each number_at signed first_crossing first_from leg_first leg_times axis_times first_of later_of earlier_of
crossings_computed = refl

-- ---- THE FRACTION'S FORM, of the trail (1000,0,0) (1010,100,50) (1020,200,0)
abbrev pub bent_trail : List ℕ
bent_trail = 34 ∷ 0 ∷ 0 ∷ 0 ∷ 1 ∷ 0 ∷ 255 ∷ 255 ∷ 3 ∷ 0 ∷ 232 ∷ 3 ∷ 0 ∷ 0 ∷ 0 ∷ 0 ∷ 0 ∷ 0 ∷ 242 ∷ 3 ∷ 0 ∷ 0 ∷ 100 ∷ 0 ∷ 50 ∷ 0 ∷ 252 ∷ 3 ∷ 0 ∷ 0 ∷ 200 ∷ 0 ∷ 0 ∷ 0 ∷ []

abbrev pub form_rows : List ((ℕ × ℕ × Box) × Answer (Option Fraction))
form_rows =
    -- x comes to 40 at 4 seconds, over the 100 centimetres that the leg goes in x, not reduced; y comes to 30 at 6, over the 50 that it goes in y
    ((1000, 1020, box_with (pos 40) (pos 90) (pos 0) (pos 50)), yes_at 400 100)
    ∷ ((1000, 1020, box_with (pos 0) (pos 90) (pos 30) (pos 50)), yes_at 300 50)
    -- both at 6: of equals x
    ∷ ((1000, 1020, box_with (pos 60) (pos 90) (pos 30) (pos 50)), yes_at 600 100)
    -- at 6 the window opens: of equals the window
    ∷ ((1006, 1020, box_with (pos 60) (pos 90) (pos 30) (pos 50)), yes_at 6 1)
    -- at the first fix the leg begins, and in the midst of it the window opens
    ∷ ((1000, 1020, box_with (pos 0) (pos 0) (pos 0) (pos 0)), yes_at 0 1)
    ∷ ((1007, 1020, box_with (pos 60) (pos 90) (pos 30) (pos 50)), yes_at 7 1)
    -- at the fix of two legs the first of them comes to the box
    ∷ ((1000, 1020, box_with (pos 100) (pos 100) (pos 50) (pos 50)), yes_at 1000 100)
    -- the second leg comes to x = 150 at 15, and down to y = 10 at 18
    ∷ ((1000, 1020, box_with (pos 150) (pos 200) (pos 0) (pos 50)), yes_at 1500 100)
    ∷ ((1000, 1020, box_with (pos 150) (pos 200) (pos 0) (pos 10)), yes_at 900 50)
    ∷ []

pub forms_computed : Computes (λ (q : ℕ × ℕ × Box). cross_answer bent_trail q.0 q.1 q.2) form_rows
unfolding first sentence some_outside some_other_silence some_early_after some_early last_of of_ends kind_of fix_at fix_from each number_at signed first_crossing first_from leg_first leg_times axis_times first_of later_of earlier_of
forms_computed = refl

-- ---- MILLIMETRES: the trails (1000,−160000,0) (1010,160000,0) and (0,−160000,0) (65535,160000,0) of kind 2
abbrev pub across_trail : List ℕ
across_trail = 34 ∷ 0 ∷ 0 ∷ 0 ∷ 2 ∷ 0 ∷ 255 ∷ 255 ∷ 2 ∷ 0 ∷ 232 ∷ 3 ∷ 0 ∷ 0 ∷ 0 ∷ 143 ∷ 253 ∷ 255 ∷ 0 ∷ 0 ∷ 0 ∷ 0 ∷ 242 ∷ 3 ∷ 0 ∷ 0 ∷ 0 ∷ 113 ∷ 2 ∷ 0 ∷ 0 ∷ 0 ∷ 0 ∷ 0 ∷ []

abbrev pub longest_trail : List ℕ
longest_trail = 34 ∷ 0 ∷ 0 ∷ 0 ∷ 2 ∷ 0 ∷ 255 ∷ 255 ∷ 2 ∷ 0 ∷ 0 ∷ 0 ∷ 0 ∷ 0 ∷ 0 ∷ 143 ∷ 253 ∷ 255 ∷ 0 ∷ 0 ∷ 0 ∷ 0 ∷ 255 ∷ 255 ∷ 0 ∷ 0 ∷ 0 ∷ 113 ∷ 2 ∷ 0 ∷ 0 ∷ 0 ∷ 0 ∷ 0 ∷ []

abbrev pub millimetre_crossings : List ((ℕ × ℕ × Box) × Answer (Option Fraction))
millimetre_crossings =
    -- "a crossing fraction's denominator may reach 320,000"
    ((1000, 1010, asked_box), yes_at 1600330 320000)
    -- 14, by the limit of kind 2: edges past kind 1's are in it, each edge at the limit too, and one millimetre further is not
    ∷ ((1000, 1010, box_with (pos 16001) (pos 16001) (pos 0) (pos 0)), yes_at 1760010 320000)
    ∷ ((1000, 1010, box_with (minus 160000) (pos 160000) (minus 160000) (pos 160000)), yes_at 0 1)
    ∷ ((1000, 1010, box_with (minus 160001) (pos 40) (minus 5) (pos 5)), turns_away 14)
    ∷ ((1000, 1010, box_with (pos 33) (pos 160001) (minus 5) (pos 5)), turns_away 14)
    ∷ ((1000, 1010, box_with (pos 33) (pos 40) (minus 160001) (pos 5)), turns_away 14)
    ∷ ((1000, 1010, box_with (pos 33) (pos 40) (minus 5) (pos 160001)), turns_away 14)
    ∷ []

pub millimetre_crossings_computed : Computes (λ (q : ℕ × ℕ × Box). cross_answer across_trail q.0 q.1 q.2) millimetre_crossings
    -- the greatest numerator
    × (cross_answer longest_trail 0 65535 (box_with (pos 160000) (pos 160000) (pos 0) (pos 0)) ≡ yes_at 20971200000 320000)
unfolding first sentence some_outside some_other_silence some_early_after some_early last_of of_ends kind_of fix_at fix_from each number_at signed first_crossing first_from leg_first leg_times axis_times first_of later_of earlier_of
millimetre_crossings_computed = (refl, refl)

-- ---- SILENCE: a trail of kind 3, (1000,0,0) with silence after it, (1010,100,0), (1020,100,100) with silence after it, and (1030,0,100). Only the two ends of a
-- silent leg count, over 1; a window strictly inside a silence is no; and the earliest is the earliest of the whole trail.
abbrev pub parted_trail : List ℕ
parted_trail =
    46 ∷ 0 ∷ 0 ∷ 0 ∷ 3 ∷ 0 ∷ 255 ∷ 255 ∷ 4 ∷ 0
    ∷ 232 ∷ 3 ∷ 0 ∷ 0 ∷ 0 ∷ 0 ∷ 0 ∷ 0 ∷ 1
    ∷ 242 ∷ 3 ∷ 0 ∷ 0 ∷ 100 ∷ 0 ∷ 0 ∷ 0 ∷ 0
    ∷ 252 ∷ 3 ∷ 0 ∷ 0 ∷ 100 ∷ 0 ∷ 100 ∷ 0 ∷ 1
    ∷ 6 ∷ 4 ∷ 0 ∷ 0 ∷ 0 ∷ 0 ∷ 100 ∷ 0 ∷ 0
    ∷ []

abbrev pub hall : Box
hall = box_with (minus 16000) (pos 16000) (minus 16000) (pos 16000)

abbrev pub silent_crossings : List ((ℕ × ℕ × Box) × Answer (Option Fraction))
silent_crossings =
    -- the middle of either silence, and its two ends
    ((1000, 1030, box_with (pos 33) (pos 40) (minus 5) (pos 5)), gives none)
    ∷ ((1000, 1030, box_with (pos 33) (pos 40) (pos 95) (pos 105)), gives none)
    ∷ ((1000, 1030, box_with (pos 0) (pos 40) (minus 5) (pos 5)), yes_at 0 1)
    ∷ ((1000, 1030, box_with (pos 33) (pos 100) (minus 5) (pos 5)), yes_at 10 1)
    ∷ ((1000, 1030, box_with (pos 33) (pos 100) (pos 95) (pos 105)), yes_at 1950 100)
    ∷ ((1000, 1030, box_with (pos 0) (pos 40) (pos 95) (pos 105)), yes_at 30 1)
    -- windows from one end of a silence to the other, strictly inside it, and at each end
    ∷ ((1000, 1010, hall), yes_at 0 1)
    ∷ ((1001, 1010, hall), yes_at 10 1)
    ∷ ((1001, 1009, hall), gives none)
    ∷ ((1005, 1005, hall), gives none)
    ∷ ((1020, 1020, hall), yes_at 20 1)
    ∷ ((1021, 1029, hall), gives none)
    ∷ ((1021, 1030, hall), yes_at 30 1)
    -- the leg between them, as of any trail
    ∷ ((1000, 1030, box_with (pos 90) (pos 110) (pos 50) (pos 60)), yes_at 1500 100)
    ∷ []

pub silent_crossings_computed : Computes (λ (q : ℕ × ℕ × Box). cross_answer parted_trail q.0 q.1 q.2) silent_crossings
unfolding first sentence some_outside some_other_silence some_early_after some_early last_of of_ends kind_of fix_at fix_from each number_at signed first_crossing first_from leg_first leg_times axis_times first_of later_of earlier_of
silent_crossings_computed = refl

-- "a denominator from 1 to 32,000", and of kind 2 up to 320,000: what yes promises of it
pub denominators_told : {l : List Fix} {box : Box} {s e n d : ℕ}
    → (Told trail.limit l box s e n d → (1 ≤ d) × (d ≤ 32000)) × (Told millimetre_trail.limit l box s e n d → (1 ≤ d) × (d ≤ 320000))
denominators_told = ((λ t. (t.some_denominator, t.small_denominator)), (λ t. (t.some_denominator, t.small_denominator)))

-- ---- THE CLOCK MOVED: the first trail above with its last fix in the last second of 32 bits, and with its first fix in the second 1. Every row is as before, its
-- window moved alike, down to the numerator and the denominator.
abbrev pub latest_trail : List ℕ
latest_trail = 26 ∷ 0 ∷ 0 ∷ 0 ∷ 1 ∷ 0 ∷ 255 ∷ 255 ∷ 2 ∷ 0 ∷ 245 ∷ 255 ∷ 255 ∷ 255 ∷ 0 ∷ 0 ∷ 0 ∷ 0 ∷ 255 ∷ 255 ∷ 255 ∷ 255 ∷ 100 ∷ 0 ∷ 0 ∷ 0 ∷ []

abbrev pub early_trail : List ℕ
early_trail = 26 ∷ 0 ∷ 0 ∷ 0 ∷ 1 ∷ 0 ∷ 255 ∷ 255 ∷ 2 ∷ 0 ∷ 1 ∷ 0 ∷ 0 ∷ 0 ∷ 0 ∷ 0 ∷ 0 ∷ 0 ∷ 11 ∷ 0 ∷ 0 ∷ 0 ∷ 100 ∷ 0 ∷ 0 ∷ 0 ∷ []

pub moved_computed : Computes (λ (s : ℤ). moved_record s cross_trail) ((pos 4294966285, latest_trail) ∷ (minus 999, early_trail) ∷ [])
unfolding changed kind_of fix_at fix_from each number_at signed unsigned bytes_of fix_bytes fix_to all_bytes
moved_computed = refl

pub crossings_moved : Computes (λ (q : ℕ × ℕ × Box). cross_answer latest_trail (moved (pos 4294966285) q.0) (moved (pos 4294966285) q.1) q.2) cross_rows
    × Computes (λ (q : ℕ × ℕ × Box). cross_answer early_trail (moved (minus 999) q.0) (moved (minus 999) q.1) q.2) cross_rows
unfolding first sentence some_outside some_other_silence some_early_after some_early last_of of_ends kind_of fix_at fix_from each number_at signed first_crossing first_from leg_first leg_times axis_times first_of later_of earlier_of
crossings_moved = (refl, refl)

-- the law of a moved clock, of bytes that are accepted and of refused ones
pub movable_crossed : All (λ (m : MovableRow). cross_answer (moved_record m.by m.buffer) (moved m.by m.asked) (moved m.by m.asked) asked_box
    ≡ cross_answer m.buffer m.asked m.asked asked_box) movable_rows
movable_crossed = all_always (λ (m : MovableRow). cross_answer_moved m.by m.buffer m.bytes m.movable m.asked m.asked asked_box m.asked_stays m.asked_stays) movable_rows

-- ---- CENTIMETRES AND MILLIMETRES: the first trail above in the other unit, and boxes in it. The times are the same by their value, and so is each refusal.
pub tenfold_crossings : Computes (λ (q : ℕ × ℕ × Box). cross_answer (tenfold_record cross_trail) q.0 q.1 (tenfold_box q.2))
    (((1000, 1010, asked_box), yes_at 3300 1000)
    ∷ ((1004, 1004, asked_box), yes_at 4 1)
    ∷ ((1005, 1010, asked_box), gives none)
    ∷ ((1000, 1011, asked_box), turns_away 13)
    ∷ ((1000, 1010, box_with (minus 16000) (pos 16000) (minus 16000) (pos 16000)), yes_at 0 1)
    ∷ ((1000, 1010, box_with (pos 33) (pos 40) (minus 5) (pos 16001)), turns_away 14)
    ∷ ((1000, 1010, box_with (pos 34) (pos 33) (pos 0) (pos 0)), turns_away 14)
    ∷ [])
unfolding tenfold_record tenfold_mark header_bytes record_bytes all_bytes fix_bytes fix_to bytes_of unsigned first sentence some_outside some_other_silence some_early_after some_early last_of of_ends kind_of fix_at fix_from each number_at signed first_crossing first_from leg_first leg_times axis_times first_of later_of earlier_of
tenfold_crossings = refl

-- the law of it, for every window and box
pub crossed_in_millimetres : (s e : ℕ) (box : Box) → SameAnswer (SameCrossing millimetre_trail) (cross_answer (tenfold_record cross_trail) s e (tenfold_box box)) (cross_answer cross_trail s e box)
unfolding kind_of all_below first sentence some_outside some_other_silence some_early_after some_early last_of of_ends fix_from fix_at each number_at signed
crossed_in_millimetres s e box = cross_answer_tenfold (tenfold_never cross_trail (computed_bytes cross_trail refl) (record { accepted = refl }) refl refl) s e box

-- What the reader refuses the crossing refuses, 1 to 9 and 20, and before 13.
pub cross_refusals : Computes (λ (b : List ℕ). cross_answer b 1 0 asked_box) (on_refused (λ b k. (b, turns_away k)) read_rows)
unfolding first sentence some_outside some_other_silence some_early_after some_early last_of of_ends kind_of fix_at fix_from each number_at signed
cross_refusals = refl
