-- THE RADIUS QUESTION IN NUMBERS. Bytes, points and radii, written out, and what document 02's items 2, 5 and 8 say of them: the definitions and the code cannot be
-- changed together without these rows. Each line is computed.
use Rattle.std.specs.Prelude.{◌≡◌, refl, List, [], ◌∷◌, ℕ, ◌*◌, ℤ, pos}
use Rattle.std.proofs.Math.Option.{Option, some, none}
use Rattle.distance.proofs.Examples.{Computes, minus}
use Rattle.distance.specs.Fix.{last_of}
use Rattle.distance.specs.Laws.All.{All}
use Rattle.distance.proofs.Laws.All.{all_always}
use Rattle.distance.specs.Place.{Point, point_at}
use Rattle.format.specs.Bytes.{number_at, bytes_of, signed, unsigned}
use Rattle.format.specs.Format.{kind_of, fix_at, fix_from, each}
use Rattle.format.specs.Format.{fix_to, fix_bytes, all_bytes, header_bytes, record_bytes}
use Rattle.format.proofs.Laws.RoundTrip.{all_below, computed_bytes}
use Rattle.record.specs.Checks.{sentence, first, some_outside, some_other_silence, some_early_after, some_early, of_ends}
use Rattle.record.specs.Answers.{Answer, gives, turns_away, SameAnswer}
use Rattle.record.specs.Moved.{moved_record}
use Rattle.record.specs.Tenfold.{tenfold_mark, tenfold_record}
use Rattle.record.proofs.Laws.Tenfold.{tenfold_never}
use Rattle.record.proofs.Examples.{read_rows, on_refused, MovableRow, movable_rows}
use Rattle.approach.specs.declared.Approach.{Approach}
use Rattle.approach.specs.Approach.{heard_part, silent_part, near_part, leg_near, near_from, first_near, near_answer}
use Rattle.approach.specs.Tenfold.{tenfold_point, SameApproach}
use Rattle.approach.proofs.Laws.Moved.{near_answer_moved}
use Rattle.approach.proofs.Laws.Tenfold.{near_answer_tenfold}

-- What is asked of bytes: x, y and the radius. Yes: the leg, and the time in seconds after the first fix.
abbrev pub asked : List ℕ → (ℤ × ℤ × ℕ) → Answer (Option Approach)
asked b q = near_answer b (point_at q.0 q.1) q.2

abbrev pub yes_on : (leg num den : ℕ) → Answer (Option Approach)
yes_on leg num den = gives (some (record { leg = leg; num = num; den = den }))

-- The trail (1000,0,0) (1010,100,0) (1030,100,50) (1050,20,50).
abbrev pub round_trail : List ℕ
round_trail =
    42 ∷ 0 ∷ 0 ∷ 0 ∷ 1 ∷ 0 ∷ 255 ∷ 255 ∷ 4 ∷ 0 ∷ 232 ∷ 3 ∷ 0 ∷ 0 ∷ 0 ∷ 0 ∷ 0 ∷ 0 ∷ 242 ∷ 3 ∷ 0 ∷ 0 ∷ 100 ∷ 0 ∷ 0 ∷ 0 ∷ 6 ∷ 4 ∷ 0 ∷ 0 ∷ 100 ∷ 0 ∷ 50 ∷ 0 ∷ 26 ∷ 4 ∷ 0 ∷ 0 ∷ 20 ∷ 0 ∷ 50 ∷ 0 ∷ []

abbrev pub near_rows : List ((ℤ × ℤ × ℕ) × Answer (Option Approach))
near_rows =
    -- inside the first leg, 30 away at 40 of its 100 centimetres: after 4 seconds, over the square of its length and not reduced; "within" is at most
    ((pos 40, pos 30, 30), yes_on 0 40000 10000)
    -- one less is too far from it, and the third leg is 20 away
    ∷ ((pos 40, pos 30, 29), yes_on 2 288000 6400)
    -- "the first leg that comes that close": the first is 50 away, and the third goes through the point
    ∷ ((pos 60, pos 50, 60), yes_on 0 60000 10000)
    ∷ ((pos 60, pos 50, 10), yes_on 2 256000 6400)
    -- "closest approach": the end of the first leg, and on a smaller radius 40 of the second leg's 50 centimetres
    ∷ ((pos 130, pos 40, 50), yes_on 0 10 1)
    ∷ ((pos 130, pos 40, 30), yes_on 1 65000 2500)
    -- the foot of the perpendicular is before the start of the leg, or behind its end, from which the point is 5 away; the whole line goes nearer
    ∷ ((minus 3, minus 4, 5), yes_on 0 0 1)
    ∷ ((minus 3, minus 4, 4), gives none)
    ∷ ((pos 17, pos 54, 5), yes_on 2 50 1)
    ∷ ((pos 17, pos 54, 4), gives none)
    -- a point on the trail, with the radius 0: a fix of two legs is the former's end; between two fixes after 39.75 seconds
    ∷ ((pos 100, pos 0, 0), yes_on 0 10 1)
    ∷ ((pos 61, pos 50, 0), yes_on 2 254400 6400)
    -- 16. "the point is outside −16,000 to 16,000 or the radius is above 32,000": each at the limit, and one further
    ∷ ((pos 16000, pos 16000, 32000), yes_on 0 10 1)
    ∷ ((minus 16000, minus 16000, 32000), yes_on 0 0 1)
    ∷ ((pos 16001, pos 0, 32000), turns_away 16)
    ∷ ((minus 16001, pos 0, 32000), turns_away 16)
    ∷ ((pos 0, pos 16001, 32000), turns_away 16)
    ∷ ((pos 0, minus 16001, 32000), turns_away 16)
    ∷ ((pos 0, pos 0, 32001), turns_away 16)
    ∷ []

pub near_computed : Computes (asked round_trail) near_rows
unfolding first sentence some_outside some_other_silence some_early_after some_early last_of of_ends kind_of fix_at fix_from each number_at signed first_near near_from leg_near near_part heard_part silent_part
near_computed = refl

-- ---- one fix, (7,3,4): leg 0 at once; and a leg at rest, of the trail (0,5,5) (10,5,5) (20,100,5): its start
abbrev pub one_fix : List ℕ
one_fix = 18 ∷ 0 ∷ 0 ∷ 0 ∷ 1 ∷ 0 ∷ 255 ∷ 255 ∷ 1 ∷ 0 ∷ 7 ∷ 0 ∷ 0 ∷ 0 ∷ 3 ∷ 0 ∷ 4 ∷ 0 ∷ []

abbrev pub resting_trail : List ℕ
resting_trail = 34 ∷ 0 ∷ 0 ∷ 0 ∷ 1 ∷ 0 ∷ 255 ∷ 255 ∷ 3 ∷ 0 ∷ 0 ∷ 0 ∷ 0 ∷ 0 ∷ 5 ∷ 0 ∷ 5 ∷ 0 ∷ 10 ∷ 0 ∷ 0 ∷ 0 ∷ 5 ∷ 0 ∷ 5 ∷ 0 ∷ 20 ∷ 0 ∷ 0 ∷ 0 ∷ 100 ∷ 0 ∷ 5 ∷ 0 ∷ []

pub rest_computed : Computes (asked one_fix) (((pos 0, pos 0, 5), yes_on 0 0 1) ∷ ((pos 0, pos 0, 4), gives none) ∷ [])
    × Computes (asked resting_trail) (((pos 5, pos 8, 3), yes_on 0 0 1) ∷ ((pos 5, pos 8, 2), gives none) ∷ ((pos 50, pos 8, 3), yes_on 1 133000 9025) ∷ [])
unfolding first sentence some_outside some_other_silence some_early_after some_early last_of of_ends kind_of fix_at fix_from each number_at signed first_near near_from leg_near near_part heard_part silent_part
rest_computed = (refl, refl)

-- ---- MILLIMETRES: the trail (0,−160000,−160000) (65535,160000,160000) of kind 2, from corner to corner of the hall. The two other corners are 226,274.2 away from it,
-- and the squares that are compared then have 23 digits, three more than one word holds.
abbrev pub corner_trail : List ℕ
corner_trail = 34 ∷ 0 ∷ 0 ∷ 0 ∷ 2 ∷ 0 ∷ 255 ∷ 255 ∷ 2 ∷ 0 ∷ 0 ∷ 0 ∷ 0 ∷ 0 ∷ 0 ∷ 143 ∷ 253 ∷ 255 ∷ 0 ∷ 143 ∷ 253 ∷ 255 ∷ 255 ∷ 255 ∷ 0 ∷ 0 ∷ 0 ∷ 113 ∷ 2 ∷ 0 ∷ 0 ∷ 113 ∷ 2 ∷ 0 ∷ []

abbrev pub millimetre_rows : List ((ℤ × ℤ × ℕ) × Answer (Option Approach))
millimetre_rows =
    ((pos 160000, minus 160000, 226274), gives none)
    ∷ ((pos 160000, minus 160000, 226275), yes_on 0 6710784000000000 204800000000)
    ∷ ((pos 0, pos 0, 0), yes_on 0 6710784000000000 204800000000)
    ∷ ((pos 1, pos 0, 1), yes_on 0 6710804971200000 204800000000)
    ∷ ((pos 1, pos 0, 0), gives none)
    -- 16, by the limits of kind 2: "a radius [..] may reach 320,000"
    ∷ ((minus 160000, pos 160000, 320000), yes_on 0 6710784000000000 204800000000)
    ∷ ((pos 160001, pos 0, 0), turns_away 16)
    ∷ ((minus 160001, pos 0, 0), turns_away 16)
    ∷ ((pos 0, pos 160001, 0), turns_away 16)
    ∷ ((pos 0, minus 160001, 0), turns_away 16)
    ∷ ((pos 0, pos 0, 320001), turns_away 16)
    ∷ []

pub millimetres_computed : Computes (asked corner_trail) millimetre_rows
unfolding first sentence some_outside some_other_silence some_early_after some_early last_of of_ends kind_of fix_at fix_from each number_at signed first_near near_from leg_near near_part heard_part silent_part
millimetres_computed = refl

-- ---- SILENCES: the trail (5,0,0) silence (25,100,0) (35,100,40) silence (45,200,40) of kind 3
abbrev pub silent_trail : List ℕ
silent_trail =
    46 ∷ 0 ∷ 0 ∷ 0 ∷ 3 ∷ 0 ∷ 255 ∷ 255 ∷ 4 ∷ 0 ∷ 5 ∷ 0 ∷ 0 ∷ 0 ∷ 0 ∷ 0 ∷ 0 ∷ 0 ∷ 1 ∷ 25 ∷ 0 ∷ 0 ∷ 0 ∷ 100 ∷ 0 ∷ 0 ∷ 0 ∷ 0 ∷ 35 ∷ 0 ∷ 0 ∷ 0 ∷ 100 ∷ 0 ∷ 40 ∷ 0 ∷ 1 ∷ 45 ∷ 0 ∷ 0 ∷ 0 ∷ 200 ∷ 0 ∷ 40 ∷ 0 ∷ 0 ∷ []

abbrev pub silent_rows : List ((ℤ × ℤ × ℕ) × Answer (Option Approach))
silent_rows =
    -- "only the two ends of a silent leg count": the point is in the midst of it, and both ends are 50 away; of equals the earlier
    ((pos 50, pos 0, 50), yes_on 0 0 1)
    ∷ ((pos 50, pos 0, 49), gives none)
    -- its end is the nearer, and counts for it, before the next leg begins there
    ∷ ((pos 51, pos 0, 50), yes_on 0 20 1)
    ∷ ((pos 51, pos 0, 49), yes_on 0 20 1)
    -- the leg between the silences goes through the point; and its end, with which a silence begins, counts for it
    ∷ ((pos 100, pos 20, 0), yes_on 1 40000 1600)
    ∷ ((pos 150, pos 40, 50), yes_on 1 30 1)
    -- the last silence's end
    ∷ ((pos 160, pos 40, 40), yes_on 2 40 1)
    ∷ ((pos 150, pos 40, 49), gives none)
    ∷ ((pos 16001, pos 0, 0), turns_away 16)
    ∷ ((pos 0, pos 0, 32001), turns_away 16)
    ∷ []

pub silences_computed : Computes (asked silent_trail) silent_rows
unfolding first sentence some_outside some_other_silence some_early_after some_early last_of of_ends kind_of fix_at fix_from each number_at signed first_near near_from leg_near near_part heard_part silent_part
silences_computed = refl

-- What the reader refuses the question refuses, 1 to 9 and 20, and before 16.
pub near_refusals : Computes (λ (b : List ℕ). asked b (pos 160001, pos 0, 320001)) (on_refused (λ b k. (b, turns_away k)) read_rows)
unfolding first sentence some_outside some_other_silence some_early_after some_early last_of of_ends kind_of fix_at fix_from each number_at signed
near_refusals = refl

-- ---- A MOVED CLOCK: the law is applied to buffers that are accepted, refused with 7 and refused with 6, moved to the first and the last second of 32 bits, so that
-- nothing it asks is empty.
pub movable_nears : All (λ (m : MovableRow). asked (moved_record m.by m.buffer) (pos 3, pos 4, 5) ≡ asked m.buffer (pos 3, pos 4, 5)) movable_rows
movable_nears = all_always (λ (m : MovableRow). near_answer_moved m.by m.buffer m.bytes m.movable (point_at (pos 3) (pos 4)) 5) movable_rows

-- ---- CENTIMETRES AND MILLIMETRES: the first trail above in the other unit, and points and radii in it. The legs are
-- the same, the times by their value, and so is each refusal.
pub tenfold_points : tenfold_point (point_at (minus 16000) (pos 7)) ≡ point_at (minus 160000) (pos 70)
tenfold_points = refl

pub tenfold_nears : Computes
    (λ (q : ℤ × ℤ × ℕ). near_answer (tenfold_record round_trail) (tenfold_point (point_at q.0 q.1)) (10 * q.2))
    (((pos 40, pos 30, 30), yes_on 0 4000000 1000000)
    ∷ ((pos 40, pos 30, 29), yes_on 2 28800000 640000)
    ∷ ((pos 130, pos 40, 50), yes_on 0 10 1)
    ∷ ((pos 130, pos 40, 30), yes_on 1 6500000 250000)
    ∷ ((minus 3, minus 4, 5), yes_on 0 0 1)
    ∷ ((minus 3, minus 4, 4), gives none)
    ∷ ((minus 16000, minus 16000, 32000), yes_on 0 0 1)
    ∷ ((pos 16001, pos 0, 32000), turns_away 16)
    ∷ ((pos 0, minus 16001, 32000), turns_away 16)
    ∷ ((pos 0, pos 0, 32001), turns_away 16)
    ∷ [])
unfolding tenfold_record tenfold_mark header_bytes record_bytes all_bytes fix_bytes fix_to bytes_of unsigned first
    sentence some_outside some_other_silence some_early_after some_early last_of of_ends kind_of fix_at fix_from each
    number_at signed first_near near_from leg_near near_part heard_part silent_part
tenfold_nears = refl

-- the law of it, for every point and radius
pub near_in_millimetres : (p : Point) (r : ℕ)
    → SameAnswer SameApproach (near_answer (tenfold_record round_trail) (tenfold_point p) (10 * r))
    (near_answer round_trail p r)
unfolding kind_of all_below first sentence some_outside some_other_silence some_early_after some_early last_of of_ends
    fix_from fix_at each number_at signed
near_in_millimetres p r =
    let both = tenfold_never round_trail (computed_bytes round_trail refl) (record { accepted = refl }) refl refl in
    near_answer_tenfold both p r
