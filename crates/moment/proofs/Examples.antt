-- THE PLACE IN NUMBERS. Bytes and moments, written out, and what the papers say of them: the definitions and the code cannot be changed together without
-- these rows. Each line is computed.
use Rattle.std.specs.Prelude.{◌≡◌, refl, true, false, List, [], ◌∷◌, ◌++◌, ℕ, pos, Ok, Err}
use Rattle.distance.proofs.Examples.{Computes, minus}
use Rattle.distance.specs.Fix.{last_of}
use Rattle.distance.specs.Place.{own}
use Rattle.distance.specs.Silence.{silence_from, in_silence}
use Rattle.distance.specs.Rounding.{half_up, with_sign_of, rounded}
use Rattle.distance.specs.Mirror.{Mirror}
use Rattle.distance.specs.Clock.{moved}
use Rattle.distance.specs.Laws.All.{All}
use Rattle.distance.proofs.Laws.All.{all_always}
use Rattle.format.specs.Bytes.{number_at, bytes_of, signed, unsigned}
use Rattle.format.specs.Format.{kind_of, fix_at, fix_from, each, fix_to, fix_bytes, all_bytes, header_bytes, record_bytes, changed}
use Rattle.format.proofs.Laws.RoundTrip.{all_below, computed_bytes}
use Rattle.record.specs.Checks.{sentence, first, some_outside, some_other_silence, some_early_after, some_early, of_ends}
use Rattle.record.specs.Answers.{Answer, gives, turns_away, SameAnswer}
use Rattle.record.proofs.Examples.{read_rows, on_refused, MovableRow, movable_rows}
use Rattle.record.specs.Moved.{moved_record}
use Rattle.record.specs.Tenfold.{tenfold_mark, tenfold_record}
use Rattle.record.proofs.Laws.Tenfold.{tenfold_never}
use Rattle.moment.specs.Answers.{standing, placed}
use Rattle.moment.specs.declared.Spot.{Spot}
use Rattle.record.specs.declared.refusal.Refusal.TheVariants.{MomentInSilence}
use Rattle.moment.specs.Moment.{Standing, on_leg, moment_from, at_moment, place_answer}
use Rattle.moment.specs.Mirror.{mirrored_record}
use Rattle.moment.specs.Tenfold.{TenfoldPlace}
use Rattle.moment.proofs.Laws.Moved.{place_answer_moved}
use Rattle.moment.proofs.Laws.Tenfold.{place_answer_tenfold}

-- The trail (1000,0,0) (1010,5,−5).
abbrev pub place_trail : List ℕ
place_trail = 26 ∷ 0 ∷ 0 ∷ 0 ∷ 1 ∷ 0 ∷ 255 ∷ 255 ∷ 2 ∷ 0 ∷ 232 ∷ 3 ∷ 0 ∷ 0 ∷ 0 ∷ 0 ∷ 0 ∷ 0 ∷ 242 ∷ 3 ∷ 0 ∷ 0 ∷ 5 ∷ 0 ∷ 251 ∷ 255 ∷ []

-- x and −x over 10,000, and the rounded place, r and −r: the trail is as far from the aisle in y as in x, on the other side.
abbrev pub opposite : (x r : ℕ) → Answer Standing
opposite x r = gives (record { exact = record { x = pos x; y = minus x; d = pos 10000 }; rounded_x = pos r; rounded_y = minus r })

-- A second and thousandths, and what is answered of that trail.
abbrev pub moment_rows : List ((ℕ × ℕ) × Answer Standing)
moment_rows =
    -- a moment at each end is the trail's
    ((1000, 0), opposite 0 0)
    ∷ ((1010, 0), opposite 50000 5)
    -- 12. "The asked moment is before the first fix or after the last.": by a thousandth
    ∷ ((999, 999), turns_away 12)
    ∷ ((1010, 1), turns_away 12)
    -- 11. "The asked thousandths are above 999."
    ∷ ((1000, 999), opposite 4995 0)
    ∷ ((1000, 1000), turns_away 11)
    -- 11 comes before 12, at both ends
    ∷ ((998, 1000), turns_away 11)
    ∷ ((1010, 1000), turns_away 11)
    -- halves away from 0, on both sides of it
    ∷ ((1001, 0), opposite 5000 1)
    ∷ ((1001, 1), opposite 5005 1)
    ∷ ((1003, 0), opposite 15000 2)
    -- three different digits
    ∷ ((1001, 234), opposite 6170 1)
    ∷ []

pub moments_computed : Computes (λ (p : ℕ × ℕ). place_answer place_trail p.0 p.1) moment_rows
unfolding first sentence some_outside some_other_silence some_early_after some_early last_of of_ends kind_of fix_at fix_from each number_at signed in_silence silence_from at_moment moment_from on_leg own rounded with_sign_of half_up
moments_computed = refl

-- ---- MILLIMETRES: the trail (1000,160000,−160000) (1010,159995,−159995) of kind 2. Each place is a fraction of millimetres, and rounded to one.
abbrev pub millimetre_places : List ℕ
millimetre_places = 34 ∷ 0 ∷ 0 ∷ 0 ∷ 2 ∷ 0 ∷ 255 ∷ 255 ∷ 2 ∷ 0 ∷ 232 ∷ 3 ∷ 0 ∷ 0 ∷ 0 ∷ 113 ∷ 2 ∷ 0 ∷ 0 ∷ 143 ∷ 253 ∷ 255 ∷ 242 ∷ 3 ∷ 0 ∷ 0 ∷ 251 ∷ 112 ∷ 2 ∷ 0 ∷ 5 ∷ 143 ∷ 253 ∷ 255 ∷ []

pub millimetre_moments_computed : Computes (λ (p : ℕ × ℕ). place_answer millimetre_places p.0 p.1)
    (((1000, 0), opposite 1600000000 160000)
    ∷ ((1010, 0), opposite 1599950000 159995)
    -- halves away from 0
    ∷ ((1001, 0), opposite 1599995000 160000)
    ∷ ((1001, 1), opposite 1599994995 159999)
    ∷ ((1010, 1), turns_away 12)
    ∷ [])
unfolding first sentence some_outside some_other_silence some_early_after some_early last_of of_ends kind_of fix_at fix_from each number_at signed in_silence silence_from at_moment moment_from on_leg own rounded with_sign_of half_up
millimetre_moments_computed = refl

-- ---- SILENCE: a trail of kind 3, (1000,0,0) with silence after it, (1010,5,−5), (1020,5,−5) with silence after it, and (1030,15,−15). At the two ends of a silence
-- there is the fix's own place, on the first leg whose end isn't earlier, which is the silent one at its end; strictly inside, 21, by a thousandth too.
abbrev pub silent_places : List ℕ
silent_places =
    46 ∷ 0 ∷ 0 ∷ 0 ∷ 3 ∷ 0 ∷ 255 ∷ 255 ∷ 4 ∷ 0
    ∷ 232 ∷ 3 ∷ 0 ∷ 0 ∷ 0 ∷ 0 ∷ 0 ∷ 0 ∷ 1
    ∷ 242 ∷ 3 ∷ 0 ∷ 0 ∷ 5 ∷ 0 ∷ 251 ∷ 255 ∷ 0
    ∷ 252 ∷ 3 ∷ 0 ∷ 0 ∷ 5 ∷ 0 ∷ 251 ∷ 255 ∷ 1
    ∷ 6 ∷ 4 ∷ 0 ∷ 0 ∷ 15 ∷ 0 ∷ 241 ∷ 255 ∷ 0
    ∷ []

pub silent_moments_computed : Computes (λ (p : ℕ × ℕ). place_answer silent_places p.0 p.1)
    (((1000, 0), opposite 0 0)
    ∷ ((1000, 1), turns_away 21)
    ∷ ((1005, 500), turns_away 21)
    ∷ ((1009, 999), turns_away 21)
    ∷ ((1010, 0), opposite 50000 5)
    ∷ ((1010, 1), opposite 50000 5)
    ∷ ((1020, 0), opposite 50000 5)
    ∷ ((1020, 1), turns_away 21)
    ∷ ((1029, 999), turns_away 21)
    ∷ ((1030, 0), opposite 150000 15)
    -- 11 and 12 before 21
    ∷ ((1005, 1000), turns_away 11)
    ∷ ((1030, 1), turns_away 12)
    ∷ ((999, 999), turns_away 12)
    ∷ [])
unfolding first sentence some_outside some_other_silence some_early_after some_early last_of of_ends kind_of fix_at fix_from each number_at signed in_silence silence_from at_moment moment_from on_leg own rounded with_sign_of half_up
silent_moments_computed = refl

-- What the reader refuses the place question refuses, 1 to 9 and 20, and before 11.
pub place_refusals : Computes (λ (b : List ℕ). place_answer b 0 1000) (on_refused (λ b k. (b, turns_away k)) read_rows)
unfolding first sentence some_outside some_other_silence some_early_after some_early last_of of_ends kind_of fix_at fix_from each number_at signed
place_refusals = refl

-- The trail mirrored, with two bytes more behind it: in x, in y, in both. The head and what follows the record are as they were.
abbrev pub image_bytes : (x_low x_high y_low y_high : ℕ) → List ℕ
image_bytes a b c d = 26 ∷ 0 ∷ 0 ∷ 0 ∷ 1 ∷ 0 ∷ 255 ∷ 255 ∷ 2 ∷ 0 ∷ 232 ∷ 3 ∷ 0 ∷ 0 ∷ 0 ∷ 0 ∷ 0 ∷ 0 ∷ 242 ∷ 3 ∷ 0 ∷ 0 ∷ a ∷ b ∷ c ∷ d ∷ 7 ∷ 9 ∷ []

pub images_computed : Computes (λ (m : Mirror). mirrored_record m (place_trail ++ 7 ∷ 9 ∷ []))
    ((record { in_x = false; in_y = false }, image_bytes 5 0 251 255)
    ∷ (record { in_x = true; in_y = false }, image_bytes 251 255 251 255)
    ∷ (record { in_x = false; in_y = true }, image_bytes 5 0 5 0)
    ∷ (record { in_x = true; in_y = true }, image_bytes 251 255 5 0)
    ∷ [])
unfolding changed all_bytes fix_bytes fix_to bytes_of unsigned kind_of fix_at fix_from each number_at signed
images_computed = refl

-- .. and of kind 2
pub millimetres_mirrored : mirrored_record (record { in_x = true; in_y = true }) millimetre_places
    ≡ 34 ∷ 0 ∷ 0 ∷ 0 ∷ 2 ∷ 0 ∷ 255 ∷ 255 ∷ 2 ∷ 0 ∷ 232 ∷ 3 ∷ 0 ∷ 0 ∷ 0 ∷ 143 ∷ 253 ∷ 255 ∷ 0 ∷ 113 ∷ 2 ∷ 0 ∷ 242 ∷ 3 ∷ 0 ∷ 0 ∷ 5 ∷ 143 ∷ 253 ∷ 255 ∷ 251 ∷ 112 ∷ 2 ∷ 0 ∷ []
unfolding changed all_bytes fix_bytes fix_to bytes_of unsigned kind_of fix_at fix_from each number_at signed
millimetres_mirrored = refl

-- ---- the law of a moved clock, of bytes that are accepted and of refused ones
pub movable_placed : All (λ (m : MovableRow). place_answer (moved_record m.by m.buffer) (moved m.by m.asked) 500 ≡ place_answer m.buffer m.asked 500) movable_rows
movable_placed = all_always (λ (m : MovableRow). place_answer_moved m.by m.buffer m.bytes m.movable m.asked 500 m.asked_stays) movable_rows

-- ---- CENTIMETRES AND MILLIMETRES: the first trail above in the other unit. Each fraction is over the same denominator with ten times the numerators, whatever is
-- rounded, and each refusal is the same.
pub tenfold_moments : Computes (λ (p : ℕ × ℕ). place_answer (tenfold_record place_trail) p.0 p.1)
    (((1000, 0), opposite 0 0)
    ∷ ((1010, 0), opposite 500000 50)
    ∷ ((1001, 0), opposite 50000 5)
    ∷ ((1001, 234), opposite 61700 6)
    ∷ ((1010, 1), turns_away 12)
    ∷ ((1000, 1000), turns_away 11)
    ∷ [])
unfolding tenfold_record tenfold_mark header_bytes record_bytes all_bytes fix_bytes fix_to bytes_of unsigned first sentence some_outside some_other_silence some_early_after some_early last_of of_ends kind_of fix_at fix_from each number_at signed in_silence silence_from at_moment moment_from on_leg own rounded with_sign_of half_up
tenfold_moments = refl

-- the law of it, at every moment
pub placed_in_millimetres : (s m : ℕ) → SameAnswer TenfoldPlace (place_answer (tenfold_record place_trail) s m) (place_answer place_trail s m)
unfolding kind_of all_below first sentence some_outside some_other_silence some_early_after some_early last_of of_ends fix_from fix_at each number_at signed
placed_in_millimetres s m = place_answer_tenfold (tenfold_never place_trail (computed_bytes place_trail refl) (record { accepted = refl }) refl refl) s m

-- ---- what the code's struct and its answer say: the fraction, and the rounded place beside it, or the refusal
pub standing_computed :
    standing (record {
      x = pos 5005;
      y = minus 15000;
      d = 10000;
      whole = record { x = record { 0 = pos 1 }; y = record { 0 = minus 2 } };
    })
    ≡ record { exact = record { x = pos 5005; y = minus 15000; d = pos 10000 }; rounded_x = pos 1; rounded_y = minus 2 }
standing_computed = refl

pub answers_computed : (s : Spot) → Computes placed ((Ok s, gives (standing s)) ∷ (Err MomentInSilence, turns_away 21) ∷ [])
answers_computed s = refl
