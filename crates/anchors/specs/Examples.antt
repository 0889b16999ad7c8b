-- READINGS IN NUMBERS. Floats by their bits, and what the papers say of them: the definitions and the code cannot be changed together without these rows. Each line is
-- computed.
use Rattle.std.specs.Prelude.{◌≡◌, refl, Bool, true, false, List, [], ◌∷◌, map, ℕ, ℤ, pos, Float}
use Rattle.std.proofs.Math.Option.{some, none}
use Rattle.std.specs.Float.{binary32}
use Rattle.std.specs.Float.Ieee.{of_bits, add}
use Rattle.distance.proofs.Examples.{Computes, minus}
use Rattle.distance.specs.Place.{Point, point_at}
use Rattle.distance.specs.Rounding.{half_up, with_sign_of, rounded}
use Rattle.format.specs.Format.{each}
use Rattle.record.specs.Checks.{sentence, first}
use Rattle.record.specs.Answers.{Answer, gives, turns_away}
use Rattle.anchors.specs.declared.State.{State}
use Rattle.anchors.specs.declared.Reading.{Reading}
use Rattle.anchors.specs.declared.Reading.TheVariants.{Absolute, Step}
use Rattle.anchors.specs.Anchors.{sixteenths, anchor_answer, state_after}
use Rattle.anchors.specs.Claim.{after_all, accepted, column_readings}

abbrev float : ℕ → Float
float = of_bits binary32

-- ---- values in sixteenths
pub values_counted : Computes (λ (b : ℕ). sixteenths (float b))
    -- 0.0 and −0.0
    ((0, some (pos 0))
    ∷ (0x80000000, some (pos 0))
    -- a sixteenth, −0.5, and half a sixteenth
    ∷ (0x3d800000, some (pos 1))
    ∷ (0xbf000000, some (minus 8))
    ∷ (0x3d000000, none)
    -- a sixteenth and the least bit more
    ∷ (0x3d800001, none)
    -- the least value, the greatest one without a leading digit, and the least one with it
    ∷ (1, none)
    ∷ (0x007fffff, none)
    ∷ (0x00800000, none)
    -- −16,000, and a sixteenth further
    ∷ (0xc67a0000, some (minus 256000))
    ∷ (0xc67a0040, some (minus 256001))
    -- below 2¹⁹ every other float is a whole number of sixteenths, and from there on every one
    ∷ (0x48fffffe, some (pos 8388607))
    ∷ (0x48ffffff, none)
    ∷ (0x49000000, some (pos 8388608))
    ∷ (0x49000001, some (pos 8388609))
    -- the infinities, and not a number in some of its patterns
    ∷ (0x7f800000, none)
    ∷ (0xff800000, none)
    ∷ (0x7f800001, none)
    ∷ (0x7fc00000, none)
    ∷ (0xffffffff, none)
    ∷ [])
unfolding of_bits sixteenths
values_counted = refl

-- ---- readings: a state's bits and flag, and a reading's bits. Every pattern of NaN is the one `nan`, so of its bits these rows say nothing.
abbrev state : (x y : ℕ) → Bool → State
state x y on = record { x = float x; y = float y; seen = on }

abbrev absolute : (x y : ℕ) → Reading
absolute x y = Absolute (float x) (float y)

abbrev step : (x y : ℕ) → Reading
step x y = Step (float x) (float y)

-- What is answered, and the state afterwards.
abbrev at : (x y : ℤ) → State → Answer Point × State
at x y s = (gives (point_at x y), s)

abbrev refuses : ℕ → State → Answer Point × State
refuses k s = (turns_away k, s)

abbrev start : State
start = state 0 0 false

pub readings_computed : Computes (λ (p : State × Reading). (anchor_answer p.0 p.1, state_after p.0 p.1))
    -- 1.5 and −2.5: halves away from 0, and the flag goes on
    (((start, absolute 0x3fc00000 0xc0200000), at (pos 2) (minus 3) (state 0x3fc00000 0xc0200000 true))
    -- and from there 0.25 and 16.0625 on
    ∷ ((state 0x3fc00000 0xc0200000 true, step 0x3e800000 0x41808000), at (pos 2) (pos 14) (state 0x3fe00000 0x41590000 true))
    -- twice 0.4375 is 0.875, though each is 0 when rounded
    ∷ ((state 0x3ee00000 0 true, step 0x3ee00000 0), at (pos 1) (pos 0) (state 0x3f600000 0 true))
    -- −0.0 is 0, and stays what it is
    ∷ ((start, absolute 0x80000000 0), at (pos 0) (pos 0) (state 0x80000000 0 true))
    -- −0.5 is −1, and −0.4375 is 0
    ∷ ((start, absolute 0xbf000000 0xbee00000), at (minus 1) (pos 0) (state 0xbf000000 0xbee00000 true))
    -- an absolute place asks nothing of the state
    ∷ ((state 0x7fc00000 0x7f800000 true, absolute 0 0), at (pos 0) (pos 0) (state 0 0 true))
    -- 17. a value of either coordinate, of either reading, before 18 and 19
    ∷ ((start, absolute 0x7fc00000 0), refuses 17 start)
    ∷ ((start, absolute 0 0xff800000), refuses 17 start)
    ∷ ((start, absolute 0x49000000 0x3d000000), refuses 17 start)
    ∷ ((start, step 0 0x3d000000), refuses 17 start)
    ∷ ((state 0x7fc00000 0 true, step 1 0), refuses 17 (state 0x7fc00000 0 true))
    -- also where a float sum would lose it: 2⁻¹² and 16,000
    ∷ ((state 0x467a0000 0 true, step 0x39800000 0), refuses 17 (state 0x467a0000 0 true))
    -- 18. the flag is off, or 17 or 19 would turn the state's place away; before 19
    ∷ ((start, step 0 0), refuses 18 start)
    ∷ ((start, step 0x7f7fffff 0), refuses 18 start)
    ∷ ((state 0x7fc00000 0 true, step 0 0), refuses 18 (state 0x7fc00000 0 true))
    ∷ ((state 0 0x7f800000 true, step 0 0), refuses 18 (state 0 0x7f800000 true))
    ∷ ((state 0 0x3d000000 true, step 0 0), refuses 18 (state 0 0x3d000000 true))
    ∷ ((state 0x467a0040 0 true, step 0xc67a0000 0), refuses 18 (state 0x467a0040 0 true))
    ∷ ((state 0 0xff7fffff true, step 0 0x7f7fffff), refuses 18 (state 0 0xff7fffff true))
    -- 19. 16,000 and −16,000 are inside, and a sixteenth more is outside; so is every greater float, up to the greatest
    ∷ ((start, absolute 0x467a0000 0xc67a0000), at (pos 16000) (minus 16000) (state 0x467a0000 0xc67a0000 true))
    ∷ ((start, absolute 0x467a0040 0), refuses 19 start)
    ∷ ((start, absolute 0 0xc67a0040), refuses 19 start)
    ∷ ((start, absolute 0 0x49000000), refuses 19 start)
    ∷ ((start, absolute 0xff7fffff 0), refuses 19 start)
    ∷ ((state 0x467a0000 0 true, step 0xc6fa0000 0), at (minus 16000) (pos 0) (state 0xc67a0000 0 true))
    ∷ ((state 0x467a0000 0 true, step 0x3d800000 0), refuses 19 (state 0x467a0000 0 true))
    ∷ ((state 0 0xc67a0000 true, step 0 0xbd800000), refuses 19 (state 0 0xc67a0000 true))
    ∷ ((state 0 0 true, step 0x7f7fffff 0), refuses 19 (state 0 0 true))
    ∷ [])
unfolding of_bits add sixteenths first sentence rounded with_sign_of half_up
readings_computed = refl

-- ---- a list: a step before any place, a place, a step, a place that is outside, half a sixteenth, and a step
abbrev list : List Reading
list = step 0x3d800000 0 ∷ absolute 0x3ee00000 0 ∷ step 0x3ee00000 0x3d800000 ∷ absolute 0x49000000 0 ∷ step 0x3d000000 0 ∷ step 0xbd800000 0 ∷ []

pub list_computed : (accepted start list ≡ absolute 0x3ee00000 0 ∷ step 0x3ee00000 0x3d800000 ∷ step 0xbd800000 0 ∷ []) × (after_all start list ≡ state 0x3f500000 0x3d800000 true)
unfolding of_bits add sixteenths first sentence accepted after_all
list_computed = (refl, refl)

-- ---- a list as it is lent: the flags, and the bits of x and of y
abbrev columns : List ℕ × List ℕ × List ℕ → List Reading
columns c = column_readings c.0 (map float c.1) (map float c.2)

pub columns_computed : Computes columns
    -- 0 is an absolute place, and every other number a step; x and y each from their own column
    ((
      (
        0 ∷ 1 ∷ 2 ∷ 255 ∷ [],
        0x3f800000 ∷ 0x3d800000 ∷ 0 ∷ 0xbf000000 ∷ [],
        0x40000000 ∷ 0 ∷ 0x3d800000 ∷ 0xc67a0000 ∷ [],
      ),
      absolute 0x3f800000 0x40000000 ∷ step 0x3d800000 0 ∷ step 0 0x3d800000 ∷ step 0xbf000000 0xc67a0000 ∷ [],
    )
    -- the shortest column decides, whichever it is
    ∷ ((0 ∷ [], 1 ∷ 2 ∷ 3 ∷ [], 4 ∷ 5 ∷ []), absolute 1 4 ∷ [])
    ∷ ((0 ∷ 1 ∷ 0 ∷ [], 1 ∷ 2 ∷ [], 4 ∷ 5 ∷ 6 ∷ []), absolute 1 4 ∷ step 2 5 ∷ [])
    ∷ ((1 ∷ 0 ∷ 0 ∷ [], 1 ∷ 2 ∷ 3 ∷ [], 4 ∷ []), step 1 4 ∷ [])
    -- an empty one leaves no reading
    ∷ (([], [], []), [])
    ∷ (([], 1 ∷ [], 4 ∷ []), [])
    ∷ ((0 ∷ [], [], 4 ∷ []), [])
    ∷ ((0 ∷ [], 1 ∷ [], []), [])
    ∷ [])
unfolding of_bits each
columns_computed = refl

-- .. and the state afterwards: from 1 and 2 a sixteenth to the right and one up, a step that is refused, and half a
-- centimetre back
pub columns_read : Computes (λ (c : List ℕ × List ℕ × List ℕ). after_all start (columns c))
    ((
      (
        0 ∷ 1 ∷ 255 ∷ 2 ∷ 3 ∷ [],
        0x3f800000 ∷ 0x3d800000 ∷ 0 ∷ 0x3d000000 ∷ 0xbf000000 ∷ [],
        0x40000000 ∷ 0 ∷ 0x3d800000 ∷ 0 ∷ 0 ∷ [],
      ),
      state 0x3f100000 0x40040000 true,
    )
    -- two places: the later one stands
    ∷ ((0 ∷ 0 ∷ [], 0x3f800000 ∷ 0x40000000 ∷ [], 0 ∷ 0x3f800000 ∷ []), state 0x40000000 0x3f800000 true)
    -- a step before any place is refused, and with one column empty nothing is read
    ∷ ((1 ∷ [], 0x3f800000 ∷ [], 0 ∷ []), start)
    ∷ ((0 ∷ [], 0x3f800000 ∷ [], []), start)
    ∷ [])
unfolding of_bits add sixteenths first sentence each after_all
columns_read = refl
