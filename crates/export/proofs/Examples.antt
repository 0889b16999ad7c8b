-- THE INTERFACE IN NUMBERS, written out as include/trails.h has them: what a program reads in each field. The definitions and the code cannot be changed together
-- without these rows. Each line is computed.
use Rattle.std.specs.Prelude.{refl, Bool, true, false, [], ◌∷◌, ℕ, ℤ, pos}
use Rattle.std.proofs.Math.Option.{Option, some, none}
use Rattle.std.specs.Float.{binary32}
use Rattle.std.specs.Float.Ieee.{of_bits}
use Rattle.distance.proofs.Examples.{Computes, minus}
use Rattle.distance.specs.Place.{Point, point_at}
use Rattle.format.specs.Bytes.{number_at}
use Rattle.format.specs.Examples.{document_bytes}
use Rattle.record.specs.Answers.{Answer, gives, turns_away}
use Rattle.anchors.specs.declared.State.{State}
use Rattle.export.specs.declared.Head.{Head}
use Rattle.export.specs.declared.Step.{Step}
use Rattle.export.specs.declared.Answer.{Answer as Numbers}
use Rattle.export.specs.declared.Applied.{Applied}
use Rattle.export.specs.declared.Run.{Run}
use Rattle.export.specs.declared.Spot.{Spot}
use Rattle.export.specs.declared.Crossing.{Crossing}
use Rattle.export.specs.declared.Approach.{Approach}
use Rattle.export.specs.declared.AnchorState.{AnchorState}
use Rattle.export.specs.declared.Anchored.{Anchored}
use Rattle.export.specs.Interface.{checked_numbers, step_numbers, value_numbers, refusal_number, applied_numbers, run_numbers, spot_numbers, crossing_numbers, approach_numbers, state_of, state_numbers, anchored_numbers}

-- ---- the head of document 01's 18 bytes, kind, count and mark; and a refusal, of which all else is 0
abbrev head : (refusal kind count mark : ℕ) → Head
head k kind n mark = record { refusal = k; kind = kind; count = n; mark = mark }

pub heads_computed : Computes (λ (k : Option ℕ). checked_numbers k document_bytes) ((none, head 0 1 1 65535) ∷ (some 7, head 7 0 0 0) ∷ [])
unfolding number_at
heads_computed = refl

-- ---- a fix of kind 3, a reader that has none left, and a refusal
abbrev step : (refusal found kind t : ℕ) (x y : ℤ) (silence : ℕ) → Step
step k found kind t x y silence = record { refusal = k; found = found; kind = kind; t = t; x = x; y = y; silence = silence }

pub steps_computed : Computes (step_numbers 3)
    ((gives (some (record { t = 1000; x = minus 1; y = pos 2; silence = 1 })), step 0 1 3 1000 (minus 1) (pos 2) 1)
    ∷ (gives none, step 0 0 0 0 (pos 0) (pos 0) 0)
    ∷ (turns_away 20, step 20 0 0 0 (pos 0) (pos 0) 0)
    ∷ [])
steps_computed = refl

-- ---- a value: a length, a count; and how many calls of a list were turned away
abbrev answer : (refusal value : ℕ) → Numbers
answer k n = record { refusal = k; value = n }

pub values_computed : Computes value_numbers ((gives 18, answer 0 18) ∷ (gives 0, answer 0 0) ∷ (turns_away 15, answer 15 0) ∷ [])
values_computed = refl

pub refusals_computed : Computes refusal_number ((none, 0) ∷ (some 22, 22) ∷ (some 23, 23) ∷ [])
refusals_computed = refl

abbrev run : (refusal turned_away : ℕ) → Run
run k n = record { refusal = k; turned_away = n }

pub runs_computed : Computes run_numbers ((gives 0, run 0 0) ∷ (gives 2, run 0 2) ∷ (turns_away 1, run 1 0) ∷ [])
runs_computed = refl

-- ---- what days apply: 1 and the tolerance, which may be 0, or 0 where they apply none
abbrev applied : (refusal applies tolerance : ℕ) → Applied
applied k applies e = record { refusal = k; applies = applies; tolerance = e }

pub applied_computed : Computes applied_numbers
    ((gives (some 25), applied 0 1 25) ∷ (gives (some 0), applied 0 1 0) ∷ (gives none, applied 0 0 0) ∷ (turns_away 23, applied 23 0 0) ∷ [])
applied_computed = refl

-- ---- a place: document 01's row k, "5000 and −5000 over 10000", rounded as document 02's item 1 has it
abbrev spot : (refusal denominator : ℕ) (x y whole_x whole_y : ℤ) → Spot
spot k d x y p q = record { refusal = k; denominator = d; x = x; y = y; whole_x = p; whole_y = q }

pub spots_computed : Computes spot_numbers
    ((gives (record { exact = record { x = pos 5000; y = minus 5000; d = pos 10000 }; rounded_x = pos 1; rounded_y = minus 1 }), spot 0 10000 (pos 5000) (minus 5000) (pos 1) (minus 1))
    ∷ (turns_away 21, spot 21 0 (pos 0) (pos 0) (pos 0) (pos 0))
    ∷ [])
spots_computed = refl

-- ---- a crossing: 1 and the time, document 01's 33/10 of row l, or 0 for no
abbrev crossing : (refusal crosses numerator denominator : ℕ) → Crossing
crossing k crosses n d = record { refusal = k; crosses = crosses; numerator = n; denominator = d }

pub crossings_computed : Computes crossing_numbers
    ((gives (some (record { num = 33; den = 10 })), crossing 0 1 33 10) ∷ (gives none, crossing 0 0 0 0) ∷ (turns_away 13, crossing 13 0 0 0) ∷ [])
crossings_computed = refl

-- ---- a radius question: 1, the leg and the time, or 0 for no
abbrev near : (refusal approaches leg numerator denominator : ℕ) → Approach
near k approaches i n d = record { refusal = k; approaches = approaches; leg = i; numerator = n; denominator = d }

pub approaches_computed : Computes approach_numbers
    ((gives (some (record { leg = 3; num = 7; den = 2 })), near 0 1 3 7 2)
    ∷ (gives (some (record { leg = 0; num = 0; den = 1 })), near 0 1 0 0 1)
    ∷ (gives none, near 0 0 0 0 0)
    ∷ (turns_away 16, near 16 0 0 0 0)
    ∷ [])
approaches_computed = refl

-- ---- an anchor's state, 1.5 and −2.5: every number but 0 says that the flag is on, and 1 and 0 are what is told
abbrev numbered : (seen : ℕ) → AnchorState
numbered seen = record { x = of_bits binary32 0x3fc00000; y = of_bits binary32 0xc0200000; seen = seen }

abbrev flagged : Bool → State
flagged on = record { x = of_bits binary32 0x3fc00000; y = of_bits binary32 0xc0200000; seen = on }

pub states_computed : Computes state_of
    ((numbered 0, flagged false) ∷ (numbered 1, flagged true) ∷ (numbered 2, flagged true) ∷ (numbered 4294967295, flagged true) ∷ [])
states_computed = refl

pub flags_computed : Computes state_numbers ((flagged false, numbered 0) ∷ (flagged true, numbered 1) ∷ [])
flags_computed = refl

-- what a reading answers, handed a state whose flag says 2: the rounded place and the new state, or the refusal and the very state that was handed in
abbrev anchored : (refusal : ℕ) (x y : ℤ) → AnchorState → Anchored
anchored k x y s = record { refusal = k; x = x; y = y; state = s }

pub readings_computed : Computes (λ (a : Answer Point). anchored_numbers (numbered 2) a (flagged true))
    ((gives (point_at (pos 2) (minus 3)), anchored 0 (pos 2) (minus 3) (numbered 1)) ∷ (turns_away 19, anchored 19 (pos 0) (pos 0) (numbered 2)) ∷ [])
readings_computed = refl
