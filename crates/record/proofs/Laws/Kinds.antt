-- The kind decides nothing where no kind has the number that stands there.
use Rattle.std.specs.Prelude.{◌≡◌, refl, true, false, cond, List, ℕ, ltb, length}
use Rattle.std.proofs.Math.Option.{some}
use Rattle.format.specs.Kinds.{Kind, kinds, coded}
use Rattle.format.specs.Format.{kind_field}
use Rattle.format.proofs.Laws.Numbers.{false_true}
use Rattle.record.specs.Checks.{Operation, reading, writing, aging, aging_by_days, placing, crossing, loading, approaching, anchoring, writing_dearest, makes, member, Given, first, sentence, asked_of, refusal}

-- AN UNKNOWN KIND: whatever an operation over a record's bytes, which makes check 2, is asked, and whatever stands in their other bytes, the answer is the refusal
-- 1 or 2. (A reader, at whatever position somebody puts it, yields nothing: `unknown_yields_none` of the reading's Laws/Reading.antt.)
pub unknown_kind : (o : Operation) (K : Kind) (b : List ℕ) (g : Given) → member 2 (makes o) ≡ true → coded kinds (kind_field b) ≡ false
    → refusal K o (asked_of b g) ≡ cond (ltb (length b) 10) (some 1) (some 2)
unfolding first sentence
unknown_kind reading K b g w h = rw h refl
unknown_kind writing K b g w h = absurd (false_true w)
unknown_kind loading K b g w h = absurd (false_true w)
unknown_kind anchoring K b g w h = absurd (false_true w)
unknown_kind writing_dearest K b g w h = absurd (false_true w)
unknown_kind aging K b g w h = rw h refl
unknown_kind aging_by_days K b g w h = rw h refl
unknown_kind placing K b g w h = rw h refl
unknown_kind crossing K b g w h = rw h refl
unknown_kind approaching K b g w h = rw h refl
