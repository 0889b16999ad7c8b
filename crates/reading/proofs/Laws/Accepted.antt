-- The reader of a record that is accepted, and of one that is refused.
use Rattle.std.specs.Prelude.{◌≡◌, refl, Bool, List, ℕ, zero, suc, ◌+◌, ◌<◌, ◌≤◌, length}
use Rattle.std.proofs.Common.{sym, ◌∙◌, ap, arith, le-leb}
use Rattle.std.proofs.Math.Option.{Option, some, none}
use Rattle.distance.specs.Integers.Tests.{Test, holds, fails, test}
use Rattle.format.specs.Format.{kind_of, record_length, fix_at, count_field}
use Rattle.format.proofs.Laws.Kinds.{longer}
use Rattle.format.proofs.Laws.RoundTrip.{AreBytes, number_below}
use Rattle.record.specs.Checks.{read_refusal, IsAccepted}
use Rattle.record.proofs.Laws.Accepted.{accepted_good}
use Rattle.reading.specs.Reading.{yields, moves, begins, past_every_fix, told_refusal}
use Rattle.reading.proofs.Laws.Reading.{stands_if, stands_past, yields_some, yields_none, moves_not, moves_to_next, tells_accepted, tells_refusal}

-- ---- THE READER of an accepted record: fix after fix, and then none, each time
pub yields_fix : (b : List ℕ) (k : ℕ) → IsAccepted b → k < count_field b → yields b k ≡ some (fix_at (kind_of b) b k)
yields_fix b k a h = let g = (accepted_good b a).head in yields_some b k (stands_if b k g.known h ∙ le-leb (record_length (kind_of b) (suc k)) (length b) (omega (arith, g.whole, longer (kind_of b) (suc k) (count_field b) h)))

pub yields_end : (b : List ℕ) (k : ℕ) → count_field b ≤ k → (yields b k ≡ none) × (moves b k ≡ k)
yields_end b k h = (yields_none b k (stands_past b k h), moves_not b k (stands_past b k h))

-- ---- A READER from its beginning: where it stands after i steps
abbrev pub after_steps : ℕ → List ℕ → ℕ
after_steps zero b = begins b
after_steps (suc i) b = moves b (after_steps i b)

-- of an accepted record: at fix i, as long as there is one, so it yields the fixes in order ..
pub steps_on : (b : List ℕ) → IsAccepted b → (i : ℕ) → i ≤ count_field b → after_steps i b ≡ i
steps_on b a zero h = rw a.accepted refl
steps_on b a (suc i) h =
    let g = (accepted_good b a).head in
    ap (moves b) (steps_on b a i (omega arith)) ∙ moves_to_next b i (count_field b) g.known (omega arith) (omega arith) g.whole ∙ sym_one i
  where
    sym_one : (i : ℕ) → i + 1 ≡ suc i
    sym_one i = omega arith

pub reader_yields : (b : List ℕ) → IsAccepted b → (i : ℕ) → i < count_field b → yields b (after_steps i b) ≡ some (fix_at (kind_of b) b i)
reader_yields b a i h = rw (steps_on b a i (omega arith)) (yields_fix b i a h)

-- .. and after the last it says that none is left, each time
pub reader_ends : (b : List ℕ) → IsAccepted b → (j : ℕ) → yields b (after_steps (count_field b + j) b) ≡ none
reader_ends b a j = (yields_end b _ (stays j)).0
  where
    stays : (j : ℕ) → count_field b ≤ after_steps (count_field b + j) b
    stays zero = let e : count_field b + 0 ≡ count_field b = omega arith in rw (e, steps_on b a (count_field b) (omega arith)) (omega arith)
    stays (suc j) = let e : count_field b + suc j ≡ suc (count_field b + j) = omega arith in rw (e, (yields_end b (after_steps (count_field b + j) b) (stays j)).1) (stays j)

-- of refused bytes it yields none, each time: a count of two bytes is below the position at which it stands
pub refused_yields_none : (b : List ℕ) (k : ℕ) → AreBytes b → read_refusal b ≡ some k → (i : ℕ) → (after_steps i b ≡ past_every_fix) × (yields b (after_steps i b) ≡ none)
refused_yields_none b k h e i = (stood i, rw (stood i) (yields_end b past_every_fix below).0)
  where
    below : count_field b ≤ past_every_fix
    below = omega (arith, number_below b 8 2 h)

    stood : (i : ℕ) → after_steps i b ≡ past_every_fix
    stood zero = rw e refl
    stood (suc i) = ap (moves b) (stood i) ∙ (yields_end b past_every_fix below).1

-- and it says the same of the checks at each of its steps
pub reader_tells : (b : List ℕ) → AreBytes b → (i : ℕ) → told_refusal b (after_steps i b) ≡ read_refusal b
reader_tells b h i = go (read_refusal b) refl
  where
    within : IsAccepted b → (i : ℕ) → after_steps i b < past_every_fix
    within a zero = rw a.accepted (omega arith)
    within a (suc i) = go_on (test (count_field b) (after_steps i b)) (within a i)
      where
        go_on : {t : Bool} → Test (count_field b) (after_steps i b) t → after_steps i b < past_every_fix → moves b (after_steps i b) < past_every_fix
        go_on (holds ended) w = rw (yields_end b (after_steps i b) ended).1 w
        go_on (fails more) w = rw (moves_to_next b (after_steps i b) (count_field b) (accepted_good b a).head.known (omega arith) (omega arith) (accepted_good b a).head.whole) (omega (arith, (accepted_good b a).head.few_fixes))

    go : (r : Option ℕ) → read_refusal b ≡ r → told_refusal b (after_steps i b) ≡ read_refusal b
    go none e = tells_accepted b (after_steps i b) (within (record { accepted = e }) i) ∙ sym e
    go (some k) e = tells_refusal b (after_steps i b) (rw (refused_yields_none b k h e i).0 (omega arith))
