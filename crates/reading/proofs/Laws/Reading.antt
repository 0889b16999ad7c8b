-- The reader at a position: where a fix stands, what is yielded there, and what it says of the checks.
use Rattle.std.specs.Prelude.{◌≡◌, Bool, true, false, cond, ◌&&◌, List, ℕ, suc, ◌+◌, ◌-◌, ◌<◌, ◌≤◌, ltb, length}
use Rattle.std.proofs.Math.Path.{refl}
use Rattle.std.proofs.Common.{◌∙◌, add-one, arith}
use Rattle.std.proofs.Math.Bool.{and-false}
use Rattle.std.proofs.Math.Option.{Option, some, none}
use Rattle.std.proofs.Math.Dec.{leb}
use borrow.Author.Tests.{lt-ltb, le-ltb, lt-leb, le-leb, ltb-true, leb-true}
use Rattle.distance.specs.Fix.{Fix}
use Rattle.format.specs.Kinds.{kinds, coded}
use Rattle.format.specs.Format.{kind_field, kind_of, record_length, count_field, fix_at}
use Rattle.format.proofs.Laws.Kinds.{longer}
use Rattle.distance.specs.Integers.Tests.{both}
use Rattle.record.specs.Checks.{read_refusal}
use Rattle.record.proofs.Laws.First.{some_none}
use Rattle.reading.specs.Reading.{stands, yields, moves, past_every_fix, position_for, begins, told_refusal}

module _ (b : List ℕ) (k : ℕ) where
  pub stands_short : length b < record_length (kind_of b) (suc k) → stands b k ≡ false
  unfolding stands
  stands_short h = rw (lt-leb (record_length (kind_of b) (suc k)) (length b) h, and-false (ltb k (count_field b))) (and-false (coded kinds (kind_field b)))

  pub stands_past : count_field b ≤ k → stands b k ≡ false
  unfolding stands
  stands_past h = rw (le-ltb k (count_field b) h) (and-false (coded kinds (kind_field b)))

  pub stands_unknown : coded kinds (kind_field b) ≡ false → stands b k ≡ false
  unfolding stands
  stands_unknown h = rw h refl

  pub stands_if : coded kinds (kind_field b) ≡ true → k < count_field b → stands b k ≡ leb (record_length (kind_of b) (suc k)) (length b)
  unfolding stands
  stands_if known h = rw (known, lt-ltb k (count_field b) h) refl

  pub stands_true : stands b k ≡ true → (k < count_field b) × (record_length (kind_of b) (suc k) ≤ length b)
  unfolding stands
  stands_true h =
      let q = both (coded kinds (kind_field b)) (ltb k (count_field b) && leb (record_length (kind_of b) (suc k)) (length b)) h in
      let p = both (ltb k (count_field b)) (leb (record_length (kind_of b) (suc k)) (length b)) q.1 in
      (ltb-true k (count_field b) p.0, leb-true (record_length (kind_of b) (suc k)) (length b) p.1)

  pub yields_some : stands b k ≡ true → yields b k ≡ some (fix_at (kind_of b) b k)
  unfolding yields
  yields_some h = rw h refl

  pub yields_none : stands b k ≡ false → yields b k ≡ none
  unfolding yields
  yields_none h = rw h refl

  pub moves_on : stands b k ≡ true → moves b k ≡ k + 1
  unfolding moves
  moves_on h = rw (h, add-one) refl

  pub moves_not : stands b k ≡ false → moves b k ≡ k
  unfolding moves
  moves_not h = rw h refl

-- where a fix is yielded fewer are left
pub fewer_left : (b : List ℕ) (k : ℕ) (f : Fix) → some f ≡ yields b k → count_field b - moves b k < count_field b - k
fewer_left b k f e = go (stands b k) refl
  where
    go : (s : Bool) → stands b k ≡ s → count_field b - moves b k < count_field b - k
    go true h = rw (moves_on b k h) (omega (arith, (stands_true b k h).0))
    go false h = absurd (some_none (e ∙ yields_none b k h))

-- AN UNKNOWN KIND: a reader, at whatever position somebody puts it, yields nothing.
pub unknown_yields_none : (b : List ℕ) (k : ℕ) → coded kinds (kind_field b) ≡ false → yields b k ≡ none
unknown_yields_none b k h = yields_none b k (stands_unknown b k h)

-- what a reader says of the checks: accepted, at every position of a fix; else what they say
module _ (b : List ℕ) (at : ℕ) where
  pub tells_accepted : at < 65536 → told_refusal b at ≡ none
  unfolding told_refusal
  tells_accepted h = rw (lt-ltb at 65536 h) refl

  pub tells_refusal : 65536 ≤ at → told_refusal b at ≡ read_refusal b
  unfolding told_refusal
  tells_refusal h = rw (le-ltb at 65536 h) refl

-- so one that has just begun says what they say
pub begins_tells : (b : List ℕ) → told_refusal b (begins b) ≡ read_refusal b
unfolding told_refusal
begins_tells b = go (read_refusal b)
  where
    go : (r : Option ℕ) → cond (ltb (position_for r) past_every_fix) none r ≡ r
    go none = refl
    go (some k) = refl

-- a reader at one of the first n fixes, where the kind is known and the count and the bytes have them, yields it and goes to the next
module _ (b : List ℕ) (k n : ℕ) (known : coded kinds (kind_field b) ≡ true) (less : k < n) (in_count : n ≤ count_field b) (whole : record_length (kind_of b) n ≤ length b) where
  stands_there : stands b k ≡ true
  stands_there = stands_if b k known (omega arith) ∙ le-leb (record_length (kind_of b) (suc k)) (length b) (omega (arith, longer (kind_of b) (suc k) n less))

  pub yields_it : yields b k ≡ some (fix_at (kind_of b) b k)
  yields_it = yields_some b k stands_there

  pub moves_to_next : moves b k ≡ k + 1
  moves_to_next = moves_on b k stands_there
