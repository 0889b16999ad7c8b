-- Checks 1 to 6, which ask for a record's head.
use Rattle.std.specs.Prelude.{◌≡◌, Bool, ◌&&◌, List, [], ◌∷◌, ℕ, zero, suc, ◌<◌, ◌≤◌, ltb, eqb, length}
use Rattle.std.proofs.Math.Path.{refl, ap}
use Rattle.std.proofs.Math.Bool.{true, false, not}
use Rattle.std.proofs.Math.Option.{none}
use Rattle.std.proofs.Common.{arith}
use borrow.Author.Tests.{lt-ltb, le-ltb, eq-eqb, ne_eqb, ltb-false, eqb-true, eqb-false, not-false}
use Rattle.distance.specs.Integers.Tests.{neither}
use Rattle.format.specs.Kinds.{kinds, coded}
use Rattle.format.specs.Format.{length_field, kind_field, mark_field, count_field, kind_of, record_length}
use Rattle.record.specs.Checks.{Check, few_bytes, other_kind, bad_count, bad_length, short_record, bad_mark, sentence, Given, asked_of, nothing, head_checks, fix_checks, read_refusal, head_refusal}
use Rattle.record.proofs.Laws.First.{NoneHolds, no_check, and_not, none_holds, none_front}

-- the checks from the sixth on, from the fifth on, and so on
abbrev pub from_6 : List Check
from_6 = bad_mark ∷ []

abbrev pub from_5 : List Check
from_5 = short_record ∷ from_6

abbrev pub from_4 : List Check
from_4 = bad_length ∷ from_5

abbrev pub from_3 : List Check
from_3 = bad_count ∷ from_4

abbrev pub from_2 : List Check
from_2 = other_kind ∷ from_3

-- what is said of lent bytes, and of what a call is handed beside them
abbrev pub asks : List ℕ → Given → Check → Bool
asks b g = sentence (kind_of b) (asked_of b g)

-- each sentence, decided
abbrev pub says : List ℕ → Check → Bool
says b = asks b nothing

module _ (b : List ℕ) where
  pub few : length b < 10 → says b few_bytes ≡ true
  unfolding sentence
  few h = lt-ltb _ _ h

  pub not_few : 10 ≤ length b → says b few_bytes ≡ false
  unfolding sentence
  not_few h = le-ltb _ _ h

  pub other : coded kinds (kind_field b) ≡ false → says b other_kind ≡ true
  unfolding sentence
  other h = ap not h

  pub not_other : coded kinds (kind_field b) ≡ true → says b other_kind ≡ false
  unfolding sentence
  not_other h = ap not h

  pub count_zero : count_field b ≡ 0 → says b bad_count ≡ true
  unfolding sentence
  count_zero h = rw (eq-eqb _ _ h) refl

  pub count_high : 4096 < count_field b → says b bad_count ≡ true
  unfolding sentence
  count_high h = rw (ne_eqb (count_field b) 0 (λ e. omega arith), lt-ltb _ _ h) refl

  pub count_good : (count_field b ≡ 0 → ⊥) → count_field b ≤ 4096 → says b bad_count ≡ false
  unfolding sentence
  count_good h k = rw (ne_eqb _ _ h, le-ltb _ _ k) refl

  pub length_other : (length_field b ≡ record_length (kind_of b) (count_field b) → ⊥) → says b bad_length ≡ true
  unfolding sentence
  length_other h = rw (ne_eqb _ _ h) refl

  pub length_same : length_field b ≡ record_length (kind_of b) (count_field b) → says b bad_length ≡ false
  unfolding sentence
  length_same h = rw (eq-eqb _ _ h) refl

  pub short : length b < length_field b → says b short_record ≡ true
  unfolding sentence
  short h = lt-ltb _ _ h

  pub not_short : length_field b ≤ length b → says b short_record ≡ false
  unfolding sentence
  not_short h = le-ltb _ _ h

  pub mark_high : (kind_of b).top < mark_field b → (mark_field b ≡ 65535 → ⊥) → says b bad_mark ≡ true
  unfolding sentence
  mark_high h k = rw (lt-ltb _ _ h, ne_eqb _ _ k) refl

  pub mark_never : mark_field b ≡ 65535 → says b bad_mark ≡ false
  unfolding sentence
  mark_never h = rw (eq-eqb _ _ h) (and_false (ltb (kind_of b).top (mark_field b)))
    where
      and_false : (x : Bool) → x && false ≡ false
      and_false true = refl
      and_false false = refl

  pub mark_low : mark_field b ≤ (kind_of b).top → says b bad_mark ≡ false
  unfolding sentence
  mark_low h = rw (le-ltb _ _ h) refl

  pub mark_says : says b bad_mark ≡ false → ltb (kind_of b).top (mark_field b) && not (eqb (mark_field b) 65535) ≡ false
  unfolding sentence
  mark_says h = h

-- what bytes that pass them have
pub record Head (b : List ℕ) : Type 0 where
  pub ten : 10 ≤ length b
  pub known : coded kinds (kind_field b) ≡ true
  pub some_fix : 1 ≤ count_field b
  pub few_fixes : count_field b ≤ 4096
  pub length_is : length_field b ≡ record_length (kind_of b) (count_field b)
  pub whole : record_length (kind_of b) (count_field b) ≤ length b

pub positive : (n : ℕ) → (n ≡ 0 → ⊥) → 1 ≤ n
positive zero f = absurd (f refl)
positive (suc n) f = omega arith

pub head_passed : (b : List ℕ) → head_refusal b ≡ none → Head b
unfolding sentence
head_passed b h = go (none_holds (says b) head_checks h)
  where
    go : NoneHolds (says b) head_checks → Head b
    go (and_not h1 (and_not h2 (and_not h3 (and_not h4 (and_not h5 (and_not h6 no_check)))))) =
        let ten = ltb-false (length b) 10 h1 in
        let n = neither (eqb (count_field b) 0) (ltb 4096 (count_field b)) h3 in
        let none-zero = eqb-false (count_field b) 0 n.0 in
        let few_fixes = ltb-false 4096 (count_field b) n.1 in
        let len = eqb-true (length_field b) (record_length (kind_of b) (count_field b)) (not-false _ h4) in
        let short-no = ltb-false (length b) (length_field b) h5 in
        record {
          ten = ten;
          known = not-false _ h2;
          some_fix = positive (count_field b) none-zero;
          few_fixes = few_fixes;
          length_is = len;
          whole = omega arith;
        }

-- an accepted record has a good head, and nothing is wrong with its fixes
pub head_none : (b : List ℕ) → read_refusal b ≡ none → head_refusal b ≡ none
head_none b h = none_front (says b) head_checks fix_checks h

pub accepted_head : (b : List ℕ) → read_refusal b ≡ none → Head b
accepted_head b h = head_passed b (head_none b h)
