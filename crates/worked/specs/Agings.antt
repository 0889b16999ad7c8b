-- The program's agings are those of the worked rows: what its loop answers and leaves is what `aged_all` of the questions layer's specs/Worked.antt gives.
use Rattle.std.specs.Prelude.{Result, Ok, ◌≡◌, refl, List, ℕ, suc, ◌+◌, ◌<◌, ◌≤◌, length, drop, get_or}
use Rattle.std.proofs.Common.{sym, ◌∙◌, ap, add-one, arith, drop_of_length-le, drop-cons}
use Rattle.format.specs.Format.{fixes, mark_field}
use Rattle.record.specs.Answers.{Answer, gives, turns_away, answer_by}
use Rattle.record.specs.declared.refusal.Refusal.{Refusal}
use Rattle.aging.specs.Aging.{by_tolerance, left_by, answered}
use Rattle.questions.specs.Worked.{Left, unless_refused, aged_all}

-- What agings answered, with what they left of the buffer.
abbrev pub leaving : Result ℕ Refusal → List ℕ → Answer Left
leaving said b = answer_by (λ (c : ℕ). record { kept = fixes b; count = c; mark = mark_field b }) said

-- After the first i agings of a list, with the buffer and the count as they are then, the rest gives what the whole list gives.
pub record Going (b₀ es b : List ℕ) (count i : ℕ) : Type 0 where
  pub within : i ≤ length es
  pub same_size : length b ≡ length b₀
  pub to_do : aged_all b count (drop i es) ≡ aged_all b₀ 0 es

pub begun : (b es : List ℕ) → Going b es b 0 0
begun b es = record { within = omega arith; same_size = refl; to_do = refl }

next : (b es : List ℕ) (count i : ℕ) → i < length es
    → aged_all b count (drop i es) ≡ unless_refused (answered b (by_tolerance (get_or es i 0))) (λ c. aged_all (left_by b (by_tolerance (get_or es i 0))) c (drop (suc i) es))
next b es count i h = ap (aged_all b count) (drop-cons es i 0 h)

pub went_on : {b₀ es b : List ℕ} {count i : ℕ} (c : ℕ) (d : List ℕ) → Going b₀ es b count i → i < length es → answered b (by_tolerance (get_or es i 0)) ≡ gives c
    → length d ≡ length b → d ≡ left_by b (by_tolerance (get_or es i 0)) → Going b₀ es d c (i + 1)
went_on {b₀} {es} {b} {count} {i} c d g h a s e =
    let f : ℕ → Answer Left = λ n. aged_all (left_by b (by_tolerance (get_or es i 0))) n (drop (suc i) es) in
    let done : aged_all b count (drop i es) ≡ f c = next b es count i h ∙ ap (λ r. unless_refused r f) a in
    record {
      within = omega arith;
      same_size = s ∙ g.same_size;
      to_do = ap (λ k. aged_all d c (drop k es)) (add-one i) ∙ ap (λ l. aged_all l c (drop (suc i) es)) e ∙ sym done ∙ g.to_do;
    }

pub stopped : {b₀ es b : List ℕ} {count i : ℕ} (k : ℕ) → Going b₀ es b count i → i < length es → answered b (by_tolerance (get_or es i 0)) ≡ turns_away k
    → turns_away k ≡ aged_all b₀ 0 es
stopped {b₀} {es} {b} {count} {i} k g h a =
    let f : ℕ → Answer Left = λ n. aged_all (left_by b (by_tolerance (get_or es i 0))) n (drop (suc i) es) in
    sym (next b es count i h ∙ ap (λ r. unless_refused r f) a) ∙ g.to_do

pub ended : {b₀ es b : List ℕ} {count i : ℕ} → Going b₀ es b count i → length es ≤ i → leaving (Ok count) b ≡ aged_all b₀ 0 es
ended {b₀} {es} {b} {count} {i} g h = sym (ap (aged_all b count) (drop_of_length-le es h)) ∙ g.to_do
