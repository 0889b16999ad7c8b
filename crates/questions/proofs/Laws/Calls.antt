-- A list of calls as it is lent: numbers, beside the tables that they name.
use Rattle.std.specs.Prelude.{◌≡◌, ℕ, ◌+◌, ◌-◌, ◌*◌, ◌/◌, ◌%◌, ◌^◌, ◌<◌, ◌≤◌, length, get_or, take, drop}
use Rattle.std.proofs.Math.Path.{refl, ap}
use Rattle.std.proofs.Common.{sym, ◌∙◌, arith, add-one, length-append, take-suc, take_all, take_at, drop_at, lt-ltb, le-ltb, le-leb}
use mathlib.Core.List.{List, [], ◌∷◌, ◌++◌, append_assoc}
use Rattle.distance.specs.Laws.All.{All, all_none, all_more}
use Rattle.distance.proofs.Laws.All.{all_append}
use Rattle.table.specs.Table.{numbers_table, table_at}
use Rattle.table.specs.Answers.{table_of}
use Rattle.table.proofs.Laws.Lent.{Held, has_numbers}
use Rattle.table.specs.declared.Table.{Table}
use Rattle.aging.specs.Aging.{Call, by_tolerance, by_days, left_by, answered}
use Rattle.questions.specs.Agings.{run, call_of, calls_of, one_if_refused, refused_calls}
use Rattle.questions.proofs.Laws.Agings.{run_more, refused_more}

-- ---- a number is a tolerance, or days and a table
module _ (tables : List ℕ) where
  pub is_tolerance : (n : ℕ) → n < 65536 → call_of tables n ≡ by_tolerance n
  unfolding call_of
  is_tolerance n h = rw (lt-ltb n 65536 h) refl

  pub is_days : (n : ℕ) → 65536 ≤ n → call_of tables n ≡ by_days (n % 65536) (table_at tables (n / 65536 - 1))
  unfolding call_of
  is_days n h = rw (le-ltb n 65536 h) refl

  -- the number of days by table k, and every number from 65,536 on is one
  pub by_number : (k d : ℕ) → d < 65536 → call_of tables (65536 * (k + 1) + d) ≡ by_days d (table_at tables k)
  by_number k d h =
      let day : (65536 * (k + 1) + d) % 65536 ≡ d = omega arith in
      let table : (65536 * (k + 1) + d) / 65536 - 1 ≡ k = omega arith in
      is_days (65536 * (k + 1) + d) (omega arith) ∙ rw (day, table) refl

  -- ---- the calls up to one, and one more
  calls_more : (l : List ℕ) (n : ℕ) → calls_of tables (l ++ n ∷ []) ≡ calls_of tables l ++ call_of tables n ∷ []
  unfolding calls_of
  calls_more [] n = refl
  calls_more (m ∷ l) n = ap (λ (r : List Call). call_of tables m ∷ r) (calls_more l n)

  module _ (b l : List ℕ) where
    pub run_none : b ≡ run b (calls_of tables (take 0 l))
    unfolding run calls_of
    run_none = refl

    pub run_next : (i : ℕ) → i < length l → left_by (run b (calls_of tables (take i l))) (call_of tables (get_or l i 0)) ≡ run b (calls_of tables (take (i + 1) l))
    run_next i h = sym (rw (add-one, take-suc l i 0 h, calls_more (take i l) (get_or l i 0)) (run_more b (calls_of tables (take i l)) (call_of tables (get_or l i 0))))

    pub run_all : (i : ℕ) → length l ≤ i → run b (calls_of tables (take i l)) ≡ run b (calls_of tables l)
    run_all i h = rw (take_all i l h) refl

    pub refused_first : 0 ≡ refused_calls b (calls_of tables (take 0 l))
    unfolding refused_calls calls_of
    refused_first = refl

    pub refused_next : (i : ℕ) → i < length l
        → refused_calls b (calls_of tables (take i l)) + one_if_refused (answered (run b (calls_of tables (take i l))) (call_of tables (get_or l i 0))) ≡ refused_calls b (calls_of tables (take (i + 1) l))
    refused_next i h = sym (rw (add-one, take-suc l i 0 h, calls_more (take i l) (get_or l i 0)) (refused_more b (calls_of tables (take i l)) (call_of tables (get_or l i 0))))

    pub refused_all : (i : ℕ) → length l ≤ i → refused_calls b (calls_of tables (take i l)) ≡ refused_calls b (calls_of tables l)
    refused_all i h = rw (take_all i l h) refl

-- ---- EVERY LIST OF CALLS HAS ITS NUMBERS AND TABLES, if there are fewer than 2⁴⁸ − 1 of them, which is more than any memory holds. A call that can be made has
-- arguments of 16 bits, and a table that the code's struct can hold (`Held` of the table's Laws/Lent.antt).
pub data SixteenBits : Call → Type 0 where
  tolerance_16 : {e : ℕ} → e < 65536 → SixteenBits (by_tolerance e)
  days_16 : {d : ℕ} → d < 65536 → (t : Table) → Held t → SixteenBits (by_days d (table_of t))

pub record Lent (before : List ℕ) (calls : List Call) : Type 0 where
  pub tables : List ℕ
  pub numbers : List ℕ
  pub tables_16 : All (λ (n : ℕ). n < 65536) tables
  pub numbers_64 : All (λ (n : ℕ). n < 2 ^ 64) numbers
  pub are_calls : calls_of (before ++ tables) numbers ≡ calls

-- the table behind those that stand before it
table_there : (before numbers after : List ℕ) (k : ℕ) → length before ≡ 65 * k → length numbers ≡ 65 → table_at (before ++ (numbers ++ after)) k ≡ numbers_table numbers
table_there before numbers after k h l =
    let long : 65 * k + 65 ≤ length (before ++ (numbers ++ after)) = rw (length-append before (numbers ++ after), length-append numbers after) (omega arith) in
    let its : take 65 (drop (65 * k) (before ++ (numbers ++ after))) ≡ numbers = rw (drop_at before (numbers ++ after) (65 * k) h) (take_at numbers after 65 l) in
    rw (le-leb (65 * k + 65) (length (before ++ (numbers ++ after))) long, its) refl

lent_after : (before : List ℕ) (k : ℕ) {calls : List Call} → length before ≡ 65 * k → All SixteenBits calls → k + length calls < 281474976710655 → Lent before calls
unfolding calls_of
lent_after before k h all_none few = record { tables = []; numbers = []; tables_16 = all_none; numbers_64 = all_none; are_calls = refl }
lent_after before k h (all_more (tolerance_16 {e} small) rest) few =
    let r = lent_after before k h rest (omega arith) in
    record { tables = r.tables; numbers = e ∷ r.numbers; tables_16 = r.tables_16; numbers_64 = all_more {m = e} (omega arith) r.numbers_64; are_calls = rw (is_tolerance (before ++ r.tables) e small, r.are_calls) refl }
lent_after before k h (all_more (days_16 {d} small t held) rest) few =
    let n = has_numbers t held in
    let l = n.all_there in
    let grown : length (before ++ n.numbers) ≡ 65 * (k + 1) = rw (length-append before n.numbers) (omega arith) in
    let r = lent_after (before ++ n.numbers) (k + 1) grown rest (omega arith) in
    let all = append_assoc before n.numbers r.tables in
    record {
      tables = n.numbers ++ r.tables;
      numbers = (65536 * (k + 1) + d) ∷ r.numbers;
      tables_16 = all_append n.numbers_16 r.tables_16;
      numbers_64 = all_more {m = 65536 * (k + 1) + d} (omega arith) r.numbers_64;
      are_calls = rw (by_number (before ++ (n.numbers ++ r.tables)) k d small, table_there before n.numbers r.tables k h l, n.are_rows) (ap (λ (c : List Call). by_days d (table_of t) ∷ c) (ap (λ (p : List ℕ). calls_of p r.numbers) (sym all) ∙ r.are_calls));
    }

pub numbers_of : {calls : List Call} → All SixteenBits calls → length calls < 281474976710655 → Lent [] calls
numbers_of all few = lent_after [] 0 refl all (omega arith)
