-- WHAT A HALL MAY COUNT ON, of every table that loading accepts: more days never apply less, a row for day 0 applies from the start, and rows after a day decide
-- nothing up to it.
use Rattle.std.specs.Prelude.{◌≡◌, refl, ◌↔◌, Bool, true, false, cond, List, [], ◌∷◌, ℕ, ◌<◌, ◌≤◌, leb, ltb, length}
use Rattle.std.proofs.Common.{sym, ◌∙◌, ap, arith, leb-false, ltb-false, le-ltb}
use Rattle.std.proofs.Math.Option.{Option, some, none}
use Rattle.std.proofs.lemmas.Bool.{lt-leb}
use Rattle.distance.specs.Integers.Tests.{Test, holds, fails, test, neither}
use Rattle.distance.specs.Laws.All.{All, all_more}
use Rattle.record.specs.Checks.{Row, bad_row, some_bad_row, load_refusal}
use Rattle.record.proofs.Laws.First.{some_none}
use Rattle.table.specs.Table.{last_row, days_give}
use Rattle.table.proofs.Laws.Checking.{no_rows_refused, row_refused, all_accepted, accepted_few}
use Rattle.table.proofs.Laws.Rows.{none_exactly}

-- ---- WHAT IS ACCEPTED, taken apart: from 1 to 32 rows, of which each may follow the one before it
abbrev pub Follows : (before : Option Row) → Row → Type 0
Follows none r = r.row_tolerance ≤ 32000
Follows (some q) r = (q.day < r.day) × (q.row_tolerance ≤ r.row_tolerance) × (r.row_tolerance ≤ 32000)

pub data Ordered : (before : Option Row) → List Row → Type 0 where
  no_row_left : {before : Option Row} → Ordered before []
  row_then : {before : Option Row} {r : Row} {rows : List Row} → Follows before r → Ordered (some r) rows → Ordered before (r ∷ rows)

follows : (before : Option Row) (r : Row) → bad_row before r ≡ false → Follows before r
follows none r h = ltb-false 32000 r.row_tolerance h
follows (some q) r h =
    let a = neither (leb r.day q.day) _ h in
    let b = neither (ltb r.row_tolerance q.row_tolerance) (ltb 32000 r.row_tolerance) a.1 in
    (leb-false r.day q.day a.0, ltb-false r.row_tolerance q.row_tolerance b.0, ltb-false 32000 r.row_tolerance b.1)

good : (before : Option Row) (r : Row) → Follows before r → bad_row before r ≡ false
good none r h = le-ltb 32000 r.row_tolerance h
good (some q) r (a, b, c) = rw (lt-leb r.day q.day a, le-ltb r.row_tolerance q.row_tolerance b, le-ltb 32000 r.row_tolerance c) refl

ordered : (before : Option Row) (rows : List Row) → some_bad_row before rows ≡ false → Ordered before rows
unfolding some_bad_row
ordered before [] h = no_row_left
ordered before (r ∷ rows) h = let a = neither (bad_row before r) (some_bad_row (some r) rows) h in row_then (follows before r a.0) (ordered (some r) rows a.1)

all_good : {before : Option Row} {rows : List Row} → Ordered before rows → some_bad_row before rows ≡ false
unfolding some_bad_row
all_good no_row_left = refl
all_good (row_then {before} {r} h t) = rw (good before r h, all_good t) refl

pub accepted_exactly : (rows : List Row) → load_refusal rows ≡ none ↔ ((1 ≤ length rows) × (length rows ≤ 32) × Ordered none rows)
accepted_exactly rows = (λ h. (some_rows h, accepted_few rows h, ordered none rows (no_bad_row h (some_bad_row none rows) refl)), λ (a, b, o). all_accepted rows a b (all_good o))
  where
    some_rows : load_refusal rows ≡ none → 1 ≤ length rows
    some_rows h = go (test 1 (length rows))
      where
        go : {b : Bool} → Test 1 (length rows) b → 1 ≤ length rows
        go (holds k) = k
        go (fails k) = absurd (some_none (sym (no_rows_refused rows (omega arith)) ∙ h))

    no_bad_row : load_refusal rows ≡ none → (b : Bool) → some_bad_row none rows ≡ b → some_bad_row none rows ≡ false
    no_bad_row h true e = absurd (some_none (sym (row_refused rows (some_rows h) (accepted_few rows h) e) ∙ h))
    no_bad_row h false e = e

-- ---- MORE DAYS NEVER APPLY LESS
abbrev pub NoLess : Option ℕ → Option ℕ → Type 0
NoLess none f = Unit
NoLess (some e) none = ⊥
NoLess (some e) (some f) = e ≤ f

-- .. taken apart: what is given is given still, and no less
pub no_less_gives : (e : ℕ) (f : Option ℕ) → NoLess (some e) f → (g : ℕ) × (f ≡ some g) × (e ≤ g)
no_less_gives e none h = absurd h
no_less_gives e (some g) h = (g, refl, h)

-- what the rows up to one gave is at most that one's tolerance
abbrev UpTo : Option ℕ → (before : Option Row) → Type 0
UpTo none before = Unit
UpTo (some e) none = ⊥
UpTo (some e) (some q) = e ≤ q.row_tolerance

further : (before : Option Row) (r : Row) (e : Option ℕ) → Follows before r → UpTo e before → UpTo e (some r)
further before r none h u = tt
further none r (some e) h u = absurd u
further (some q) r (some e) h u = omega (arith, h.1, u)

no_less_itself : (e : ℕ) → NoLess (some e) (some e)
no_less_itself e = omega arith

no_less_row : (e : Option ℕ) (r : Row) → UpTo e (some r) → NoLess e (some r.row_tolerance)
no_less_row none r u = tt
no_less_row (some e) r u = u

module _ (d l : ℕ) (less : d ≤ l) where
  later_no_less : {before : Option Row} {rows : List Row} → Ordered before rows → (e f : Option ℕ) → UpTo e before → NoLess e f → NoLess (last_row e rows d) (last_row f rows l)
  unfolding last_row
  later_no_less no_row_left e f u n = n
  later_no_less (row_then {before} {r} {rows} h t) e f u n = go (test r.day d) (test r.day l) (later_no_less t)
    where
      go : {p q : Bool} → Test r.day d p → Test r.day l q → ((x y : Option ℕ) → UpTo x (some r) → NoLess x y → NoLess (last_row x rows d) (last_row y rows l))
          → NoLess (last_row (cond p (some r.row_tolerance) e) rows d) (last_row (cond q (some r.row_tolerance) f) rows l)
      go (holds x) (holds y) rest = rest (some r.row_tolerance) (some r.row_tolerance) (omega arith) (no_less_itself r.row_tolerance)
      go (holds x) (fails y) rest = absurd (omega arith)
      go (fails x) (holds y) rest = rest e (some r.row_tolerance) (further before r e h u) (no_less_row e r (further before r e h u))
      go (fails x) (fails y) rest = rest e f (further before r e h u) n

  pub more_days : (rows : List Row) → load_refusal rows ≡ none → NoLess (days_give rows d) (days_give rows l)
  more_days rows h = later_no_less ((accepted_exactly rows).0 h).2 none none tt tt

-- ---- A ROW FOR DAY 0 applies from the start
pub from_the_start : (r : Row) (rows : List Row) (d : ℕ) → r.day ≡ 0 → days_give (r ∷ rows) d ≡ none → ⊥
from_the_start r rows d e h = go ((none_exactly d (r ∷ rows)).0 h)
  where
    go : All (λ (q : Row). d < q.day) (r ∷ rows) → ⊥
    go (all_more k t) = omega arith

-- ---- TABLES THAT AGREE UP TO A DAY give the same up to it
unfoldable pub rows_until : (day : ℕ) → List Row → List Row
rows_until day [] = []
rows_until day (r ∷ rows) = cond (leb r.day day) (r ∷ rows_until day rows) (rows_until day rows)

until_gives : (day d : ℕ) → d ≤ day → (so_far : Option ℕ) (rows : List Row) → last_row so_far (rows_until day rows) d ≡ last_row so_far rows d
unfolding last_row rows_until
until_gives day d h so_far [] = refl
until_gives day d h so_far (r ∷ rows) = go (test r.day day) (λ given. until_gives day d h given rows)
  where
    go : {b : Bool} → Test r.day day b → ((given : Option ℕ) → last_row given (rows_until day rows) d ≡ last_row given rows d)
        → last_row so_far (cond b (r ∷ rows_until day rows) (rows_until day rows)) d ≡ last_row (cond (leb r.day d) (some r.row_tolerance) so_far) rows d
    go (holds k) rest = rest (cond (leb r.day d) (some r.row_tolerance) so_far)
    go (fails k) rest = rw (lt-leb r.day d (omega arith)) (rest so_far)

pub same_until : (day d : ℕ) (rows others : List Row) → rows_until day rows ≡ rows_until day others → d ≤ day → days_give rows d ≡ days_give others d
same_until day d rows others e h = sym (until_gives day d h none rows) ∙ ap (λ (l : List Row). days_give l d) e ∙ until_gives day d h none others
