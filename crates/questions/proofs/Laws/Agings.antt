-- What a list of agings leaves, by the step of every call.
use Rattle.std.specs.Prelude.{◌≡◌, refl, ◌⊎◌, Bool, List, [], ◌∷◌, ◌++◌, ℕ, ◌+◌, ◌-◌, ◌<◌, ◌≤◌, max, length, drop}
use Rattle.std.proofs.Common.{sym, ◌∙◌, ap, inl, inr, ⊎_elim, arith, drop-drop, ne_eqb}
use Rattle.std.proofs.Math.Option.{Option, some, none}
use Rattle.distance.specs.Fix.{Fix, Rising}
use Rattle.distance.specs.Place.{Time, AskedOf, place, Near}
use Rattle.distance.specs.Integers.Tests.{Test, holds, fails, test}
use Rattle.distance.specs.Laws.All.{All, all_none, all_more}
use Rattle.distance.proofs.Laws.Near.{near_self}
use Rattle.format.specs.Kinds.{Kind}
use Rattle.format.specs.Format.{kind_of, record_length, never, mark_field, count_field, length_field, fixes, fix_at}
use Rattle.record.specs.Checks.{IsAccepted, read_refusal}
use Rattle.record.specs.Answers.{Answer, gives, turns_away}
use Rattle.format.proofs.Laws.Kinds.{kind_of_is, longer}
use Rattle.format.proofs.Laws.Each.{length_each}
use Rattle.record.proofs.Laws.First.{some_none}
use Rattle.format.proofs.Laws.RoundTrip.{AreBytes}
use Rattle.record.proofs.Laws.Accepted.{accepted_good}
use Rattle.thinning.specs.Thinning.{thinned}
use Rattle.aging.specs.Aging.{Call, left_by, answered, applies, new_mark, record_at, thinned_record}
use Rattle.thinning.proofs.Laws.Trail.{again, no_more}
use Rattle.thinning.proofs.Laws.Near.{thinned_near}
use Rattle.aging.proofs.Laws.Step.{thins, step, left_refused, applies_low}
use Rattle.questions.specs.Agings.{run, Book, new_book, greater, fed, fed_all, kept_at, mark_of, counts_as, one_if_refused, refused_calls, run_answer}

-- ---- what the buffer is after some of the calls: b is the original's buffer, c the present one
pub record State (b c : List ℕ) (E : Option ℕ) : Type 0 where
  pub still_accepted : IsAccepted c
  pub same_kind : kind_of c ≡ kind_of b
  pub still_bytes : AreBytes c
  pub exactly : fixes c ≡ kept_at E (fixes b)
  pub marked : mark_field c ≡ mark_of E
  pub same_size : length c ≡ length b
  pub rest : drop (length_field b) c ≡ drop (length_field b) b
  pub low : (e : ℕ) → E ≡ some e → e ≤ (kind_of b).top

-- the greater of none and e, and of two
kept_again : (E : Option ℕ) (e : ℕ) (l : List Fix) → thinned e (kept_at E l) ≡ kept_at (greater E (some e)) l
unfolding kept_at greater
kept_again none e l = refl
kept_again (some E) e l = again E e l

mark_again : (top : ℕ) → top < 65535 → (E : Option ℕ) (e : ℕ) → ((m : ℕ) → E ≡ some m → m ≤ top) → new_mark (mark_of E) e ≡ mark_of (greater E (some e))
unfolding new_mark mark_of greater
mark_again top marked none e low = refl
mark_again top marked (some E) e low = let h = low E refl in rw (ne_eqb E 65535 (λ z. omega arith)) refl

low_again : (top : ℕ) (E : Option ℕ) (e : ℕ) → ((m : ℕ) → E ≡ some m → m ≤ top) → e ≤ top → (m : ℕ) → greater E (some e) ≡ some m → m ≤ top
unfolding greater
low_again top none e low h m z = let y : e ≡ m = cc in omega arith
low_again top (some E) e low h m z = let y : max E e ≡ m = cc in let g = low E refl in omega arith

greater_none : (E : Option ℕ) → greater E none ≡ E
unfolding greater
greater_none none = refl
greater_none (some E) = refl

-- fewer fixes than the original has
kept_fewer : (E : Option ℕ) (l : List Fix) → length (kept_at E l) ≤ length l
unfolding kept_at
kept_fewer none l = omega arith
kept_fewer (some E) l = no_more E l

drop_further : (b c : List ℕ) (m n : ℕ) → m ≤ n → drop m c ≡ drop m b → drop n c ≡ drop n b
drop_further b c m n h e =
    let k : m + (n - m) ≡ n = omega arith in
    let f : (l : List ℕ) → drop n l ≡ drop (n - m) (drop m l) = λ l. sym (drop-drop (n - m) m l ∙ rw k refl) in
    f c ∙ ap (drop (n - m)) e ∙ sym (f b)

-- ---- one call
thinned_state : (b c : List ℕ) (E : Option ℕ) (e : ℕ) → IsAccepted b → State b c E → e ≤ (kind_of b).top → State b (thinned_record c e) (greater E (some e))
thinned_state b c E e a s h =
    let t = thins c e s.still_bytes s.still_accepted (rw s.same_kind h) in
    let g = (accepted_good b a).head in
    let n : length (fixes b) ≡ count_field b = length_each (fix_at (kind_of b) b) 0 (count_field b) in
    let k : thinned e (fixes c) ≡ kept_at (greater E (some e)) (fixes b) = rw s.exactly (kept_again E e (fixes b)) in
    let fewer = kept_fewer (greater E (some e)) (fixes b) in
    let K = kind_of b in
    let short : record_length (kind_of c) (length (thinned e (fixes c))) ≤ length_field b =
    rw (k, s.same_kind) (omega (arith, g.length_is, longer K (length (kept_at (greater E (some e)) (fixes b))) (count_field b) (omega arith))) in
    record {
      still_accepted = t.still_accepted;
      same_kind = t.same_kind ∙ s.same_kind;
      still_bytes = t.bytes_still;
      exactly = t.fixes_are ∙ k;
      marked = t.mark_is ∙ rw s.marked (mark_again K.top (kind_of_is b).marked E e s.low);
      same_size = t.same_size ∙ s.same_size;
      rest = drop_further c (thinned_record c e) _ (length_field b) short t.rest_is ∙ s.rest;
      low = low_again K.top E e s.low h;
    }

one_call : (b c : List ℕ) (E : Option ℕ) (d : Call) → IsAccepted b → State b c E → State b (left_by c d) (greater E (applies (kind_of b) d))
one_call b c E d a s = rw (step c d s.still_accepted, s.same_kind) (go (applies (kind_of b) d) (λ e z. applies_low (kind_of b) d e z))
  where
    go : (t : Option ℕ) → ((e : ℕ) → t ≡ some e → e ≤ (kind_of b).top) → State b (record_at t c) (greater E t)
    go none low = rw (greater_none E) s
    go (some e) low = thinned_state b c E e a s (low e refl)

-- ---- the whole list
pub original_stays : (k : Book) (calls : List Call) → (fed_all k calls).original ≡ k.original
unfolding fed_all fed
original_stays k [] = refl
original_stays k (c ∷ calls) = original_stays (fed k c) calls

all_calls : (b c : List ℕ) (k : Book) (calls : List Call) → k.kind ≡ kind_of b → IsAccepted b → State b c k.E → State b (run c calls) (fed_all k calls).E
unfolding run fed_all fed
all_calls b c k [] κ a s = s
all_calls b c k (d ∷ calls) κ a s = all_calls b (left_by c d) (fed k d) calls κ a (rw κ (one_call b c k.E d a s))

-- the original itself, marked never
begins : (b : List ℕ) → AreBytes b → IsAccepted b → mark_field b ≡ never → State b b none
unfolding kept_at mark_of
begins b bytes a m = record { still_accepted = a; same_kind = refl; still_bytes = bytes; exactly = refl; marked = m; same_size = refl; rest = refl; low = λ e z. absurd (some_none (sym z)) }

pub agings : (b : List ℕ) (calls : List Call) → AreBytes b → IsAccepted b → mark_field b ≡ never → State b (run b calls) (fed_all (new_book (kind_of b) (fixes b)) calls).E
unfolding new_book
agings b calls bytes a m = all_calls b b (new_book (kind_of b) (fixes b)) calls refl a (begins b bytes a m)

-- ---- at every fractional time of the trail
pub kept_near : (E : Option ℕ) (l : List Fix) (u : Time) → Rising l → AskedOf l u → Near (counts_as E) (place l u) (place (kept_at E l) u)
unfolding kept_at counts_as
kept_near none l u h t = near_self 0 (place l u)
kept_near (some E) [] u h t = elim t [ ]
kept_near (some E) (a ∷ l) u h t = thinned_near E u a l h t.0

-- E IS THE GREATEST TOLERANCE APPLIED: each is at most E, and E is one of them or none was.
greater_left : (E t : Option ℕ) → counts_as E ≤ counts_as (greater E t)
unfolding greater counts_as
greater_left E none = omega arith
greater_left none (some e) = omega arith
greater_left (some E) (some e) = omega arith

greater_right : (E t : Option ℕ) → counts_as t ≤ counts_as (greater E t)
unfolding greater counts_as
greater_right E none = omega arith
greater_right none (some e) = omega arith
greater_right (some E) (some e) = omega arith

grows : (k : Book) (calls : List Call) → counts_as k.E ≤ counts_as (fed_all k calls).E
unfolding fed_all fed
grows k [] = omega arith
grows k (c ∷ calls) = omega (arith, greater_left k.E (applies k.kind c), grows (fed k c) calls)

pub at_most_E : (k : Book) (calls : List Call) → All (λ (c : Call). counts_as (applies k.kind c) ≤ counts_as (fed_all k calls).E) calls
unfolding fed_all fed
at_most_E k [] = all_none
at_most_E k (c ∷ calls) = all_more {m = c} (omega (arith, greater_right k.E (applies k.kind c), grows (fed k c) calls)) (at_most_E (fed k c) calls)

greater_one : (E t : Option ℕ) → (greater E t ≡ E) ⊎ (t ≡ greater E t)
unfolding greater
greater_one E none = inl (greater_none E)
greater_one none (some e) = inr refl
greater_one (some E) (some e) = go (test E e)
  where
    go : {b : Bool} → Test E e b → (some (max E e) ≡ some E) ⊎ (some e ≡ some (max E e))
    go (holds h) = let z : e ≡ max E e = omega arith in inr (ap some z)
    go (fails h) = let z : max E e ≡ E = omega arith in inl (ap some z)

-- a call of the list applied E
pub data Applied (K : Kind) (E : Option ℕ) : List Call → Type 0 where
  this_call : {c : Call} {l : List Call} → applies K c ≡ E → Applied K E (c ∷ l)
  later_call : {c : Call} {l : List Call} → Applied K E l → Applied K E (c ∷ l)

pub E_applied : (k : Book) (calls : List Call) → ((fed_all k calls).E ≡ k.E) ⊎ Applied k.kind (fed_all k calls).E calls
unfolding fed_all fed
E_applied k [] = inl refl
E_applied k (c ∷ calls) =
    ⊎_elim (λ h. ⊎_elim (λ g. inl (h ∙ g)) (λ g. inr (this_call (g ∙ sym h))) (greater_one k.E (applies k.kind c))) (λ a. inr (later_call a)) (E_applied (fed k c) calls)

-- ---- one call more, at the end
pub run_more : (b : List ℕ) (l : List Call) (c : Call) → run b (l ++ c ∷ []) ≡ left_by (run b l) c
unfolding run
run_more b [] c = refl
run_more b (d ∷ l) c = run_more (left_by b d) l c

-- the calls that were turned away are counted one after the other
pub refused_more : (b : List ℕ) (l : List Call) (c : Call) → refused_calls b (l ++ c ∷ []) ≡ refused_calls b l + one_if_refused (answered (run b l) c)
unfolding refused_calls run
refused_more b [] c = omega arith
refused_more b (d ∷ l) c = omega (arith, refused_more (left_by b d) l c)

pub at_most_one : (a : Answer ℕ) → one_if_refused a ≤ 1
at_most_one (gives n) = omega arith
at_most_one (turns_away k) = omega arith

-- ---- what the list answers: a refused record is left as it is by every call ..
pub run_refused : (b : List ℕ) (k : ℕ) (calls : List Call) → read_refusal b ≡ some k → run b calls ≡ b
unfolding run
run_refused b k [] h = refl
run_refused b k (c ∷ calls) h = ap (λ (l : List ℕ). run l calls) (left_refused b k c h) ∙ run_refused b k calls h

-- .. and so is what the call answers and leaves
pub refused_run : (b : List ℕ) (k : ℕ) (calls : List Call) → read_refusal b ≡ some k → (turns_away k ≡ run_answer b calls) × (b ≡ run b calls)
refused_run b k calls h = (rw h refl, sym (run_refused b k calls h))

pub made_run : (b c : List ℕ) (n : ℕ) (calls : List Call) → read_refusal b ≡ none → n ≡ refused_calls b calls → c ≡ run b calls → (gives n ≡ run_answer b calls) × (c ≡ run b calls)
made_run b c n calls h e f = (rw (h, e) refl, f)
