-- The interface's numbers: 0 is no check's number, so that a refusal of 0 is none; and what the functions' arms answer.
use Rattle.std.specs.Prelude.{Result, Ok, Err, ◌≡◌, refl, Bool, List, [], ℕ, ◌≤◌, length, ℤ, pos}
use Rattle.std.proofs.Common.{sym, ◌∙◌, ap, arith}
use Rattle.std.proofs.Math.Option.{Option, some, none}
use Rattle.distance.specs.Fix.{Fix}
use Rattle.format.specs.Kinds.{Kind}
use Rattle.format.specs.Format.{kind_field, count_field, mark_field, of_head}
use Rattle.record.specs.Checks.{Check, few_bytes, other_kind, bad_count, bad_length, short_record, bad_mark, misplaced, unordered, long_span, high_tolerance, bad_thousandths, bad_moment, bad_window, bad_box, short_output, bad_silence, moment_in_silence, bad_row_count, bad_rows, bad_point, bad_reading, bad_state, bad_new_place, Row, number, first, FirstHolds, this, not_before, refusal_of, placing, crossing as crosses, approaching, read_refusal, load_refusal, anchor_refusal}
use Rattle.record.specs.Answers.{Answer, gives, turns_away, number_of, answer as told, unless}
use Rattle.record.proofs.Examples.{row}
use Rattle.table.specs.Answers.{row_at, table_of}
use Rattle.table.proofs.Laws.Checking.{count_is}
use Rattle.writing.specs.Writing.{write_refusal, write_answer}
use Rattle.dearest.specs.Dearest.{dearest_refusal, dearest_answer}
use Rattle.record.proofs.Laws.First.{first_exactly}
use Rattle.record.proofs.Laws.Head.{accepted_head}
use Rattle.format.proofs.Laws.Layout.{of_head_field}
use Rattle.distance.specs.Place.{Point, point_at}
use Rattle.distance.specs.Box.{Box, box_with}
use Rattle.reading.specs.Reading.{yields, read_answer}
use Rattle.aging.specs.Aging.{Call, age_refusal, age_answer, days_refusal, apply_answer, days_answer}
use Rattle.questions.specs.Agings.{run_answer, after_answer, near_after_answer}
use Rattle.moment.specs.Moment.{asked_moment, place_answer}
use Rattle.crossing.specs.Crossing.{asked_crossing, cross_answer}
use Rattle.approach.specs.Approach.{asked_near, near_answer}
use Rattle.moment.specs.declared.Spot.{Spot}
use Rattle.record.specs.declared.refusal.Refusal.{Refusal}
use Rattle.moment.specs.Answers.{placed}
use Rattle.distance.specs.declared.Point.{Point as CodePoint}
use Rattle.anchors.specs.declared.State.{State}
use Rattle.anchors.specs.declared.Reading.{Reading}
use Rattle.anchors.specs.declared.Anchored.{Anchored as CodeAnchored}
use Rattle.anchors.specs.Anchors.{report, anchor_answer, state_after, NothingLost}
use Rattle.anchors.specs.Claim.{after_all, AnchorClaim}
use Rattle.anchors.specs.Answers.{answered, state_left}
use Rattle.export.specs.declared.AnchorState.{AnchorState}
use Rattle.export.specs.declared.Anchored.{Anchored}
use Rattle.export.specs.declared.Head.{Head}
use Rattle.export.specs.declared.Loaded.{Loaded}
use Rattle.export.specs.declared.Step.{Step}
use Rattle.export.specs.declared.Spot.{Spot as Numbers}
use Rattle.export.specs.Interface.{checked_numbers, head_numbers, yield_answer, step_numbers, value_numbers, refusal_number, LoadNumbers, applied_numbers, run_numbers, spot_numbers, crossing_numbers, approach_numbers, state_of, state_numbers, anchored_numbers, read_numbers}

-- ---- 0 is none
numbered : (c : Check) → 1 ≤ number c
numbered few_bytes = omega arith
numbered other_kind = omega arith
numbered bad_count = omega arith
numbered bad_length = omega arith
numbered short_record = omega arith
numbered bad_mark = omega arith
numbered misplaced = omega arith
numbered unordered = omega arith
numbered long_span = omega arith
numbered high_tolerance = omega arith
numbered bad_thousandths = omega arith
numbered bad_moment = omega arith
numbered bad_window = omega arith
numbered bad_box = omega arith
numbered short_output = omega arith
numbered bad_silence = omega arith
numbered moment_in_silence = omega arith
numbered bad_row_count = omega arith
numbered bad_rows = omega arith
numbered bad_point = omega arith
numbered bad_reading = omega arith
numbered bad_state = omega arith
numbered bad_new_place = omega arith

holds_numbered : {says : Check → Bool} {k : ℕ} {l : List Check} → FirstHolds says k l → 1 ≤ k
holds_numbered (this {c} h e) = let p = numbered c in omega arith
holds_numbered (not_before h r) = holds_numbered r

pub first_numbered : (says : Check → Bool) (l : List Check) (k : ℕ) → first says l ≡ some k → 1 ≤ k
first_numbered says l k h = holds_numbered ((first_exactly says k l).0 h)

-- A refusal of 0 means that the record is accepted, ..
pub head_none : (b : List ℕ) → (head_numbers b).refusal ≡ 0 → read_refusal b ≡ none
head_none b h = go (read_refusal b) refl h
  where
    go : (o : Option ℕ) → read_refusal b ≡ o → (checked_numbers o b).refusal ≡ 0 → read_refusal b ≡ none
    go none e z = e
    go (some k) e z = let p = first_numbered _ _ k e in absurd (omega arith)

-- .. and of an answer that the operation made none of its refusals: ..
answer_none : {A : Type 0} (f : Answer A → ℕ) → ((k : ℕ) → f (turns_away k) ≡ k) → (says : Check → Bool) (l : List Check) (a : A) → f (told (first says l) a) ≡ 0 → first says l ≡ none
answer_none f is says l a h = go (first says l) refl h
  where
    go : (o : Option ℕ) → first says l ≡ o → f (told o a) ≡ 0 → first says l ≡ none
    go none e z = e
    go (some k) e z = let p = first_numbered says l k e in absurd (omega (arith, is k))

-- .. the fixes are written, lent ones and those of the dearest trail, ..
pub written_none : (K : Kind) (l : List Fix) (out : List ℕ) → (value_numbers (write_answer K l out)).refusal ≡ 0 → write_refusal K l out ≡ none
written_none K l out h = answer_none (λ a. (value_numbers a).refusal) (λ k. refl) _ _ _ h

pub dearest_none : (n : ℕ) (out : List ℕ) → (value_numbers (dearest_answer n out)).refusal ≡ 0 → dearest_refusal n out ≡ none
dearest_none n out h = answer_none (λ a. (value_numbers a).refusal) (λ k. refl) _ _ _ h

-- .. the record is aged, by tolerance or by days, ..
pub aged_none : (b : List ℕ) (e : ℕ) → (value_numbers (age_answer b e)).refusal ≡ 0 → age_refusal b e ≡ none
aged_none b e h = answer_none (λ a. (value_numbers a).refusal) (λ k. refl) _ _ _ h

pub days_none : (b : List ℕ) (days : ℕ) (rows : List Row) → (value_numbers (days_answer b days rows)).refusal ≡ 0 → days_refusal b rows ≡ none
days_none b days rows h = answer_none (λ a. (value_numbers a).refusal) (λ k. refl) _ _ _ h

-- .. what days apply is told, the table is loaded, ..
pub applied_none : (b : List ℕ) (days : ℕ) (rows : List Row) → (applied_numbers (apply_answer b days rows)).refusal ≡ 0 → days_refusal b rows ≡ none
applied_none b days rows h = answer_none (λ a. (applied_numbers a).refusal) (λ k. refl) _ _ _ h

module _ (rows : List Row) (l : Loaded) (is : LoadNumbers rows l) where
  pub loaded_none : l.refusal ≡ 0 → (load_refusal rows ≡ none) × (table_of l.table ≡ rows)
  loaded_none h = go (load_refusal rows) refl (sym is.0 ∙ h) is.1
    where
      go : (o : Option ℕ) → load_refusal rows ≡ o → refusal_number o ≡ 0 → table_of l.table ≡ unless o [] rows → (load_refusal rows ≡ none) × (table_of l.table ≡ rows)
      go none e z t = (e, t)
      go (some k) e z t = let p = first_numbered _ _ k e in absurd (omega arith)

  -- else the table has no rows, and behind its rows a table has nothing but 0
  pub loaded_refused : 1 ≤ l.refusal → (load_refusal rows ≡ some l.refusal) × (l.table.count ≡ 0)
  loaded_refused h = go (load_refusal rows) refl is.0 is.1
    where
      go : (o : Option ℕ) → load_refusal rows ≡ o → l.refusal ≡ refusal_number o → table_of l.table ≡ unless o [] rows → (load_refusal rows ≡ some l.refusal) × (l.table.count ≡ 0)
      go none e z t = absurd (omega arith)
      go (some k) e z t = (e ∙ ap some (sym z), sym (count_is l.table) ∙ ap length t)

  pub loaded_clear : (k : ℕ) → l.table.count ≤ k → row_at l.table k ≡ row 0 0
  loaded_clear = is.2

-- .. the fix is yielded, all of them are, the list is made, ..
pub yielded_none : (b : List ℕ) (position : ℕ) → (step_numbers (kind_field b) (yield_answer b position)).refusal ≡ 0 → read_refusal b ≡ none
yielded_none b position h = answer_none (λ a. (step_numbers (kind_field b) a).refusal) (λ k. refl) _ _ _ h

pub all_read_none : (b : List ℕ) → (value_numbers (read_answer b)).refusal ≡ 0 → read_refusal b ≡ none
all_read_none b h = answer_none (λ a. (value_numbers a).refusal) (λ k. refl) _ _ _ h

pub run_made_none : (b : List ℕ) (calls : List Call) → (run_numbers (run_answer b calls)).refusal ≡ 0 → read_refusal b ≡ none
run_made_none b calls h = answer_none (λ a. (run_numbers a).refusal) (λ k. refl) _ _ _ h

-- .. the place is given, the crossing and the radius question are told or denied, and so are those after a list.
pub after_none : (b : List ℕ) (calls : List Call) (s e : ℕ) (x : Box) → (crossing_numbers (after_answer b calls s e x)).refusal ≡ 0 → refusal_of crosses b (asked_crossing s e x) ≡ none
after_none b calls s e x h = answer_none (λ a. (crossing_numbers a).refusal) (λ k. refl) _ _ _ h

pub place_none : (b : List ℕ) (s m : ℕ) → (spot_numbers (place_answer b s m)).refusal ≡ 0 → refusal_of placing b (asked_moment s m) ≡ none
place_none b s m h = answer_none (λ a. (spot_numbers a).refusal) (λ k. refl) _ _ _ h

pub crossing_none : (b : List ℕ) (s e : ℕ) (x : Box) → (crossing_numbers (cross_answer b s e x)).refusal ≡ 0 → refusal_of crosses b (asked_crossing s e x) ≡ none
crossing_none b s e x h = answer_none (λ a. (crossing_numbers a).refusal) (λ k. refl) _ _ _ h

pub near_none : (b : List ℕ) (c : Point) (r : ℕ) → (approach_numbers (near_answer b c r)).refusal ≡ 0 → refusal_of approaching b (asked_near c r) ≡ none
near_none b c r h = answer_none (λ a. (approach_numbers a).refusal) (λ k. refl) _ _ _ h

pub near_after_none : (b : List ℕ) (calls : List Call) (c : Point) (r : ℕ) → (approach_numbers (near_after_answer b calls c r)).refusal ≡ 0 → refusal_of approaching b (asked_near c r) ≡ none
near_after_none b calls c r h = answer_none (λ a. (approach_numbers a).refusal) (λ k. refl) _ _ _ h

-- ---- the reading function
pub step_found : (kind : ℕ) (f : Fix) (x y : ℤ) (s : ℕ) (o : Option Fix) → x ≡ f.x → y ≡ f.y → s ≡ f.silence → some f ≡ o
    → ◌≡◌ {A = Step} (record { refusal = 0; found = 1; kind = kind; t = f.t; x = x; y = y; silence = s }) (step_numbers kind (gives o))
step_found kind f x y s o ex ey es h = rw (ex, ey, es, ← h) refl

pub step_refused : (b : List ℕ) (position k n : ℕ) → n ≡ k → read_refusal b ≡ some k → ◌≡◌ {A = Step} (record { refusal = n; found = 0; kind = 0; t = 0; x = pos 0; y = pos 0; silence = 0 }) (step_numbers (kind_field b) (yield_answer b position))
step_refused b position k n e h = rw (h, e) refl

pub step_yielded : (b : List ℕ) (position kind : ℕ) (s : Step) (o : Option Fix) → read_refusal b ≡ none → kind ≡ of_head kind_field b → s ≡ step_numbers kind (gives o) → o ≡ yields b position
    → s ≡ step_numbers (kind_field b) (yield_answer b position)
step_yielded b position kind s o h k e is =
    let same : kind ≡ kind_field b = k ∙ of_head_field kind_field b (accepted_head b h).ten in
    e ∙ ap (λ (y : Option Fix). step_numbers kind (gives y)) is ∙ ap (λ (n : ℕ). step_numbers n (gives (yields b position))) same ∙ rw h refl

-- ---- the checking function
module _ (b : List ℕ) where
  pub head_refused : (k n : ℕ) → n ≡ k → read_refusal b ≡ some k → ◌≡◌ {A = Head} (record { refusal = n; kind = 0; count = 0; mark = 0 }) (head_numbers b)
  head_refused k n e h = rw (h, e) refl

  pub head_accepted : (k n m : ℕ) → k ≡ of_head kind_field b → n ≡ of_head count_field b → m ≡ of_head mark_field b → read_refusal b ≡ none
      → ◌≡◌ {A = Head} (record { refusal = 0; kind = k; count = n; mark = m }) (head_numbers b)
  head_accepted k n m ek en em h =
      let ten = (accepted_head b h).ten in
      rw (h, ek, en, em, of_head_field kind_field b ten, of_head_field count_field b ten, of_head_field mark_field b ten) refl

-- ---- the questions: a place as numbers; and the same window and box are the same question
pub spot_at : (s : Spot) (x y p q : ℤ) (a : Result Spot Refusal) → x ≡ s.x → y ≡ s.y → p ≡ s.whole.x.0 → q ≡ s.whole.y.0 → a ≡ Ok s
    → ◌≡◌ {A = Numbers} (record { refusal = 0; denominator = s.d; x = x; y = y; whole_x = p; whole_y = q }) (spot_numbers (placed a))
spot_at s x y p q a ex ey ep eq h = rw (ex, ey, ep, eq, h) refl

pub same_asked : {A : Type 0} (f : ℕ → ℕ → Box → A) {s t e g : ℕ} {p q : Box} → s ≡ t → e ≡ g → p ≡ q → f s e p ≡ f t g q
same_asked f h k m = rw (h, k, m) refl

pub same_box : {x y z w a b c d : ℤ} → x ≡ a → y ≡ b → z ≡ c → w ≡ d → box_with x y z w ≡ box_with a b c d
same_box h k m n = rw (h, k, m, n) refl

pub same_point : {x y a b : ℤ} → x ≡ a → y ≡ b → point_at x y ≡ point_at a b
same_point h k = rw (h, k) refl

-- ---- an anchor's reading: what is answered of it, of the state that is handed in as numbers
module _ (h : AnchorState) where
  pub anchored_at : (s : State) (P : CodePoint) (x y : ℤ) (t : AnchorState) (a : CodeAnchored) → x ≡ P.x.0 → y ≡ P.y.0 → t ≡ state_numbers s → a.state ≡ s → a.place ≡ Ok P
      → ◌≡◌ {A = Anchored} (record { refusal = 0; x = x; y = y; state = t }) (anchored_numbers h (answered a) (state_left a))
  anchored_at s P x y t a ex ey et is e = rw (ex, ey, et, e, is) refl

  pub anchored_refused : (k : Refusal) (n : ℕ) (a : CodeAnchored) → n ≡ number_of k → a.place ≡ Err k
      → ◌≡◌ {A = Anchored} (record { refusal = n; x = pos 0; y = pos 0; state = h }) (anchored_numbers h (answered a) (state_left a))
  anchored_refused k n a en e = rw (en, e) refl

  pub anchored_read : (s : State) (r : Reading) (a : CodeAnchored) → s ≡ state_of h → (answered a ≡ anchor_answer s r) × (state_left a ≡ state_after s r) × NothingLost s r (state_left a)
      → anchored_numbers h (answered a) (state_left a) ≡ read_numbers h r
  anchored_read s r a e w = rw (w.0, w.1, e) refl

  pub anchored_list : (s t : State) (rs : List Reading) (n : AnchorState) → s ≡ state_of h → (t ≡ after_all s rs) × AnchorClaim s rs → n ≡ state_numbers t
      → (n ≡ state_numbers (after_all (state_of h) rs)) × AnchorClaim (state_of h) rs
  anchored_list s t rs n e w k = (k ∙ ap state_numbers (w.0 ∙ ap (λ (u : State). after_all u rs) e), rw e at w.1)

  -- a refusal of 0 means that the reading is accepted
  pub anchored_none : (r : Reading) → (read_numbers h r).refusal ≡ 0 → anchor_refusal (report (state_of h) r) ≡ none
  anchored_none r z = answer_none (λ a. (anchored_numbers h a (state_after (state_of h) r)).refusal) (λ k. refl) _ _ _ z
