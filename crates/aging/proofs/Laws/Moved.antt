-- AN AGING OF A RECORD WITH ITS CLOCK MOVED: the same count or refusal, the same head, and the fixes kept at the same positions, moved.
use Rattle.std.specs.Prelude.{◌≡◌, Bool, List, [], ◌∷◌, map, ℕ, suc, ◌≤◌, ℤ, pos, negsuc, nat_abs, ◌+ℤ◌, length}
use Rattle.std.proofs.Math.Path.{refl}
use Rattle.std.proofs.Common.{sym, ◌∙◌, ap}
use Rattle.std.proofs.Math.Option.{Option, some, none}
use Rattle.std.proofs.lemmas.List.{length-map}
use Rattle.distance.specs.Fix.{Fix}
use Rattle.distance.specs.Distance.{deviation, allowance}
use Rattle.distance.specs.Silence.{silent}
use Rattle.distance.specs.Clock.{moved_fix}
use Rattle.distance.specs.Laws.All.{all_none, all_more}
use Rattle.distance.proofs.Laws.Clock.{deviation_later, allowance_later, fixes_earlier_again}
use Rattle.format.specs.Format.{kind_of, record_length, length_field, kind_field, mark_field, count_field, fixes, fix_at}
use Rattle.format.specs.Kinds.{Kind}
use Rattle.format.proofs.Laws.Kinds.{same_kind_of, kind_code}
use Rattle.format.proofs.Laws.Each.{length_each}
use Rattle.format.proofs.Laws.RoundTrip.{AreBytes}
use Rattle.format.specs.Laws.Changed.{SameHead}
use Rattle.format.proofs.Laws.Changed.{same_head_swap, changed_head, changed_bytes}
use Rattle.record.specs.Checks.{Row, bad_row_count, bad_rows, high_tolerance, sentence, IsAccepted, nothing, read_refusal, head_refusal, with_table}
use Rattle.record.specs.Moved.{moved_record, Movable}
use Rattle.record.proofs.Laws.First.{answer_same}
use Rattle.record.proofs.Laws.Head.{head_none}
use Rattle.record.proofs.Laws.Accepted.{accepted_good}
use Rattle.record.proofs.Laws.Changed.{head_same}
use Rattle.record.proofs.Laws.Moved.{Later, accepted_later, moved_fixes, moved_later, moved_earlier, later_refusal}
use Rattle.thinning.specs.Thinning.{thinning, Thinned}
use Rattle.thinning.specs.Marks.{kept_by}
use Rattle.thinning.proofs.Laws.KeptBy.{same_positions}
use Rattle.thinning.proofs.Laws.Mapped.{mapped, thin_mapped}
use Rattle.aging.specs.Aging.{Call, by_tolerance, by_days, left_by, answered, with_tolerance, age_refusal, days_refusal, days_apply, count_at, record_at, new_mark, thinned_record, applies}
use Rattle.aging.specs.Moved.{AgedAlike}
use Rattle.aging.proofs.Laws.Aging.{age_accepted}
use Rattle.aging.proofs.Laws.Days.{days_accepted}
use Rattle.aging.proofs.Laws.Step.{thins, step, left_refused, left_accepted, applies_low}

-- ---- a list of fixes, all k seconds later
thinning_later : (k e : ℕ) (l : List Fix) → thinning e (map (moved_fix (pos k)) l) ≡ mapped (moved_fix (pos k)) (thinning e l)
unfolding thinning
thinning_later k e l = thin_mapped (moved_fix (pos k)) deviation allowance (deviation_later k) (allowance_later k) e silent (λ i. refl) l

-- ---- a record c that is b with every fix k seconds later
module _ (k : ℕ) (b c : List ℕ) (l : Later k b c) where
  same_kind : kind_of c ≡ kind_of b
  same_kind = same_kind_of b c l.same_head.same_kind

  read_later : read_refusal c ≡ read_refusal b
  read_later = later_refusal k b c l nothing nothing [] (λ h. all_none)

  -- the table decides the same of both
  days_refusal_later : (rows : List Row) → days_refusal c rows ≡ days_refusal b rows
  unfolding sentence
  days_refusal_later rows = later_refusal k b c l (with_table rows) (with_table rows) (bad_row_count ∷ bad_rows ∷ []) (λ h. all_more refl (all_more refl all_none))

  age_refusal_later : (e : ℕ) → age_refusal c e ≡ age_refusal b e
  unfolding sentence
  age_refusal_later e = later_refusal k b c l (with_tolerance e) (with_tolerance e) (high_tolerance ∷ []) (λ h. all_more (rw same_kind refl) all_none)

  -- the count of an accepted one
  thinned_later : (e : ℕ) → IsAccepted b → thinning e (fixes c) ≡ mapped (moved_fix (pos k)) (thinning e (fixes b))
  thinned_later e a = ap (thinning e) (accepted_later l a) ∙ thinning_later k e (fixes b)

  count_later : (t : Option ℕ) → IsAccepted b → count_at t c ≡ count_at t b
  count_later none a = refl
  count_later (some e) a = ap (λ (m : Thinned Fix). m.count) (thinned_later e a)

  answered_later : (q : Call) → answered c q ≡ answered b q
  answered_later (by_tolerance e) = rw (age_refusal_later e) (answer_same (age_refusal b e) (λ x. count_later (some e) (age_accepted b e x)))
  answered_later (by_days d rows) = rw (days_refusal_later rows, same_kind) (answer_same (days_refusal b rows) (λ x. count_later (days_apply (kind_of b) d rows) (days_accepted b rows x)))

  -- ---- what it leaves is as much later
  module _ (bytes_b : AreBytes b) (bytes_c : AreBytes c) where
    record_later : (e : ℕ) → IsAccepted b → e ≤ (kind_of b).top → Later k (thinned_record b e) (thinned_record c e)
    record_later e a low =
        let f = moved_fix (pos k) in
        let p = thins b e bytes_b a low in
        let q = thins c e bytes_c (record { accepted = read_later ∙ a.accepted }) (rw same_kind low) in
        let kind : kind_of (thinned_record c e) ≡ kind_of (thinned_record b e) = q.same_kind ∙ same_kind ∙ sym p.same_kind in
        let g = accepted_good (thinned_record b e) p.still_accepted in
        let h = accepted_good (thinned_record c e) q.still_accepted in
        let kept : fixes (thinned_record c e) ≡ map f (fixes (thinned_record b e)) = q.fixes_are ∙ ap (λ (m : Thinned Fix). m.kept) (thinned_later e a) ∙ ap (map f) (sym p.fixes_are) in
        let many : count_field (thinned_record c e) ≡ count_field (thinned_record b e) =
        sym (length_each (fix_at (kind_of (thinned_record c e)) (thinned_record c e)) 0 (count_field (thinned_record c e))) ∙ ap length kept ∙ length-map (fixes (thinned_record b e)) f ∙ length_each (fix_at (kind_of (thinned_record b e)) (thinned_record b e)) 0 (count_field (thinned_record b e)) in
        record {
          same_head = record {
            same_size = q.same_size ∙ l.same_head.same_size ∙ sym p.same_size;
            same_length = h.head.length_is ∙ ap (λ (J : Kind). record_length J (count_field (thinned_record c e))) kind ∙ ap (record_length (kind_of (thinned_record b e))) many ∙ sym g.head.length_is;
            same_kind = kind_code (thinned_record c e) h.head.known ∙ ap (λ (J : Kind). J.code) kind ∙ sym (kind_code (thinned_record b e) g.head.known);
            same_mark = q.mark_is ∙ ap (λ (m : ℕ). new_mark m e) l.same_head.same_mark ∙ sym p.mark_is;
            same_count = many;
          };
          later_fixes = (λ x. kept);
        }

    pub left_later : (q : Call) → Later k (left_by b q) (left_by c q)
    left_later q = go (read_refusal b) refl
      where
        at_tolerance : (t : Option ℕ) → applies (kind_of b) q ≡ t → IsAccepted b → Later k (record_at t b) (record_at t c)
        at_tolerance none y a = l
        at_tolerance (some e) y a = record_later e a (applies_low (kind_of b) q e y)

        go : (r : Option ℕ) → read_refusal b ≡ r → Later k (left_by b q) (left_by c q)
        go (some n) x = rw (left_refused b n q x, left_refused c n q (read_later ∙ x)) l
        go none x = rw (step b q (record { accepted = x }), step c q (record { accepted = read_later ∙ x }), same_kind) (at_tolerance (applies (kind_of b) q) refl (record { accepted = x }))

-- what is left has a head that passes, if that of the record does
head_passes : (b : List ℕ) (q : Call) → AreBytes b → head_refusal b ≡ none → head_refusal (left_by b q) ≡ none
head_passes b q bytes h = go (read_refusal b) refl
  where
    go : (r : Option ℕ) → read_refusal b ≡ r → head_refusal (left_by b q) ≡ none
    go (some k) x = rw (left_refused b k q x) h
    go none x = head_none (left_by b q) (left_accepted b q bytes (record { accepted = x })).accepted_still.accepted

-- marks of positions go with the fixes
with_positions : (s : ℤ) (b : List ℕ) (q : Call) → AreBytes b → Movable s b → answered (moved_record s b) q ≡ answered b q → SameHead (left_by b q) (left_by (moved_record s b) q)
    → (head_refusal b ≡ none → fixes (left_by (moved_record s b) q) ≡ map (moved_fix s) (fixes (left_by b q))) → AgedAlike s b (moved_record s b) q
with_positions s b q bytes stay answer head left = record {
  same_answer = answer;
  head_left = head;
  fixes_left = left;
  same_positions = (λ h marks e. same_positions marks (moved_fix s) (fixes b) (moved_fixes s b bytes stay h) (left h) e);
}

pub aged_moved : (s : ℤ) (b : List ℕ) → AreBytes b → Movable s b → (q : Call) → AgedAlike s b (moved_record s b) q
aged_moved (pos k) b bytes stay q =
    let c = moved_record (pos k) b in
    let l = moved_later k b bytes stay in
    let r = left_later k b c l bytes (changed_bytes (moved_fix (pos k)) b bytes) q in
    with_positions (pos k) b q bytes stay (answered_later k b c l q) r.same_head (λ h. r.later_fixes (head_passes b q bytes h))
aged_moved (negsuc k) b bytes stay q =
    let c = moved_record (negsuc k) b in
    let f = moved_fix (negsuc k) in
    let l = moved_earlier k b bytes stay in
    let bytes_c = changed_bytes f b bytes in
    let r = left_later (suc k) c b l bytes_c bytes q in
    with_positions (negsuc k) b q bytes stay (sym (answered_later (suc k) c b l q)) (same_head_swap r.same_head)
    (λ h. let z = r.later_fixes (head_passes c q bytes_c (head_same b c (changed_head f b) nothing nothing ∙ h)) in sym (ap (map f) z ∙ fixes_earlier_again k (fixes (left_by c q))))

-- ---- WHAT IT SAYS, without the names for it: the answer, the buffer's length, the four fields of the head, the fixes at the same places so many seconds later or
-- earlier, and where they stood
pub aged_alike_gives : (s : ℤ) (b c : List ℕ) (q : Call) → AgedAlike s b c q → (answered c q ≡ answered b q)
    × (length (left_by c q) ≡ length (left_by b q)) × (length_field (left_by c q) ≡ length_field (left_by b q)) × (kind_field (left_by c q) ≡ kind_field (left_by b q))
    × (mark_field (left_by c q) ≡ mark_field (left_by b q)) × (count_field (left_by c q) ≡ count_field (left_by b q))
    × (head_refusal b ≡ none → fixes (left_by c q)
    ≡ map (λ (f : Fix). record { t = nat_abs (pos f.t +ℤ s); x = f.x; y = f.y; silence = f.silence }) (fixes (left_by b q)))
    × (head_refusal b ≡ none → (marks : List Bool) → fixes (left_by b q) ≡ kept_by marks 0 (fixes b) → fixes (left_by c q) ≡ kept_by marks 0 (fixes c))
aged_alike_gives s b c q h =
    let head = h.head_left in
    (h.same_answer, head.same_size, head.same_length, head.same_kind, head.same_mark, head.same_count, h.fixes_left, h.same_positions)
