-- ONE STEP: a call refuses and leaves the bytes, or it thins at the tolerance that it applies; by days is by tolerance at the table's. And what a
-- thinning leaves is an accepted record again, of the kept fixes, with the mark moved and the rest of the buffer as before.
use Rattle.std.specs.Prelude.{◌≡◌, refl, ◌↔◌, Bool, false, cond, List, ◌++◌, ℕ, ◌*◌, ◌<◌, ◌≤◌, min, length, drop}
use Rattle.std.proofs.Common.{sym, subst, ◌∙◌, ap, arith, length-append, length-drop, drop_at, eq-eqb, ne_eqb, le-leb}
use Rattle.std.proofs.Math.Option.{Option, some, none}
use Rattle.std.proofs.lemmas.Bool.{lt-leb}
use Rattle.distance.specs.Fix.{Fix}
use Rattle.distance.specs.Distance.{deviation, allowance}
use Rattle.distance.specs.Silence.{silent}
use Rattle.distance.specs.Laws.All.{All}
use Rattle.distance.proofs.Laws.All.{all_append, all_drop, all_map}
use Rattle.distance.specs.Integers.Tests.{Test, holds, fails, test}
use Rattle.format.specs.declared.Kind.{Kind as CodeKind}
use Rattle.format.specs.Kinds.{Kind, layout}
use Rattle.format.specs.Format.{kind_of, record_length, mark_field, count_field, fixes, fix_at, record_bytes}
use Rattle.format.proofs.Laws.Kinds.{of_code, is_kind, kind_of_is, is_coded, longer}
use Rattle.record.specs.Checks.{Row, IsAccepted, read_refusal, too_long, last_silent, of_ends, load_refusal}
use Rattle.record.specs.Answers.{Answer, turns_away, unless}
use Rattle.format.proofs.Laws.Each.{length_each}
use Rattle.format.proofs.Laws.Layout.{length_record}
use Rattle.format.proofs.Laws.RoundTrip.{AreBytes, InRange, read_record, bytes_in_range, record_are_bytes}
use Rattle.record.proofs.Laws.Accepted.{GoodMark, mark_applied, mark_never_applied, GoodFixes, accepted_good, accept, places_good, good_places, times_good, good_times, silences_good, good_silences}
use Rattle.table.specs.Table.{days_give}
use Rattle.thinning.specs.Thinning.{thin, thinning, thinned}
use Rattle.aging.specs.Aging.{Call, by_tolerance, by_days, left_by, answered, age_answer, aged, days_answer, aged_by_days, in_unit, days_apply, new_mark, thinned_record, record_at, applies}
use Rattle.thinning.proofs.Laws.Kept.{SameEnds, no_fixes, same_ends}
use Rattle.thinning.proofs.Laws.Trail.{kept_all, kept_rising, ends_stay, no_more, never_silent}
use Rattle.aging.proofs.Laws.Aging.{age_reader, age_none, age_10, age_refused, age_done}
use Rattle.aging.proofs.Laws.Days.{days_reader, days_loading, days_refused, days_done}
use Rattle.record.proofs.Laws.First.{some_none, gives_no_refusal}
use Rattle.record.proofs.Laws.Silence.{NoSilence, no_silence}

-- ---- the kept fixes are good: within the limits, in order, no longer than before, and with the silences that they had
pub ends_same : (test : Fix → Fix → Bool) {l k : List Fix} → SameEnds l k → of_ends test k ≡ of_ends test l
unfolding of_ends
ends_same test no_fixes = refl
ends_same test (same_ends {i} h) = ap (test i) h

pub kept_good : {limit : ℕ} (e : ℕ) (l : List Fix) → GoodFixes limit l → GoodFixes limit (thinned e l)
kept_good {limit} e l g = record {
  inside = good_places limit (kept_all e l (places_good limit l g.inside));
  ordered = good_times (kept_rising e l (times_good l g.ordered));
  short = ends_same too_long (ends_stay e l) ∙ g.short;
  known_silences = good_silences (kept_all e l (silences_good l g.known_silences));
  heard_last = ends_same last_silent (ends_stay e l) ∙ g.heard_last;
}

kept_some : {l k : List Fix} → SameEnds l k → 1 ≤ length l → 1 ≤ length k
kept_some no_fixes h = h
kept_some (same_ends e) h = omega arith

-- ---- the mark
mark_kept : (top m e : ℕ) → top < 65535 → GoodMark top m → e ≤ top → GoodMark top (new_mark m e)
unfolding new_mark
mark_kept top m e low (mark_applied h) g = rw (ne_eqb m 65535 (λ z. omega arith)) (mark_applied (omega arith))
mark_kept top m e low (mark_never_applied h) g = rw (eq-eqb m 65535 h) (mark_applied g)

-- ---- WHAT A THINNING LEAVES
pub record ThinnedTo (b : List ℕ) (e : ℕ) (c : List ℕ) : Type 0 where
  pub still_accepted : IsAccepted c
  pub same_kind : kind_of c ≡ kind_of b
  pub fixes_are : fixes c ≡ thinned e (fixes b)
  pub mark_is : mark_field c ≡ new_mark (mark_field b) e
  pub same_size : length c ≡ length b
  pub bytes_still : AreBytes c
  -- "Bytes from the new length on are as before"
  pub rest_is : drop (record_length (kind_of b) (length (thinned e (fixes b)))) c ≡ drop (record_length (kind_of b) (length (thinned e (fixes b)))) b

-- of the code's kinds first
thins_as : (κ : CodeKind) (b : List ℕ) (e : ℕ) → kind_of b ≡ layout κ → AreBytes b → IsAccepted b → e ≤ (kind_of b).top → ThinnedTo b e (thinned_record b e)
unfolding thinned_record
thins_as κ b e kind bytes a h =
    let K = layout κ in
    let is = is_kind κ in
    let g = accepted_good b a in
    let l = thinned e (fixes b) in
    let n : length (fixes b) ≡ count_field b = length_each (fix_at (kind_of b) b) 0 (count_field b) in
    let fewer = no_more e (fixes b) in
    let few : length l ≤ 4096 = omega (arith, g.head.few_fixes) in
    let fit : record_length K (length l) ≤ length b = omega (arith, rw kind at g.head.whole, longer K (length l) (count_field b) (omega arith)) in
    let m = new_mark (mark_field b) e in
    let good_mark : GoodMark K.top m = mark_kept K.top (mark_field b) e is.marked (rw kind at g.mark) (rw kind at h) in
    let rest = drop (record_length K (length l)) b in
    let ranges : All (InRange K) l = subst (λ (J : Kind). All (InRange J) l) kind (kept_all e (fixes b) (bytes_in_range (kind_of b) (kind_of_is b) b bytes 0 (count_field b))) in
    let r = read_record κ m l rest (mark_small is.marked good_mark) few ranges in
    let size : length (record_bytes K m l ++ rest) ≡ length b = length-append (record_bytes K m l) rest ∙ rw (length_record K is m l, length-drop (record_length K (length l)) b) (omega arith) in
    let c = record_bytes K m l ++ rest in
    let same : c ≡ thinned_record b e = subst (λ (J : Kind). record_bytes J m l ++ drop (record_length J (length l)) b ≡ thinned_record b e) kind refl in
    subst (ThinnedTo b e) same (record {
      still_accepted = accept c r (is_coded κ K.code refl) good_mark (kept_some (ends_stay e (fixes b)) (omega (arith, g.head.some_fix))) few (rw size fit) (kept_good e (fixes b) (subst (λ (J : Kind). GoodFixes J.limit (fixes b)) kind g.trail_good));
      same_kind = r.kind_reads ∙ sym kind;
      fixes_are = r.fixes_read;
      mark_is = r.mark_reads;
      same_size = size;
      bytes_still = all_append (record_are_bytes K m l) (all_drop (record_length K (length l)) bytes);
      rest_is = subst (λ (J : Kind). drop (record_length J (length l)) c ≡ drop (record_length J (length l)) b) (sym kind) (drop_at (record_bytes K m l) rest (record_length K (length l)) (length_record K is m l));
    })
  where
    mark_small : {top m : ℕ} → top < 65535 → GoodMark top m → m < 65536
    mark_small low (mark_applied h) = omega arith
    mark_small low (mark_never_applied h) = omega arith

pub thins : (b : List ℕ) (e : ℕ) → AreBytes b → IsAccepted b → e ≤ (kind_of b).top → ThinnedTo b e (thinned_record b e)
thins b e = let k = of_code b in thins_as k.code_kind b e k.is

-- ---- RECORDS WITHOUT SILENCES are thinned as one stretch, which is Douglas-Peucker of the whole trail, word for word as document 01 has it
not_silent : (f : Fix) → NoSilence f → silent f ≡ false
not_silent f h = rw h refl

pub thinned_as_one : (b : List ℕ) (e : ℕ) → (kind_of b).silence_width ≡ 0 → thinning e (fixes b) ≡ thin deviation allowance e (fixes b)
thinned_as_one b e h = never_silent e (fixes b) (all_map not_silent (no_silence b h))

-- ---- no tolerance that days apply is above the limit
days_low : (K : Kind) (d e : ℕ) (rows : List Row) → days_apply K d rows ≡ some e → e ≤ K.top
days_low K d e rows h = go (days_give rows d) h
  where
    go : (t : Option ℕ) → in_unit K t ≡ some e → e ≤ K.top
    go none h = absurd (some_none (sym h))
    go (some row) h = let z : min K.top (K.per_centimetre * row) ≡ e = cc in omega arith

-- ---- THE STEP of every call on an accepted record: it leaves the bytes, or it thins at the tolerance that it applies.
pub step : (b : List ℕ) (c : Call) → IsAccepted b → left_by b c ≡ record_at (applies (kind_of b) c) b
unfolding applies
step b (by_tolerance e) a = go (test e (kind_of b).top)
  where
    go : {t : Bool} → Test e (kind_of b).top t → aged b e ≡ record_at (cond t (some e) none) b
    go (holds h) = sym (age_done b e (age_none b e a.accepted h)).1
    go (fails h) = sym (age_refused b e 10 (age_10 b e a.accepted h)).1
step b (by_days d rows) a = go (load_refusal rows) refl
  where
    go : (r : Option ℕ) → load_refusal rows ≡ r → aged_by_days b d rows ≡ record_at (unless r none (days_apply (kind_of b) d rows)) b
    go none h = sym (days_done b d rows (days_apply (kind_of b) d rows) refl (days_loading b rows a.accepted ∙ h)).1
    go (some k) h = sym (days_refused b d rows k (days_loading b rows a.accepted ∙ h)).1

-- Bytes that the reader turns away every call leaves as they are.
pub left_refused : (b : List ℕ) (k : ℕ) (c : Call) → read_refusal b ≡ some k → left_by b c ≡ b
left_refused b k (by_tolerance e) h = sym (age_refused b e k (age_reader b e k h)).1
left_refused b k (by_days d rows) h = sym (days_refused b d rows k (days_reader b rows k h)).1

-- By days is by tolerance at the table's.
pub days_as_tolerance : (b : List ℕ) (d e : ℕ) (rows : List Row) → IsAccepted b → load_refusal rows ≡ none → days_apply (kind_of b) d rows ≡ some e
    → (aged_by_days b d rows ≡ aged b e) × (answered b (by_days d rows) ≡ answered b (by_tolerance e))
days_as_tolerance b d e rows a l h =
    let one = days_done b d rows (some e) h (days_loading b rows a.accepted ∙ l) in
    let two = age_done b e (age_none b e a.accepted (days_low (kind_of b) d e rows h)) in
    (sym one.1 ∙ two.1, sym one.0 ∙ two.0)

-- ---- WHICH CALLS ARE TURNED AWAY on an accepted record, and by which number: agings at a tolerance above its kind's limit by 10, and agings by days whose table
-- loading would turn away, by loading's number.
abbrev pub IsTurnedAway : Kind → Call → (k : ℕ) → Type 0
IsTurnedAway K (by_tolerance e) k = (k ≡ 10) × (K.top < e)
IsTurnedAway K (by_days d rows) k = load_refusal rows ≡ some k

same_number : {n k : ℕ} → ◌≡◌ {A = Answer ℕ} (turns_away n) (turns_away k) → n ≡ k
same_number e = cc

pub turned_away : (b : List ℕ) (c : Call) (k : ℕ) → IsAccepted b → answered b c ≡ turns_away k ↔ IsTurnedAway (kind_of b) c k
turned_away b (by_tolerance e) k a = (go (test e (kind_of b).top), λ (z, h). sym (by_10 h) ∙ ap turns_away (sym z))
  where
    by_10 : (kind_of b).top < e → turns_away 10 ≡ age_answer b e
    by_10 h = (age_refused b e 10 (age_10 b e a.accepted h)).0

    go : {t : Bool} → Test e (kind_of b).top t → age_answer b e ≡ turns_away k → (k ≡ 10) × ((kind_of b).top < e)
    go (holds h) z = absurd (gives_no_refusal ((age_done b e (age_none b e a.accepted h)).0 ∙ z))
    go (fails h) z = (sym (same_number (by_10 h ∙ z)), h)
turned_away b (by_days d rows) k a = (go (load_refusal rows) refl, λ h. sym (by_table h))
  where
    by_table : {n : ℕ} → load_refusal rows ≡ some n → turns_away n ≡ days_answer b d rows
    by_table {n} h = (days_refused b d rows n (days_loading b rows a.accepted ∙ h)).0

    go : (r : Option ℕ) → load_refusal rows ≡ r → days_answer b d rows ≡ turns_away k → load_refusal rows ≡ some k
    go none h z = absurd (gives_no_refusal ((days_done b d rows (days_apply (kind_of b) d rows) refl (days_loading b rows a.accepted ∙ h)).0 ∙ z))
    go (some n) h z = h ∙ ap some (same_number (by_table h ∙ z))

-- These apply no tolerance, and every other aging by tolerance applies its own, and by days the table's.
pub turned_applies : (K : Kind) (c : Call) (k : ℕ) → IsTurnedAway K c k → applies K c ≡ none
unfolding applies
turned_applies K (by_tolerance e) k h = rw (lt-leb e K.top h.1) refl
turned_applies K (by_days d rows) k h = rw h refl

pub others_apply : (K : Kind) (e : ℕ) → e ≤ K.top → applies K (by_tolerance e) ≡ some e
unfolding applies
others_apply K e h = rw (le-leb e K.top h) refl

pub others_by_days : (K : Kind) (d : ℕ) (rows : List Row) → load_refusal rows ≡ none → applies K (by_days d rows) ≡ days_apply K d rows
unfolding applies
others_by_days K d rows h = rw h refl

-- A tolerance that is applied is within the limit.
pub applies_low : (K : Kind) (c : Call) (e : ℕ) → applies K c ≡ some e → e ≤ K.top
unfolding applies
applies_low K (by_tolerance t) e h = go (test t K.top) h
  where
    go : {b : Bool} → Test t K.top b → cond b (some t) none ≡ some e → e ≤ K.top
    go (holds g) h = let z : t ≡ e = cc in omega arith
    go (fails g) h = absurd (some_none (sym h))
applies_low K (by_days d rows) e h = go (load_refusal rows) h
  where
    go : (r : Option ℕ) → unless r none (days_apply K d rows) ≡ some e → e ≤ K.top
    go none h = days_low K d e rows h
    go (some k) h = absurd (some_none (sym h))

-- What a call leaves of an accepted record is one again, of the same kind, and bytes.
pub record StillAccepted (b c : List ℕ) : Type 0 where
  pub accepted_still : IsAccepted c
  pub kind_still : kind_of c ≡ kind_of b
  pub are_bytes : AreBytes c

pub left_accepted : (b : List ℕ) (c : Call) → AreBytes b → IsAccepted b → StillAccepted b (left_by b c)
left_accepted b c bytes a = rw (step b c a) (go (applies (kind_of b) c) refl)
  where
    go : (t : Option ℕ) → applies (kind_of b) c ≡ t → StillAccepted b (record_at t b)
    go none h = record { accepted_still = a; kind_still = refl; are_bytes = bytes }
    go (some e) h = let t = thins b e bytes a (applies_low (kind_of b) c e h) in record { accepted_still = t.still_accepted; kind_still = t.same_kind; are_bytes = t.bytes_still }

-- and of any bytes it leaves bytes
pub left_bytes : (b : List ℕ) (c : Call) → AreBytes b → AreBytes (left_by b c)
left_bytes b c bytes = go (read_refusal b) refl
  where
    go : (r : Option ℕ) → read_refusal b ≡ r → AreBytes (left_by b c)
    go (some k) h = rw (left_refused b k c h) bytes
    go none h = (left_accepted b c bytes (record { accepted = h })).are_bytes
