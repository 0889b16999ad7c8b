-- Reading what a writer put down gives the list again.
use Rattle.std.specs.Prelude.{◌≡◌, Bool, true, false, cond, not, ◌||◌, ltb, eqb, length, drop, ℤ, pos}
use Rattle.std.proofs.Math.Path.{refl, ap}
use Rattle.std.proofs.Common.{sym, ◌∙◌, pow-suc, arith, length-append, ne_eqb}
use mathlib.Core.List.{List, [], ◌∷◌, ◌++◌, map}
use Rattle.std.proofs.Math.Option.{some, none}
use Prim.Native.Nat.{ℕ, zero, suc, ◌^◌, ◌<◌, ◌≤◌, min}
use Rattle.std.proofs.Math.Nat.{one-le-pow}
use Rattle.std.proofs.Math.ListN.{get_or}
use Rattle.std.proofs.lemmas.Bool.{eqb-false}
use Rattle.distance.specs.Fix.{Fix, Bounded}
use Rattle.distance.specs.Laws.All.{All, all_none, all_more}
use Rattle.format.specs.declared.Kind.{Kind as CodeKind}
use Rattle.format.specs.Kinds.{Kind, has_silences, layout}
use Rattle.format.specs.Format.{kind_of, record_length, never, mark_field, count_field, fix_at, each, fixes, record_bytes}
use Rattle.format.proofs.Laws.Kinds.{IsKind, is_kind, is_coded}
use Rattle.format.proofs.Laws.Numbers.{false_true}
use Rattle.record.specs.Checks.{Asked, bad_count, short_output, sentence, fix_checks, refusal, read_refusal, writing, other_silence, some_other_silence, last_silent, of_ends}
use Rattle.record.proofs.Laws.First.{NoneHolds, no_check, and_not, none_holds, writing_alone}
use Rattle.distance.specs.Integers.Tests.{neither}
use Rattle.record.proofs.Laws.Head.{positive}
use Rattle.format.proofs.Laws.RoundTrip.{InRange, bounded_in_range, read_record}
use Rattle.writing.specs.Writing.{asked_to_write, write_refusal, written, ReadsBack, Writes, column_fix, columns_count, columns}
use Rattle.writing.proofs.Laws.Writing.{writes_fit}
use Rattle.format.proofs.Laws.Each.{length_each, each_shift, each_all}
use Rattle.format.proofs.Laws.Layout.{length_record}
use Rattle.record.specs.Answers.{Answer, gives, turns_away}
use Rattle.reading.specs.Reading.{times_of, xs_of, ys_of, silences_of, read_answer, times_read, xs_read, ys_read, silences_read}
use Rattle.reading.proofs.Laws.Columns.{reads_exactly}
use Rattle.record.specs.Laws.Scan.{Timed}
use Rattle.record.proofs.Laws.Silence.{NoSilence}
use Rattle.record.proofs.Laws.Accepted.{GoodFixes, accept, mark_never_applied, places_good}

-- ---- THE ROUND TRIP of the writer: what it puts down is accepted, and reads as the list that it was lent, marked never
pub writes_good : (K : Kind) (l : List Fix) (output : ℕ) → refusal K writing (asked_to_write l output) ≡ none → (1 ≤ length l) × GoodFixes K.limit l
unfolding sentence
writes_good K l output h = go (none_holds (sentence K (asked_to_write l output)) (bad_count ∷ (fix_checks ++ short_output ∷ [])) h)
  where
    go : NoneHolds (sentence K (asked_to_write l output)) (bad_count ∷ (fix_checks ++ short_output ∷ [])) → (1 ≤ length l) × GoodFixes K.limit l
    go (and_not h3 (and_not h7 (and_not h8 (and_not h9 (and_not h20 (and_not h15 no_check)))))) =
        let s = neither (some_other_silence l) (of_ends last_silent l) h20 in
        (positive (length l) (eqb-false (length l) 0 (neither (eqb (length l) 0) (ltb 4096 (length l)) h3).0), record { inside = h7; ordered = h8; short = h9; known_silences = s.0; heard_last = s.1 })

-- what a fix of a list says of silence, a kind's fixes can say: nothing, if they have no byte for it
pub record Sayable (K : Kind) (f : Fix) : Type 0 where
  pub no_byte : K.silence_width ≡ 0 → NoSilence f

-- so one that check 20 passes has room in the bytes that there are
known_silence : (s : ℕ) → not (eqb s 0 || eqb s 1) ≡ false → s ≤ 1
known_silence zero h = omega arith
known_silence (suc zero) h = omega arith
known_silence (suc (suc s)) h = absurd (false_true (sym (rw (ne_eqb (suc (suc s)) 0 (λ e. omega arith), ne_eqb (suc (suc s)) 1 (λ e. omega arith)) at h)))

silence_room : (width s : ℕ) → (width ≡ 0 → s ≡ 0) → s ≤ 1 → s < 256 ^ width
silence_room zero s h g = rw (h refl) (omega arith)
silence_room (suc width) s h g = rw (pow-suc 256 width) (let one = one-le-pow width 256 (omega arith) in omega (arith, one, g))

in_range : (K : Kind) → IsKind K → {l : List Fix} → All Timed l → All (Sayable K) l → some_other_silence l ≡ false → All (Bounded K.limit) l → All (InRange K) l
unfolding some_other_silence
in_range K is all_none all_none e all_none = all_none
in_range K is (all_more {m = f} {l} h hs) (all_more s ss) e (all_more g gs) =
    let known = neither (other_silence f) (some_other_silence l) e in
    all_more (bounded_in_range K is h.t32 (silence_room K.silence_width f.silence s.no_byte (known_silence f.silence known.0)) g) (in_range K is hs ss known.1 gs)

pub writes_back : (κ : CodeKind) (l : List Fix) (out : List ℕ) → All Timed l → All (Sayable (layout κ)) l → write_refusal (layout κ) l out ≡ none → ReadsBack (layout κ) l (written (layout κ) l out)
writes_back κ l out h s n =
    let K = layout κ in
    let is = is_kind κ in
    let fit = writes_fit K l (length out) n in
    let good = writes_good K l (length out) n in
    let rest = drop (record_length K (length l)) out in
    let r = read_record κ 65535 l rest (omega arith) fit.0 (in_range K is h s good.1.known_silences (places_good K.limit l good.1.inside)) in
    let a = accept _ r (is_coded κ K.code refl) (mark_never_applied refl) good.0 fit.0 (long K is l rest) good.1 in
    rw n (record { is_accepted = a; of_kind = r.kind_reads; is_never = r.mark_reads; fixes_are = r.fixes_read })
  where
    long : (K : Kind) → IsKind K → (l : List Fix) (r : List ℕ) → record_length K (length l) ≤ length (record_bytes K never l ++ r)
    long K is l r = omega (arith, length-append (record_bytes K never l) r, length_record K is never l)

-- ---- WHAT A WRITER'S PROMISE GIVES. Reading it gives the list again: nothing turns the bytes away, and they have that kind, the mark `never` and those fixes
pub reads_back_gives : (K : Kind) (l : List Fix) (b : List ℕ) → ReadsBack K l b
    → (read_refusal b ≡ none) × (kind_of b ≡ K) × (mark_field b ≡ 65535) × (fixes b ≡ l)
reads_back_gives K l b r = (r.is_accepted.accepted, r.of_kind, r.is_never, r.fixes_are)

-- and all of it: whatever says the count, the fixes and the length of the output, the number of the refusal is the answer and the output stays; and if there is none, the
-- record stands at the output's start, marked never, its length is the answer, what follows it stays, and reading it gives the list again
pub writes_gives : (K : Kind) (l : List Fix) (out : List ℕ) (says : Answer ℕ) (after : List ℕ) → Writes K l out says after
    → (q : Asked) → q.count ≡ length l → q.trail_fixes ≡ l → q.given.output ≡ length out
    → ((k : ℕ) → refusal K writing q ≡ some k → (says ≡ turns_away k) × (after ≡ out))
    × (refusal K writing q ≡ none
    → (says ≡ gives (record_length K (length l)))
    × (after ≡ record_bytes K 65535 l ++ drop (record_length K (length l)) out)
    × (read_refusal after ≡ none)
    × (kind_of after ≡ K)
    × (mark_field after ≡ 65535)
    × (fixes after ≡ l))
writes_gives K l out says after w q count list output = (
  λ k h. let r = same ∙ h in (w.0 ∙ rw r refl, w.1 ∙ rw r refl),
  λ h.
      let r = same ∙ h in
      let back = reads_back_gives K l after (w.2 r) in
      (w.0 ∙ rw r refl, w.1 ∙ rw r refl, back.0, back.1, back.2, back.3),
)
  where
    same : write_refusal K l out ≡ refusal K writing q
    same = writing_alone K (asked_to_write l (length out)) q (sym count) (sym list) (sym output)

-- ---- THE INVERSE of the writer over columns: all fixes read at once, into columns as long as the lent ones, are the lent columns
module _ {A : Type 0} where
  map_each : (field : Fix → A) (f : ℕ → Fix) (k n : ℕ) → map field (each f k n) ≡ each (λ (i : ℕ). field (f i)) k n
  unfolding each
  map_each field f k zero = refl
  map_each field f k (suc n) = ap (λ (l : List A). field (f k) ∷ l) (map_each field f (suc k) n)

  each_of : (l : List A) (d : A) → each (λ (i : ℕ). get_or l i d) 0 (length l) ≡ l
  unfolding each
  each_of [] d = refl
  each_of (a ∷ l) d = ap (λ (m : List A). a ∷ m) (each_shift (λ (i : ℕ). get_or (a ∷ l) i d) (λ (i : ℕ). get_or l i d) 0 (length l) (λ i. refl) ∙ each_of l d)

-- the fixes of the columns for a kind, which says of silence what it can
module _ (κ : CodeKind) (ts : List ℕ) (xs ys : List ℤ) (silences : List ℕ) where
  abbrev K : Kind
  K = layout κ

  pub columns_sayable : All (Sayable K) (columns K ts xs ys silences)
  columns_sayable = each_all (column_fix K ts xs ys silences) 0 (columns_count K ts xs ys silences) (λ k p q. record { no_byte = λ e. rw e refl })

  -- each from its column
  pub column_parts : (k : ℕ) {t : ℕ} {x y : ℤ} {s : ℕ} → t ≡ get_or ts k 0 → x ≡ get_or xs k (pos 0) → y ≡ get_or ys k (pos 0) → s ≡ cond (has_silences K) (get_or silences k 0) 0
      → ◌≡◌ {A = Fix} (record { t = t; x = x; y = y; silence = s }) (column_fix K ts xs ys silences k)
  column_parts k p q r z = rw (p, q, r, z) refl

  -- there are as many as each column has that is looked at
  pub columns_within : (columns_count K ts xs ys silences ≤ length ts)
      × (columns_count K ts xs ys silences ≤ length xs)
      × (columns_count K ts xs ys silences ≤ length ys)
      × (has_silences K ≡ true → columns_count K ts xs ys silences ≤ length silences)
  columns_within = go (has_silences K)
    where
      go : (b : Bool) → let n = cond b (min (min (length ts) (min (length xs) (length ys))) (length silences)) (min (length ts) (min (length xs) (length ys))) in (n ≤ length ts) × (n ≤ length xs) × (n ≤ length ys) × (b ≡ true → n ≤ length silences)
      go true = (omega arith, omega arith, omega arith, λ e. omega arith)
      go false = (omega arith, omega arith, omega arith, λ e. absurd (false_true e))

  -- what a record says that reads back as columns of one length
  module _ (p : length xs ≡ length ts) (q : length ys ≡ length ts) (o : has_silences K ≡ true → length silences ≡ length ts) where
    as_many : columns_count K ts xs ys silences ≡ length ts
    as_many = go (has_silences K) o
      where
        go : (b : Bool) → (b ≡ true → length silences ≡ length ts) → cond b (min (min (length ts) (min (length xs) (length ys))) (length silences)) (min (length ts) (min (length xs) (length ys))) ≡ length ts
        go true o = omega (arith, o refl)
        go false o = omega arith

    pub columns_times : times_of (columns K ts xs ys silences) ≡ ts
    columns_times = map_each (λ (f : Fix). f.t) (column_fix K ts xs ys silences) 0 _ ∙ rw as_many (each_of ts 0)

    pub columns_xs : xs_of (columns K ts xs ys silences) ≡ xs
    columns_xs = map_each (λ (f : Fix). f.x) (column_fix K ts xs ys silences) 0 _ ∙ rw (as_many, ← p) (each_of xs (pos 0))

    pub columns_ys : ys_of (columns K ts xs ys silences) ≡ ys
    columns_ys = map_each (λ (f : Fix). f.y) (column_fix K ts xs ys silences) 0 _ ∙ rw (as_many, ← q) (each_of ys (pos 0))

    pub columns_silences : has_silences K ≡ true → silences_of (columns K ts xs ys silences) ≡ silences
    columns_silences h = map_each (λ (f : Fix). f.silence) (column_fix K ts xs ys silences) 0 _ ∙ rw (as_many, h, ← o h) (each_of silences 0)

    module _ (us : List ℕ) (vs ws : List ℤ) (ss : List ℕ) (u : length us ≡ length ts) (v : length vs ≡ length ts) (w : length ws ≡ length ts) (z : length ss ≡ length ts) where
      pub reads_columns_back : (b : List ℕ) → ReadsBack K (columns K ts xs ys silences) b
          → (read_answer b ≡ gives (length ts)) × (times_read b us ≡ ts) × (xs_read b vs ≡ xs) × (ys_read b ws ≡ ys) × (has_silences K ≡ true → silences_read b ss ≡ silences)
      reads_columns_back b r =
          let n : count_field b ≡ length ts = sym (length_each (fix_at (kind_of b) b) 0 (count_field b)) ∙ ap length r.fixes_are ∙ length_each (column_fix K ts xs ys silences) 0 _ ∙ as_many in
          let e = reads_exactly b us vs ws ss r.is_accepted (u ∙ sym n) (v ∙ sym n) (w ∙ sym n) (z ∙ sym n) in (
            rw (r.is_accepted.accepted, n) refl,
            e.0 ∙ ap times_of r.fixes_are ∙ columns_times,
            e.1 ∙ ap xs_of r.fixes_are ∙ columns_xs,
            e.2 ∙ ap ys_of r.fixes_are ∙ columns_ys,
            λ h. e.3 ∙ ap silences_of r.fixes_are ∙ columns_silences h,
          )

      -- so whatever columns the writer accepts, reading what it wrote gives them back
      pub written_columns_back : (out : List ℕ) → All Timed (columns K ts xs ys silences) → write_refusal K (columns K ts xs ys silences) out ≡ none
          → (read_answer (written K (columns K ts xs ys silences) out) ≡ gives (length ts))
          × (times_read (written K (columns K ts xs ys silences) out) us ≡ ts)
          × (xs_read (written K (columns K ts xs ys silences) out) vs ≡ xs)
          × (ys_read (written K (columns K ts xs ys silences) out) ws ≡ ys)
          × (has_silences K ≡ true → silences_read (written K (columns K ts xs ys silences) out) ss ≡ silences)
      written_columns_back out t h = reads_columns_back (written K (columns K ts xs ys silences) out) (writes_back κ (columns K ts xs ys silences) out t columns_sayable h)
