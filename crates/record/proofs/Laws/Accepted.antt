-- What an accepted record gives, and when a record is accepted: its head, its mark, and its fixes.
use Rattle.std.specs.Prelude.{◌≡◌, refl, ◌↔◌, ◌⊎◌, Bool, true, false, not, ◌||◌, ◌&&◌, List, [], ◌∷◌, ℕ, zero, suc, ◌+◌, ◌≤◌, ltb, leb, eqb, length, take, ℤ, pos, negsuc, neg_ℤ, nat_abs, ◌≤ℤ◌}
use Rattle.std.proofs.Common.{sym, ◌∙◌, ap, inl, inr, ⊎_elim, arith, eqb-true, ne_eqb, leb-false, lt-ltb, le-ltb, ltb-false}
use Rattle.std.proofs.Math.Bool.{or-false}
use Rattle.std.proofs.Math.Option.{none}
use Rattle.std.proofs.lemmas.Bool.{eqb-false, lt-leb, not-false}
use Rattle.std.specs.Int.Signed.{lt_z}
use Rattle.distance.specs.Fix.{Fix, Bounded, After, none_after, later, Rising, no_fix, rising, last_of}
use Rattle.distance.specs.Distance.{seconds}
use Rattle.distance.specs.Laws.All.{All, all_none, all_more}
use Rattle.distance.proofs.Laws.All.{all_map}
use Rattle.distance.specs.Integers.Differences.{diffs}
use Rattle.distance.specs.Integers.Order.{lt_z_false, le_of_lt_z}
use Rattle.format.specs.Kinds.{Kind, kinds, coded}
use Rattle.format.specs.Format.{kind_of, record_length, record_bytes, length_field, kind_field, mark_field, count_field, fixes}
use Rattle.record.specs.Checks.{Asked, few_bytes, other_kind, bad_count, bad_length, short_record, bad_mark, sentence, first, head_checks, fix_checks, asked_of, nothing, IsAccepted, outside, fix_outside, some_outside, some_early_after, some_early, other_silence, some_other_silence, last_silent, of_ends, too_long}
use Rattle.record.proofs.Laws.First.{passes, NoneHolds, no_check, and_not, none_holds, none_first, first_none}
use Rattle.record.proofs.Laws.Head.{Head, says, accepted_head, not_few, not_other, count_good, length_same, not_short, mark_low, mark_never, mark_says, from_2, from_3, from_4, from_5, from_6, head_none}
use Rattle.format.proofs.Laws.Kinds.{kind_code}
use Rattle.format.proofs.Laws.Numbers.{false_true}
use Rattle.format.proofs.Laws.RoundTrip.{Reads, AreBytes, rewrites}
use Rattle.distance.specs.Integers.Tests.{Test, holds, fails, test, neither, ltb_more}

-- ---- the fixes: checks 7 to 9 and 20 turn none away
pub record GoodFixes (limit : ℕ) (l : List Fix) : Type 0 where
  pub inside : some_outside limit l ≡ false
  pub ordered : some_early l ≡ false
  pub short : of_ends too_long l ≡ false
  pub known_silences : some_other_silence l ≡ false
  pub heard_last : of_ends last_silent l ≡ false

pub fixes_good : (K : Kind) (q : Asked) → first (sentence K q) fix_checks ≡ none → GoodFixes K.limit q.trail_fixes
unfolding sentence
fixes_good K q h = go (none_holds (sentence K q) fix_checks h)
  where
    go : NoneHolds (sentence K q) fix_checks → GoodFixes K.limit q.trail_fixes
    go (and_not h7 (and_not h8 (and_not h9 (and_not h20 no_check)))) =
        let s = neither (some_other_silence q.trail_fixes) (of_ends last_silent q.trail_fixes) h20 in
        record { inside = h7; ordered = h8; short = h9; known_silences = s.0; heard_last = s.1 }

pub good_fixes : (K : Kind) (q : Asked) → GoodFixes K.limit q.trail_fixes → first (sentence K q) fix_checks ≡ none
unfolding first sentence
good_fixes K q h = rw (h.inside, h.ordered, h.short, h.known_silences, h.heard_last) refl

-- ---- the mark
pub data GoodMark (top m : ℕ) : Type 0 where
  mark_applied : m ≤ top → GoodMark top m
  mark_never_applied : m ≡ 65535 → GoodMark top m

mark_good : (top m : ℕ) → ltb top m && not (eqb m 65535) ≡ false → GoodMark top m
mark_good top m h = go (test m top)
  where
    second : (x y : Bool) → x ≡ true → x && y ≡ false → y ≡ false
    second true y e h = h
    second false y e h = absurd (false_true e)

    go : {b : Bool} → Test m top b → GoodMark top m
    go (holds t) = mark_applied t
    go (fails t) = mark_never_applied (eqb-true m 65535 (not-false _ (second (ltb top m) (not (eqb m 65535)) (lt-ltb top m t) h)))

-- ---- what an accepted record gives, by the limits of its own kind
pub record Good (b : List ℕ) : Type 0 where
  pub head : Head b
  pub mark : GoodMark (kind_of b).top (mark_field b)
  pub trail_good : GoodFixes (kind_of b).limit (fixes b)

pub accepted_good : (b : List ℕ) → IsAccepted b → Good b
accepted_good b h =
    let none-head = head_none b h.accepted in
    record {
      head = accepted_head b h.accepted;
      mark = mark_of (none_holds (says b) head_checks none-head);
      trail_good = fixes_good (kind_of b) (asked_of b nothing) (sym (none_first (says b) head_checks fix_checks none-head) ∙ h.accepted);
    }
  where
    mark_of : NoneHolds (says b) head_checks → GoodMark (kind_of b).top (mark_field b)
    mark_of (and_not h1 (and_not h2 (and_not h3 (and_not h4 (and_not h5 (and_not h6 no_check)))))) = mark_good (kind_of b).top (mark_field b) (mark_says b h6)

-- ---- a record that reads so is accepted
mark_passes : (b : List ℕ) → GoodMark (kind_of b).top (mark_field b) → says b bad_mark ≡ false
mark_passes b (mark_applied h) = mark_low b h
mark_passes b (mark_never_applied h) = mark_never b h

-- what is good is accepted
pub good_accepted : (b : List ℕ) → Good b → IsAccepted b
good_accepted b g =
    let some_fix : count_field b ≡ 0 → ⊥ = λ e. omega (arith, g.head.some_fix, e) in
    let head : first (says b) head_checks ≡ none =
    passes (says b) few_bytes from_2 (not_few b g.head.ten)
    ∙ passes (says b) other_kind from_3 (not_other b g.head.known)
    ∙ passes (says b) bad_count from_4 (count_good b some_fix g.head.few_fixes)
    ∙ passes (says b) bad_length from_5 (length_same b g.head.length_is)
    ∙ passes (says b) short_record from_6 (not_short b (omega (arith, g.head.length_is, g.head.whole)))
    ∙ passes (says b) bad_mark [] (mark_passes b g.mark) ∙ first_none (says b) in
    record { accepted = none_first (says b) head_checks fix_checks head ∙ good_fixes (kind_of b) (asked_of b nothing) g.trail_good }

pub accept : {K : Kind} {mark : ℕ} {l : List Fix} (b : List ℕ) → Reads K mark l b → coded kinds K.code ≡ true → GoodMark K.top mark → 1 ≤ length l → length l ≤ 4096 → record_length K (length l) ≤ length b
    → GoodFixes K.limit l → IsAccepted b
accept {K} {mark} {l} b r known m one few whole g =
    let n = r.count_reads in
    let kind = r.kind_reads in
    good_accepted b (record {
      head = record {
        ten = omega arith;
        known = ap (coded kinds) r.code_reads ∙ known;
        some_fix = omega (arith, n, one);
        few_fixes = omega (arith, n, few);
        length_is = rw (kind, n) r.length_reads;
        whole = rw (kind, n) whole;
      };
      mark = rw (kind, r.mark_reads) m;
      trail_good = rw (r.fixes_read, kind) g;
    })

-- ---- outside a limit: further from 0 than it
pub outside_size : (limit : ℕ) (z : ℤ) → outside limit z ≡ ltb limit (nat_abs z)
outside_size zero (pos n) = rw (le-ltb n 0 (omega arith)) refl
outside_size (suc l) (pos n) = refl
outside_size zero (negsuc n) = sym (lt-ltb 0 (suc n) (omega arith))
outside_size (suc l) (negsuc n) =
    let e : l + 1 ≡ suc l = omega arith in
    let f : n + 1 ≡ suc n = omega arith in
    or-false (ltb l n) ∙ sym (rw (e, f) at (ltb_more 1 l n))

pub inside_bound : (limit : ℕ) (z : ℤ) → outside limit z ≡ false → nat_abs z ≤ limit
inside_bound limit z h = ltb-false limit (nat_abs z) (sym (outside_size limit z) ∙ h)

-- ---- the checks of the fixes, as the layers above use them: places within the limit, times that rise, and a short span
place_good : (limit : ℕ) (f : Fix) → fix_outside limit f ≡ false → Bounded limit f
place_good limit f h =
    let xy = neither (outside limit f.x) (outside limit f.y) h in
    let x = neither (lt_z f.x (neg_ℤ (pos limit))) (lt_z (pos limit) f.x) xy.0 in
    let y = neither (lt_z f.y (neg_ℤ (pos limit))) (lt_z (pos limit) f.y) xy.1 in
    record { x_low = le_of_lt_z x.0; x_high = le_of_lt_z x.1; y_low = le_of_lt_z y.0; y_high = le_of_lt_z y.1 }

good_place : (limit : ℕ) (f : Fix) → Bounded limit f → fix_outside limit f ≡ false
good_place limit f h = rw (lt_z_false h.x_low, lt_z_false h.x_high, lt_z_false h.y_low, lt_z_false h.y_high) refl

pub places_good : (limit : ℕ) (l : List Fix) → some_outside limit l ≡ false → All (Bounded limit) l
unfolding some_outside
places_good limit [] h = all_none
places_good limit (f ∷ l) h = let n = neither (fix_outside limit f) (some_outside limit l) h in all_more (place_good limit f n.0) (places_good limit l n.1)

pub good_places : (limit : ℕ) {l : List Fix} → All (Bounded limit) l → some_outside limit l ≡ false
unfolding some_outside
good_places limit all_none = refl
good_places limit (all_more {m = f} h t) = rw (good_place limit f h) (good_places limit t)

pub silences_good : (l : List Fix) → some_other_silence l ≡ false → All (λ (f : Fix). other_silence f ≡ false) l
unfolding some_other_silence
silences_good [] h = all_none
silences_good (f ∷ l) h = let n = neither (other_silence f) (some_other_silence l) h in all_more n.0 (silences_good l n.1)

pub good_silences : {l : List Fix} → All (λ (f : Fix). other_silence f ≡ false) l → some_other_silence l ≡ false
unfolding some_other_silence
good_silences all_none = refl
good_silences (all_more h t) = rw h (good_silences t)

after_good : (t : ℕ) (l : List Fix) → some_early_after t l ≡ false → After t l
unfolding some_early_after
after_good t [] h = none_after
after_good t (f ∷ l) h = let n = neither (leb f.t t) (some_early_after f.t l) h in later (leb-false f.t t n.0) (after_good f.t l n.1)

good_after : {t : ℕ} {l : List Fix} → After t l → some_early_after t l ≡ false
unfolding some_early_after
good_after none_after = refl
good_after {t} (later {a = f} h k) = rw (lt-leb f.t t h) (good_after k)

pub times_good : (l : List Fix) → some_early l ≡ false → Rising l
unfolding some_early
times_good [] h = no_fix
times_good (f ∷ l) h = rising (after_good f.t l h)

pub good_times : {l : List Fix} → Rising l → some_early l ≡ false
unfolding some_early
good_times no_fix = refl
good_times (rising k) = good_after k

pub span_good : (a : Fix) (l : List Fix) → of_ends too_long (a ∷ l) ≡ false → (last_of a l).t ≤ a.t + 65535
unfolding of_ends
span_good a l h =
    let b = last_of a l in
    let g : seconds a b ≤ℤ pos 65535 = le_of_lt_z h in
    omega (arith, simp diffs at g)

-- a silence of 0 or 1 is known
pub known_silence : (s : ℕ) → not (eqb s 0 || eqb s 1) ≡ false → s ≤ 1
known_silence zero h = omega arith
known_silence (suc zero) h = omega arith
known_silence (suc (suc s)) h = absurd (false_true (sym (rw (ne_eqb (suc (suc s)) 0 (λ e. omega arith), ne_eqb (suc (suc s)) 1 (λ e. omega arith)) at h)))

silence_known : (s : ℕ) → s ≤ 1 → not (eqb s 0 || eqb s 1) ≡ false
silence_known zero h = refl
silence_known (suc zero) h = refl
silence_known (suc (suc s)) h = absurd (omega arith)

-- what a test says of the ends
at_ends : (test : Fix → Fix → Bool) (l : List Fix) (a : Fix) (m : List Fix) → l ≡ a ∷ m → of_ends test l ≡ false → test a (last_of a m) ≡ false
unfolding of_ends
at_ends test l a m e h = rw e at h

ends_at : (test : Fix → Fix → Bool) (l : List Fix) → ((a : Fix) (m : List Fix) → l ≡ a ∷ m → test a (last_of a m) ≡ false) → of_ends test l ≡ false
unfolding of_ends
ends_at test [] h = refl
ends_at test (a ∷ m) h = h a m refl

mark_either : {top m : ℕ} → GoodMark top m → (m ≤ top) ⊎ (m ≡ 65535)
mark_either (mark_applied h) = inl h
mark_either (mark_never_applied h) = inr h

span_of : (a : Fix) (m : List Fix) → too_long a (last_of a m) ≡ false → (last_of a m).t ≤ a.t + 65535
unfolding of_ends
span_of a m h = span_good a m h

short_of : (a : Fix) (m : List Fix) → (last_of a m).t ≤ a.t + 65535 → too_long a (last_of a m) ≡ false
short_of a m h = let g : seconds a (last_of a m) ≤ℤ pos 65535 = simp diffs (omega (arith, h)) in lt_z_false g

last_known : (a : Fix) (m : List Fix) → All (λ (f : Fix). other_silence f ≡ false) (a ∷ m) → other_silence (last_of a m) ≡ false
unfolding last_of
last_known a [] (all_more h t) = h
last_known a (c ∷ m) (all_more h t) = last_known c m t

none_last : {l : List Fix} (a : Fix) (m : List Fix) → l ≡ a ∷ m → All (λ (f : Fix). other_silence f ≡ false) l → last_silent a (last_of a m) ≡ false → (last_of a m).silence ≡ 0
none_last a m e all h =
    let few = known_silence (last_of a m).silence (last_known a m (rw e at all)) in
    let one = eqb-false (last_of a m).silence 1 h in
    go (last_of a m).silence few one
  where
    go : (s : ℕ) → s ≤ 1 → (s ≡ 1 → ⊥) → s ≡ 0
    go zero f o = refl
    go (suc zero) f o = absurd (o refl)
    go (suc (suc s)) f o = absurd (omega arith)

-- ---- ACCEPTED, EXACTLY, in numbers: there is a head of a known kind, 1 to 4,096 fixes, their length and that many bytes, a mark up to the kind's limit or `never`,
-- places within its limit, times that rise over 65,535 seconds at most, and silences of 0 or 1, of which the last fix has 0; and never otherwise
pub is_accepted_gives : (b : List ℕ) → IsAccepted b
    ↔ ((10 ≤ length b)
    × (coded kinds (kind_field b) ≡ true)
    × (1 ≤ count_field b)
    × (count_field b ≤ 4096)
    × (length_field b ≡ record_length (kind_of b) (count_field b))
    × (length_field b ≤ length b)
    × ((mark_field b ≤ (kind_of b).top) ⊎ (mark_field b ≡ 65535))
    × All (Bounded (kind_of b).limit) (fixes b)
    × Rising (fixes b)
    × All (λ (f : Fix). f.silence ≤ 1) (fixes b)
    × ((a : Fix) (m : List Fix) → fixes b ≡ a ∷ m → ((last_of a m).t ≤ a.t + 65535) × ((last_of a m).silence ≡ 0)))
is_accepted_gives b = (
  λ h.
      let g = accepted_good b h in
      let f = g.trail_good in
      let known = silences_good (fixes b) f.known_silences in (
        g.head.ten,
        g.head.known,
        g.head.some_fix,
        g.head.few_fixes,
        g.head.length_is,
        omega (arith, g.head.length_is, g.head.whole),
        mark_either g.mark,
        places_good (kind_of b).limit (fixes b) f.inside,
        times_good (fixes b) f.ordered,
        all_map (λ f e. known_silence f.silence e) known,
        λ a m e. (span_of a m (at_ends too_long (fixes b) a m e f.short), none_last a m e known (at_ends last_silent (fixes b) a m e f.heard_last)),
      ),
  λ p.
      good_accepted b (record {
        head = record { ten = p.0; known = p.1; some_fix = p.2; few_fixes = p.3; length_is = p.4; whole = omega (arith, p.4, p.5) };
        mark = ⊎_elim (λ h. mark_applied h) (λ h. mark_never_applied h) p.6;
        trail_good = record {
          inside = good_places (kind_of b).limit p.7;
          ordered = good_times p.8;
          short = ends_at too_long (fixes b) (λ a m e. short_of a m (p.10 a m e).0);
          known_silences = good_silences (all_map (λ f h. silence_known f.silence h) p.9);
          heard_last = ends_at last_silent (fixes b) (λ a m e. rw (p.10 a m e).1 refl);
        };
      }),
)

-- ---- an accepted record, written again with its own mark, is its own bytes
pub rewritten : (b : List ℕ) → AreBytes b → IsAccepted b → record_bytes (kind_of b) (mark_field b) (fixes b) ≡ take (length_field b) b
rewritten b h a = let g = (accepted_good b a).head in rewrites b h g.length_is (kind_code b g.known) (omega (arith, g.length_is, g.whole))
