-- The record in millimetres of an accepted record in centimetres is accepted, and a question that looks at times alone is refused as before.
use Rattle.std.specs.Prelude.{◌≡◌, refl, ◌⊎◌, ◌↔◌, ℕ, ◌*◌, ◌<◌, ◌≤◌, ℤ, pos, ◌*ℤ◌}
use Rattle.std.proofs.Common.{sym, ◌∙◌, ap, inl, inr, arith, eq-eqb, ne_eqb}
use Rattle.std.proofs.Math.Path.{subst}
use mathlib.Core.List.{List, [], ◌++◌, append-nil, map}
use Rattle.std.proofs.Math.Option.{none}
use Rattle.std.proofs.Math.ListN.{length, length-map}
use Rattle.distance.specs.Fix.{Fix, Bounded}
use Rattle.distance.specs.Tenfold.{tenfold_fix}
use Rattle.distance.specs.Laws.All.{All, all_none, all_more}
use Rattle.distance.proofs.Laws.All.{all_mapped}
use Rattle.distance.proofs.Laws.Tenfold.{minus_scaled, bounded_scaled}
use Rattle.distance.specs.Integers.Order.{lt_z_times}
use Rattle.format.specs.declared.Kind.TheVariants.{MillimetreTrail}
use Rattle.format.specs.Kinds.{Kind, trail, millimetre_trail}
use Rattle.format.specs.Format.{never, kind_of, kind_field, mark_field, count_field, fix_at, fixes, record_bytes}
use Rattle.format.proofs.Laws.Kinds.{is_kind, kind_of_is, kind_code, is_coded}
use Rattle.format.proofs.Laws.Each.{length_each}
use Rattle.format.proofs.Laws.Layout.{length_record}
use Rattle.format.proofs.Laws.RoundTrip.{AreBytes, InRange, bounded_in_range, bytes_in_range, read_record, record_are_bytes}
use Rattle.record.specs.Checks.{Check, Given, first, head_checks, fix_checks, too_long, last_silent, outside, read_refusal, IsAccepted}
use Rattle.record.specs.Answers.{Answer, gives, turns_away, SameAnswer}
use Rattle.record.specs.Tenfold.{tenfold_mark, tenfold_record, Tenfold}
use Rattle.record.proofs.Laws.First.{none_first, reading_alone}
use Rattle.record.proofs.Laws.Head.{asks}
use Rattle.record.proofs.Laws.Accepted.{GoodMark, mark_applied, mark_never_applied, GoodFixes, accepted_good, accept, places_good, good_places}
use Rattle.record.proofs.Laws.Changed.{first_same, early_changed, silences_changed, ends_changed}

-- ---- the mark
pub tenfold_mark_never : (m : ℕ) → m ≡ never → tenfold_mark m ≡ never
unfolding tenfold_mark
tenfold_mark_never m h = rw (eq-eqb m never h) refl

pub tenfold_mark_applied : (m : ℕ) → m < never → tenfold_mark m ≡ 10 * m
unfolding tenfold_mark
tenfold_mark_applied m h = rw (ne_eqb m never (λ z. omega arith)) refl

-- ---- the fixes
tenfold_in_range : {l : List Fix} → All (InRange trail) l → All (Bounded trail.limit) l → All (InRange millimetre_trail) (map tenfold_fix l)
tenfold_in_range all_none all_none = all_none
tenfold_in_range (all_more h t) (all_more k u) = all_more (bounded_in_range millimetre_trail (is_kind MillimetreTrail) h.t32 h.silence_in (bounded_scaled 10 k)) (tenfold_in_range t u)

tenfold_good : (l : List Fix) → GoodFixes trail.limit l → GoodFixes millimetre_trail.limit (map tenfold_fix l)
tenfold_good l g = record {
  inside = good_places millimetre_trail.limit (all_mapped tenfold_fix (λ m h. bounded_scaled 10 h) (places_good trail.limit l g.inside));
  ordered = early_changed tenfold_fix (λ a b. refl) l ∙ g.ordered;
  short = ends_changed tenfold_fix too_long too_long (λ a b. refl) l ∙ g.short;
  known_silences = silences_changed tenfold_fix (λ a. refl) l ∙ g.known_silences;
  heard_last = ends_changed tenfold_fix last_silent last_silent (λ a b. refl) l ∙ g.heard_last;
}

-- ---- the record
module _ (b : List ℕ) (bytes : AreBytes b) (accepted : IsAccepted b) (kind : kind_of b ≡ trail) where
  tenfold_of : GoodMark millimetre_trail.top (tenfold_mark (mark_field b)) → tenfold_mark (mark_field b) < 65536 → Tenfold b (tenfold_record b)
  unfolding tenfold_record
  tenfold_of good small =
      let K = millimetre_trail in
      let l = map tenfold_fix (fixes b) in
      let m = tenfold_mark (mark_field b) in
      let g = accepted_good b accepted in
      let trail_good = subst (λ (K : Kind). GoodFixes K.limit (fixes b)) kind g.trail_good in
      let many : length l ≡ count_field b = length-map (fixes b) tenfold_fix ∙ length_each (fix_at (kind_of b) b) 0 (count_field b) in
      let ranges = tenfold_in_range (subst (λ (K : Kind). All (InRange K) (fixes b)) kind (bytes_in_range (kind_of b) (kind_of_is b) b bytes 0 (count_field b))) (places_good trail.limit (fixes b) trail_good.inside) in
      let few : length l ≤ 4096 = omega (arith, g.head.few_fixes) in
      let r = rw (append-nil (record_bytes K m l)) at (read_record MillimetreTrail m l [] small few ranges) in
      let size = length_record K (is_kind MillimetreTrail) m l in
      record {
        kind_before = kind;
        kind_tenfold = r.kind_reads;
        accepted_before = accepted;
        accepted_tenfold = accept (record_bytes K m l) r (is_coded MillimetreTrail K.code refl) good (omega (arith, g.head.some_fix)) few (omega arith) (tenfold_good (fixes b) trail_good);
        fixes_tenfold = r.fixes_read;
        mark_tenfold = r.mark_reads;
      }

  -- of one that was never thinned, and of one whose mark, times ten, is a mark of kind 2
  pub tenfold_never : mark_field b ≡ never → Tenfold b (tenfold_record b)
  tenfold_never h = let e = tenfold_mark_never (mark_field b) h in tenfold_of (mark_never_applied e) (omega arith)

  pub tenfold_marked : 10 * mark_field b ≤ millimetre_trail.top → Tenfold b (tenfold_record b)
  tenfold_marked h = let e = tenfold_mark_applied (mark_field b) (omega arith) in tenfold_of (mark_applied (omega arith)) (omega arith)

pub tenfold_bytes : (b : List ℕ) → AreBytes (tenfold_record b)
unfolding tenfold_record
tenfold_bytes b = record_are_bytes millimetre_trail (tenfold_mark (mark_field b)) (map tenfold_fix (fixes b))

-- ---- A QUESTION's refusal: the reader's checks turn neither record away, and so its own checks decide
pub tenfold_refusal : {b c : List ℕ} → Tenfold b c → (g h : Given) (own : List Check) → All (λ (q : Check). asks c h q ≡ asks b g q) own
    → first (asks c h) ((head_checks ++ fix_checks) ++ own) ≡ first (asks b g) ((head_checks ++ fix_checks) ++ own)
tenfold_refusal {b} {c} t g h own same =
    none_first (asks c h) (head_checks ++ fix_checks) own (reading_alone c h ∙ t.accepted_tenfold.accepted) ∙ first_same same
    ∙ sym (none_first (asks b g) (head_checks ++ fix_checks) own (reading_alone b g ∙ t.accepted_before.accepted))

-- an edge is outside ten times the limit exactly if it was outside the limit
pub outside_tenfold : (z : ℤ) → outside millimetre_trail.limit (pos 10 *ℤ z) ≡ outside trail.limit z
outside_tenfold z = rw (minus_scaled 10 trail.limit, lt_z_times 10 z _ (omega arith), lt_z_times 10 (pos trail.limit) z (omega arith)) refl

-- ---- WHAT THE TYPES SAY, without their names: two answers that agree both give, and what they give agrees, or both are the same refusal ..
pub same_answer_gives : {A B : Type 0} (agrees : A → B → Type 0) (x : Answer A) (y : Answer B) → SameAnswer agrees x y
    → ((a : A) × (g : B) × (x ≡ gives a) × (y ≡ gives g) × agrees a g) ⊎ ((k : ℕ) × (x ≡ turns_away k) × (y ≡ turns_away k))
same_answer_gives agrees (gives a) (gives g) h = inl (a, g, refl, refl, h)
same_answer_gives agrees (turns_away k) (turns_away n) h = inr (n, ap turns_away h, refl)
same_answer_gives agrees (gives a) (turns_away n) h = absurd h
same_answer_gives agrees (turns_away k) (gives g) h = absurd h

-- .. and the same trail in the two units is exactly this: records of kind 1 and kind 2 that no check of the reader turns away, the fixes of the one ten times those
-- of the other, at the same seconds and with the same silences, and its mark too, or never
pub tenfold_gives : (b c : List ℕ) → Tenfold b c ↔ ((kind_field b ≡ 1) × (kind_field c ≡ 2) × (read_refusal b ≡ none) × (read_refusal c ≡ none)
    × (fixes c ≡ map (λ (f : Fix). record { t = f.t; x = pos 10 *ℤ f.x; y = pos 10 *ℤ f.y; silence = f.silence }) (fixes b))
    × (mark_field b ≡ 65535 → mark_field c ≡ 65535) × (mark_field b < 65535 → mark_field c ≡ 10 * mark_field b))
unfolding kind_of
tenfold_gives b c = (
  λ t. (
    coded_as b trail t.accepted_before t.kind_before,
    coded_as c millimetre_trail t.accepted_tenfold t.kind_tenfold,
    t.accepted_before.accepted,
    t.accepted_tenfold.accepted,
    t.fixes_tenfold,
    λ h. t.mark_tenfold ∙ tenfold_mark_never (mark_field b) h,
    λ h. t.mark_tenfold ∙ tenfold_mark_applied (mark_field b) h,
  ),
  λ h. record {
    kind_before = rw h.0 refl;
    kind_tenfold = rw h.1 refl;
    accepted_before = record { accepted = h.2 };
    accepted_tenfold = record { accepted = h.3 };
    fixes_tenfold = h.4;
    mark_tenfold = marked (accepted_good b (record { accepted = h.2 })).mark h.5 h.6;
  },
)
  where
    coded_as : (d : List ℕ) (K : Kind) → IsAccepted d → kind_of d ≡ K → kind_field d ≡ K.code
    coded_as d K a k = kind_code d (accepted_good d a).head.known ∙ ap (λ (J : Kind). J.code) k

    marked : GoodMark (kind_of b).top (mark_field b) → (mark_field b ≡ 65535 → mark_field c ≡ 65535) → (mark_field b < 65535 → mark_field c ≡ 10 * mark_field b)
        → mark_field c ≡ tenfold_mark (mark_field b)
    marked (mark_never_applied h) m n = m h ∙ sym (tenfold_mark_never (mark_field b) h)
    marked (mark_applied h) m n =
        let low : mark_field b < 65535 = omega (arith, h, (kind_of_is b).marked) in
        n low ∙ sym (tenfold_mark_applied (mark_field b) low)
