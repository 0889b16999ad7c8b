-- The fixes of an accepted record, by position: in order, within the limits, and no longer than a record may be.
use Rattle.std.specs.Prelude.{◌≡◌, refl, false, List, ◌∷◌}
use Rattle.std.proofs.Math.Logic.{⊎_elim}
use Prim.Native.Nat.{ℕ, zero, suc, ◌+◌, ◌*◌, ◌-◌, ◌<◌, ◌≤◌}
use Rattle.std.proofs.Common.{eq-or-lt_of_le, le_refl, le_trans, arith}
use Rattle.distance.specs.Fix.{Fix, Bounded, widest, After, later, Rising, rising, last_of}
use Rattle.distance.specs.Span.{Chord, one_word, greatest_N}
use Rattle.distance.proofs.Laws.Deviation.{span_off, widest_off}
use Rattle.distance.specs.Laws.All.{All}
use Rattle.format.specs.Kinds.{Kind}
use Rattle.format.specs.Format.{kind_of, count_field, record_length, fix_at, each}
use Rattle.format.proofs.Laws.Kinds.{longer}
use Rattle.format.proofs.Laws.Each.{all_at}
use Rattle.record.specs.Checks.{IsAccepted, some_outside, some_early, of_ends, too_long}
use Rattle.record.proofs.Laws.Accepted.{Good, accepted_good, places_good, times_good, span_good}
use Rattle.thinning.specs.Spans.{Spans, SpanOff}

pub fewer : {limit : ℕ} {f : ℕ → Fix} {n : ℕ} (m : ℕ) → m ≤ n → Spans limit f n → Spans limit f m
fewer m h s = record { spans = λ i k j p q r. s.spans i k j p q (omega arith) }

module _ (f : ℕ → Fix) where
  later_at : (t k n : ℕ) → After t (each f k n) → (i : ℕ) → k ≤ i → i < k + n → t < (f i).t
  unfolding each
  later_at t k zero h i p q = absurd (omega arith)
  later_at t k (suc n) (later h r) i p q =
      ⊎_elim (λ (e : k ≡ i). rw (← e) h) (λ (l : k < i). omega (arith, later_at (f k).t (suc k) n r i l (omega arith))) (eq-or-lt_of_le p)

  -- a later position has no earlier time
  ordered : (k n : ℕ) → After (f k).t (each f (suc k) n) → (i j : ℕ) → k ≤ i → i < j → j ≤ k + n → (f i).t < (f j).t
  unfolding each
  ordered k zero h i j p q r = absurd (omega arith)
  ordered k (suc n) (later h t) i j p q r =
      ⊎_elim (λ (e : k ≡ i). rw (← e) (later_at (f k).t (suc k) (suc n) (later h t) j (omega arith) (omega arith)))
      (λ (l : k < i). ordered (suc k) n t i j l q (omega arith))
      (eq-or-lt_of_le p)

  pub in_order : (k n : ℕ) → After (f k).t (each f (suc k) n) → (i j : ℕ) → k ≤ i → i ≤ j → j ≤ k + n → (f i).t ≤ (f j).t
  in_order k n h i j p q r = ⊎_elim (λ (e : i ≡ j). rw e (omega arith)) (λ (l : i < j). omega (arith, ordered k n h i j p l r)) (eq-or-lt_of_le q)

-- the last fix by position
pub last_at : (f : ℕ → Fix) (k n : ℕ) → last_of (f k) (each f (suc k) n) ≡ f (k + n)
unfolding last_of each
last_at f k zero = let e : k + 0 ≡ k = omega arith in rw e refl
last_at f k (suc n) = let e : k + suc n ≡ suc k + n = omega arith in rw e (last_at f (suc k) n)

pub spans_of : {limit : ℕ} (f : ℕ → Fix) (n : ℕ) → All (Bounded limit) (each f 0 (suc n)) → After (f 0).t (each f 1 n) → (f n).t ≤ (f 0).t + 65535 → Spans limit f (suc n)
spans_of f n placed times short = record {
  spans = λ i m j p q r.
      let before = in_order f 0 n times 0 i (omega arith) (omega arith) (omega arith) in
      let after = in_order f 0 n times j n (omega arith) (omega arith) (omega arith) in
      let order = in_order f 0 n times i j (omega arith) (omega arith) (omega arith) in
      record {
        between = record {
          chord = record { order = order; short = omega arith };
          after = in_order f 0 n times i m (omega arith) p (omega arith);
          before = in_order f 0 n times m j (omega arith) q (omega arith);
        };
        placed_i = all_at f (suc n) i placed (omega arith);
        placed_m = all_at f (suc n) m placed (omega arith);
        placed_j = all_at f (suc n) j placed (omega arith);
      };
}

after_first : (f : ℕ → Fix) (n : ℕ) → Rising (each f 0 (suc n)) → After (f 0).t (each f 1 n)
unfolding each
after_first f n (rising k) = k

first_at : (f : ℕ → Fix) (n : ℕ) → each f 0 (suc n) ≡ f 0 ∷ each f 1 n
unfolding each
first_at f n = refl

zero_plus : (n : ℕ) → 0 + n ≡ n
zero_plus n = omega arith

-- of an accepted record, by the limit of its kind
pub accepted_spans : (b : List ℕ) → IsAccepted b → Spans (kind_of b).limit (fix_at (kind_of b) b) (count_field b)
accepted_spans b a = go (count_field b) g.head.some_fix g.trail_good.inside g.trail_good.ordered g.trail_good.short
  where
    g : Good b
    g = accepted_good b a

    f : ℕ → Fix
    f = fix_at (kind_of b) b

    go : (n : ℕ) → 1 ≤ n → some_outside (kind_of b).limit (each f 0 n) ≡ false → some_early (each f 0 n) ≡ false → of_ends too_long (each f 0 n) ≡ false → Spans (kind_of b).limit f n
    go zero one inside ordered short = absurd (omega arith)
    go (suc n) one inside ordered short =
        spans_of f n (places_good (kind_of b).limit _ inside) (after_first f n (times_good _ ordered))
        (rw (last_at f 0 n, zero_plus n) at (span_good (f 0) (each f 1 n) (rw (first_at f n) at short)))

-- bytes that hold so many fixes hold fewer
pub holds_fewer : (K : Kind) {bytes : ℕ} (m n : ℕ) → m ≤ n → record_length K n ≤ bytes → record_length K m ≤ bytes
holds_fewer K m n h r = le_trans (longer K m n h) r

-- ---- what the distance layer asks: of a span that one word holds, of any span, and of a span's ends
module _ {limit : ℕ} {f : ℕ → Fix} (lo hi : ℕ) (s : Spans limit f (hi + 1)) where
  pub short_off : 2 * limit * ((f hi).t - (f lo).t) ≤ one_word → SpanOff one_word (f lo) (f hi) f lo hi
  short_off h = record { off = λ m p q. span_off (s.spans lo m hi (omega arith) (omega arith) (omega arith)) one_word h }

  pub any_off : limit ≤ widest → SpanOff greatest_N (f lo) (f hi) f lo hi
  any_off h = record { off = λ m p q. widest_off (s.spans lo m hi (omega arith) (omega arith) (omega arith)) h }

  pub chord_of : lo ≤ hi → Chord (f lo) (f hi)
  chord_of h = (s.spans lo lo hi (le_refl lo) h (omega arith)).between.chord

-- of places in centimetres one word holds every span: 2·16,000·65,535 is less than it
pub narrow_off : {f : ℕ → Fix} (lo hi : ℕ) → lo ≤ hi → Spans 16000 f (hi + 1) → SpanOff one_word (f lo) (f hi) f lo hi
narrow_off lo hi h s = let c = chord_of lo hi s h in short_off lo hi s (omega (arith, c.order, c.short))

pub off_chord : {top : ℕ} {i j : Fix} {f : ℕ → Fix} {lo hi : ℕ} → SpanOff top i j f lo hi → lo + 1 < hi → Chord i j
off_chord {lo} s h = (s.off (lo + 1) (omega arith) h).between.chord
