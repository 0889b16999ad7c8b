-- Checks 7 to 9 and 20 in one pass over the fixes: what the passed ones have said so far.
use Rattle.std.specs.Prelude.{◌≡◌, Bool, true, false, ◌||◌, ℕ, suc, ◌+◌, ◌-◌, ◌<◌, ◌≤◌, leb, ℤ, pos, negsuc, neg_ℤ, ◌≤ℤ◌, length}
use Rattle.std.proofs.Math.Path.{refl}
use Rattle.std.proofs.Common.{sym, ◌∙◌, ap, arith, SFits}
use Rattle.std.proofs.Math.Bool.{or_assoc, or-false}
use mathlib.Core.List.{List, [], ◌∷◌, ◌++◌}
use Rattle.std.proofs.Math.Option.{some, none}
use Rattle.std.specs.Int.{w32}
use Rattle.distance.specs.Fix.{Fix, last_of}
use Rattle.distance.specs.Distance.{seconds}
use Rattle.distance.specs.Silence.{silent}
use Rattle.distance.specs.Laws.All.{All, all_none, all_more}
use Rattle.distance.proofs.Laws.All.{all_append, last_more}
use Rattle.distance.specs.Integers.Differences.{diffs}
use Rattle.distance.specs.Integers.Order.{lt_z_true, lt_z_false}
use Rattle.record.specs.declared.Scan.{Scan}
use Rattle.format.specs.Kinds.{Kind}
use Rattle.format.specs.Format.{each}
use Rattle.record.specs.Checks.{Asked, misplaced, unordered, long_span, bad_silence, first, sentence, outside, fix_outside, some_outside, some_early_after, some_early, other_silence, some_other_silence, of_ends, too_long, fix_checks}
use Rattle.format.proofs.Laws.Each.{each_more}
use Rattle.record.proofs.Laws.First.{stops, passes}
use Rattle.record.specs.Laws.Scan.{Scanned, Timed}

pub none_timed : (l : List Fix) → length l ≡ 0 → All Timed l
none_timed [] h = all_none
none_timed (f ∷ l) h = absurd (omega arith)

-- no coordinate is outside a limit that 32 bits don't hold with a sign
pub none_outside : (z : ℤ) (limit : ℕ) → SFits w32 z → 2147483647 < limit → false ≡ outside limit z
none_outside z limit f h = rw (lt_z_false {x = z} {y = neg_ℤ (pos limit)} (low z f), lt_z_false {x = pos limit} {y = z} (high z f)) refl
  where
    low : (z : ℤ) → SFits w32 z → neg_ℤ (pos limit) ≤ℤ z
    low (pos n) f = simp diffs (omega arith)
    low (negsuc n) f = simp diffs (omega (arith, f.sfits))

    high : (z : ℤ) → SFits w32 z → z ≤ℤ pos limit
    high (pos n) f = simp diffs (omega (arith, f.sfits))
    high (negsuc n) f = simp diffs (omega arith)

-- one fix more, at the end
outside_more : (limit : ℕ) (l : List Fix) (f : Fix) → some_outside limit (l ++ f ∷ []) ≡ some_outside limit l || fix_outside limit f
unfolding some_outside
outside_more limit [] f = or-false _
outside_more limit (a ∷ l) f = ap (λ (t : Bool). fix_outside limit a || t) (outside_more limit l f) ∙ sym (or_assoc (fix_outside limit a) (some_outside limit l) (fix_outside limit f))

early_more : (a : Fix) (l : List Fix) (f : Fix) → some_early_after a.t (l ++ f ∷ []) ≡ some_early_after a.t l || leb f.t (last_of a l).t
unfolding some_early_after last_of
early_more a [] f = or-false _
early_more a (b ∷ l) f = ap (λ (t : Bool). leb b.t a.t || t) (early_more b l f) ∙ sym (or_assoc (leb b.t a.t) (some_early_after b.t l) (leb f.t (last_of b l).t))

silence_more : (l : List Fix) (f : Fix) → some_other_silence (l ++ f ∷ []) ≡ some_other_silence l || other_silence f
unfolding some_other_silence
silence_more [] f = or-false _
silence_more (a ∷ l) f = ap (λ (t : Bool). other_silence a || t) (silence_more l f) ∙ sym (or_assoc (other_silence a) (some_other_silence l) (other_silence f))

pub scanned_first : (limit : ℕ) (a : Fix) (s : Scan) → s.outside ≡ fix_outside limit a → s.early ≡ false → s.other ≡ other_silence a → s.first.0 ≡ a.t → s.last.0 ≡ a.t
    → s.silent ≡ silent a → a.t < 4294967296 → Scanned limit a [] s
unfolding some_outside some_early some_early_after some_other_silence last_of
scanned_first limit a s p q o r t v h = record {
  outside_is = p ∙ sym (or-false _);
  early_is = q;
  other_is = o ∙ sym (or-false _);
  first_is = r;
  last_is = t;
  silent_is = v;
  timed = all_more (record { t32 = h }) all_none;
}

pub scanned_more : (limit : ℕ) (a : Fix) (l : List Fix) (f : Fix) (s r : Scan) → Scanned limit a l s → r.outside ≡ s.outside || fix_outside limit f → r.early ≡ s.early || leb f.t s.last.0
    → r.other ≡ s.other || other_silence f → r.first.0 ≡ s.first.0 → r.last.0 ≡ f.t → r.silent ≡ silent f → f.t < 4294967296 → Scanned limit a (l ++ f ∷ []) r
unfolding some_early
scanned_more limit a l f s r h p q o u v z w = record {
  outside_is = p ∙ ap (λ (t : Bool). t || fix_outside limit f) h.outside_is ∙ sym (outside_more limit (a ∷ l) f);
  early_is = q ∙ rw (h.early_is, h.last_is) (sym (early_more a l f));
  other_is = o ∙ ap (λ (t : Bool). t || other_silence f) h.other_is ∙ sym (silence_more (a ∷ l) f);
  first_is = u ∙ h.first_is;
  last_is = v ∙ rw (last_more a l f) refl;
  silent_is = z ∙ rw (last_more a l f) refl;
  timed = all_append h.timed (all_more (record { t32 = w }) all_none);
}

-- ---- the loop over positions: the fixes 0 to k − 1 are passed
pub scanned_start : (limit : ℕ) (f : ℕ → Fix) (a : Fix) (s : Scan) → a ≡ f 0 → Scanned limit a [] s → Scanned limit (f 0) (each f 1 (1 - 1)) s
unfolding each
scanned_start limit f a s e h = rw e at h

pub scanned_step : (limit : ℕ) (f : ℕ → Fix) (k : ℕ) (a : Fix) (r : Scan) → 1 ≤ k → a ≡ f k → Scanned limit (f 0) (each f 1 (k - 1) ++ a ∷ []) r → Scanned limit (f 0) (each f 1 (k + 1 - 1)) r
scanned_step limit f k a r p e h =
    let m : k + 1 - 1 ≡ suc (k - 1) = omega arith in
    let n : 1 + (k - 1) ≡ k = omega arith in
    rw (m, each_more f 1 (k - 1), n, ← e) h

-- ---- what the whole pass says
long_true : (a b : Fix) → a.t + 65535 < b.t → too_long a b ≡ true
long_true a b h = lt_z_true {x = pos 65535} {y = seconds a b} (simp diffs (omega arith))

long_false : (a b : Fix) → b.t ≤ a.t + 65535 → too_long a b ≡ false
long_false a b h = lt_z_false {x = pos 65535} {y = seconds a b} (simp diffs (omega arith))

-- the four checks of a call whose fixes were passed
module _ (K : Kind) (q : Asked) (a : Fix) (l : List Fix) (s : Scan) (is : q.trail_fixes ≡ a ∷ l) (h : Scanned K.limit a l s) where
  outside_says : sentence K q misplaced ≡ s.outside
  unfolding sentence
  outside_says = rw is (sym h.outside_is)

  early_says : sentence K q unordered ≡ s.early
  unfolding sentence
  early_says = rw is (sym h.early_is)

  long_says : (b : Bool) → too_long a (last_of a l) ≡ b → sentence K q long_span ≡ b
  unfolding sentence of_ends
  long_says b e = rw is e

  silence_says : sentence K q bad_silence ≡ s.other || s.silent
  unfolding sentence of_ends
  silence_says = rw (is, h.other_is, h.silent_is) refl

  pub says_7 : s.outside ≡ true → first (sentence K q) fix_checks ≡ some 7
  says_7 e = stops _ misplaced _ (outside_says ∙ e)

  pub says_8 : s.outside ≡ false → s.early ≡ true → first (sentence K q) fix_checks ≡ some 8
  says_8 e f = passes _ misplaced _ (outside_says ∙ e) ∙ stops _ unordered _ (early_says ∙ f)

  pub says_9 : s.outside ≡ false → s.early ≡ false → s.first.0 + 65535 < s.last.0 → first (sentence K q) fix_checks ≡ some 9
  says_9 e f g = passes _ misplaced _ (outside_says ∙ e) ∙ passes _ unordered _ (early_says ∙ f)
      ∙ stops _ long_span _ (long_says true (long_true a (last_of a l) (omega (arith, h.first_is, h.last_is))))

  not_long : s.last.0 ≤ s.first.0 + 65535 → sentence K q long_span ≡ false
  not_long g = long_says false (long_false a (last_of a l) (omega (arith, h.first_is, h.last_is)))

  reach_20 : s.outside ≡ false → s.early ≡ false → s.last.0 ≤ s.first.0 + 65535 → first (sentence K q) fix_checks ≡ first (sentence K q) (bad_silence ∷ [])
  reach_20 e f g = passes (sentence K q) misplaced (unordered ∷ long_span ∷ bad_silence ∷ []) (outside_says ∙ e) ∙ passes (sentence K q) unordered (long_span ∷ bad_silence ∷ []) (early_says ∙ f)
      ∙ passes (sentence K q) long_span (bad_silence ∷ []) (not_long g)

  pub says_20 : s.outside ≡ false → s.early ≡ false → s.last.0 ≤ s.first.0 + 65535 → s.other || s.silent ≡ true → first (sentence K q) fix_checks ≡ some 20
  says_20 e f g z = reach_20 e f g ∙ stops (sentence K q) bad_silence [] (silence_says ∙ z)

  pub says_none : s.outside ≡ false → s.early ≡ false → s.last.0 ≤ s.first.0 + 65535 → s.other || s.silent ≡ false → first (sentence K q) fix_checks ≡ none
  unfolding first
  says_none e f g z = reach_20 e f g ∙ passes (sentence K q) bad_silence [] (silence_says ∙ z)
