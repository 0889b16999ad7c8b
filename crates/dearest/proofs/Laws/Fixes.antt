-- The fixes of the dearest trail: their y without a subtraction, and that none of checks 7 to 9 and 20 turns them away.
use Rattle.std.specs.Prelude.{◌≡◌, refl, Bool, true, false, cond, ℕ, zero, suc, ◌+◌, ◌-◌, ◌%◌, ◌<◌, ◌≤◌, eqb, ℤ, negsuc, neg_ℤ, ◌-ℤ◌, ◌*ℤ◌, ◌≤ℤ◌}
use Rattle.std.proofs.Common.{sym, ◌∙◌, ap, one-mul, eq-eqb, ne_eqb}
use native.Mathlib.Omega.{arith}
use Rattle.std.proofs.Math.IntN.{pos}
use Rattle.distance.specs.Fix.{Fix, Bounded, After, none_after, later, Rising, no_fix, rising}
use Rattle.distance.specs.Integers.Bounds.{BothSigns, both_signs}
use Rattle.distance.specs.Integers.Differences.{diffs}
use Rattle.distance.specs.Integers.Order.{lt_z_false}
use Rattle.distance.specs.Laws.All.{All}
use Rattle.format.specs.Format.{each}
use Rattle.format.proofs.Laws.Each.{each_all}
use Rattle.record.specs.Checks.{too_long, of_ends}
use Rattle.record.proofs.Laws.Accepted.{GoodFixes, good_places, good_times}
use Rattle.record.specs.Laws.Scan.{Timed}
use Rattle.record.proofs.Laws.Silence.{NoSilence, heard_known, heard_last}
use Rattle.thinning.proofs.Laws.Spans.{last_at}
use Rattle.dearest.specs.Dearest.{dearest_y, dearest_fix, dearest}

-- ---- y: 1 or −1 times how many fixes follow
unfoldable pub sign : ℕ → ℤ
sign i = cond (eqb (i % 2) 0) (pos 1) (negsuc 0)

pub data Sign (i : ℕ) : ℤ → Type 0 where
  plus : i % 2 ≡ 0 → Sign i (pos 1)
  minus : i % 2 ≡ 1 → Sign i (negsuc 0)

pub sign_is : (i : ℕ) → Sign i (sign i)
unfolding sign
sign_is i = go (i % 2) refl
  where
    go : (p : ℕ) → i % 2 ≡ p → Sign i (cond (eqb p 0) (pos 1) (negsuc 0))
    go zero e = plus e
    go (suc zero) e = minus e
    go (suc (suc p)) e = absurd (omega arith)

pub fix_is : (n i : ℕ) {y : ℤ} → y ≡ dearest_y n i → ◌≡◌ {A = Fix} (record { t = i; x = pos 0; y = y; silence = 0 }) (dearest_fix n i)
unfolding dearest_fix
fix_is n i e = rw e refl

-- of fix i of n, after which r follow
height : (n i r : ℕ) → n ≡ suc (i + r) → pos n -ℤ pos 1 -ℤ pos i ≡ pos r
height n i r e = simp diffs (omega (arith, e))

pub y_is : (n i r : ℕ) → n ≡ suc (i + r) → dearest_y n i ≡ sign i *ℤ pos r
unfolding sign
y_is n i r e = rw (height n i r e) (go (eqb (i % 2) 0))
  where
    go : (b : Bool) → cond b (pos r) (neg_ℤ (pos r)) ≡ cond b (pos 1) (negsuc 0) *ℤ pos r
    go true = rw one-mul refl
    go false = rw one-mul refl

-- so it is n − 1 − i, with nothing cut off
pub in_numbers : (n i : ℕ) → i < n
    → dearest_fix n i ≡ record { t = i; x = pos 0; y = cond (eqb (i % 2) 0) (pos (n - 1 - i)) (neg_ℤ (pos (n - 1 - i))); silence = 0 }
unfolding dearest_fix
in_numbers n i h = rw (height n i (n - 1 - i) (omega arith)) refl

-- ---- a fix of a trail that check 3 lets pass
module _ (n i : ℕ) (h : i < n) (few : n ≤ 4096) where
  position : n ≡ suc (i + (n - 1 - i))
  position = omega arith

  -- y as the code computes it
  pub y_even : i % 2 ≡ 0 → pos (n - 1 - i) ≡ dearest_y n i
  y_even e = rw (eq-eqb (i % 2) 0 e) (sym (height n i (n - 1 - i) position))

  pub y_fits : BothSigns (n - 1 - i)
  y_fits = both_signs (omega arith)

  pub y_odd : (i % 2 ≡ 0 → ⊥) → pos 0 -ℤ pos (n - 1 - i) ≡ dearest_y n i
  y_odd e = rw (ne_eqb (i % 2) 0 e) (y_fits.opposite ∙ sym (ap neg_ℤ (height n i (n - 1 - i) position)))

  pub bounded : Bounded 16000 (dearest_fix n i)
  unfolding dearest_fix
  bounded = rw (y_is n i (n - 1 - i) position) (go (sign_is i))
    where
      go : {σ : ℤ} → Sign i σ → Bounded 16000 (record { t = i; x = pos 0; y = σ *ℤ pos (n - 1 - i); silence = 0 })
      go (plus e) = record { x_low = simp diffs (omega arith); x_high = simp diffs (omega arith); y_low = simp diffs (omega arith); y_high = simp diffs (omega arith) }
      go (minus e) = record { x_low = simp diffs (omega arith); x_high = simp diffs (omega arith); y_low = simp diffs (omega arith); y_high = simp diffs (omega arith) }

  pub timed : Timed (dearest_fix n i)
  unfolding dearest_fix
  timed = record { t32 = omega arith }

-- ---- the whole trail
-- each a second after the one before
after : (n k m : ℕ) → After k (each (dearest_fix n) (suc k) m)
unfolding each dearest_fix
after n k zero = none_after
after n k (suc m) = let h : k < suc k = omega arith in later {a = dearest_fix n (suc k)} h (after n (suc k) m)

times_rise : (n : ℕ) → Rising (dearest n)
unfolding each dearest_fix
times_rise zero = no_fix
times_rise (suc n) = rising (after (suc n) 0 n)

-- no more seconds than fixes
short : (n : ℕ) → n ≤ 4096 → of_ends too_long (dearest n) ≡ false
unfolding of_ends each dearest_fix
short zero few = refl
short (suc n) few =
    let h : (pos (0 + n) -ℤ pos 0) ≤ℤ pos 65535 = simp diffs (omega arith) in
    rw (last_at (dearest_fix (suc n)) 0 n) (lt_z_false h)

pub none_silent : (n : ℕ) → All NoSilence (dearest n)
unfolding dearest_fix
none_silent n = each_all (dearest_fix n) 0 n (λ i p q. refl)

-- NONE OF CHECKS 7 TO 9 AND 20 turns away a trail that check 3 lets pass.
pub good : (n : ℕ) → n ≤ 4096 → GoodFixes 16000 (dearest n)
good n few = record {
  inside = good_places 16000 (each_all (dearest_fix n) 0 n (λ i p q. bounded n i (omega arith) few));
  ordered = good_times (times_rise n);
  short = short n few;
  known_silences = heard_known (none_silent n);
  heard_last = heard_last (dearest n) (none_silent n);
}
