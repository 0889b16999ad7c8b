-- A float's count of sixteenths is what it means.
use Rattle.std.specs.Prelude.{◌≡◌, ℕ, zero, suc, ◌+◌, ◌*◌, ◌/◌, ◌%◌, Bool, true, false, cond, ◌↔◌, ℤ, ◌==◌, unsigned_abs, refl, Float}
use Rattle.std.proofs.Common.{sym, ap, ◌∙◌, arith, div-add-mod', mul-div_cancel, eqb-true}
use Rattle.std.proofs.Math.Option.{some, none}
use Rattle.std.proofs.Math.Nat.{mul-mod_left}
use Rattle.std.specs.Float.{nan, inf, fin}
use Rattle.std.specs.Float.Ieee.{up, down}
use Rattle.std.specs.Float.Ieee.Fits.{down_pos}
use Rattle.record.proofs.Laws.First.{some_none, some_same}
use Rattle.anchors.specs.Anchors.{negative_if, sixteenths, IsSixteenths}

pub magnitude_of : (s : Bool) (n : ℕ) → unsigned_abs (negative_if s n) ≡ n
magnitude_of false n = refl
magnitude_of true zero = refl
magnitude_of true (suc n) = refl

none_left : (q r n : ℕ) → q + r ≡ n → r ≡ 0 → n ≡ q
none_left q r n h e = omega arith

pub is_sixteenths : (x : Float) (z : ℤ) → sixteenths x ≡ some z → IsSixteenths x z
unfolding sixteenths
is_sixteenths nan z h = absurd (some_none (sym h))
is_sixteenths (inf s) z h = absurd (some_none (sym h))
is_sixteenths (fin s m e) z h = go (m * up e * 16 % down e == 0) refl h
  where
    go : (t : Bool) → (m * up e * 16 % down e == 0) ≡ t → cond t (some (negative_if s (m * up e * 16 / down e))) none ≡ some z → IsSixteenths (fin s m e) z
    go false k h = absurd (some_none (sym h))
    go true k h =
        let n = m * up e * 16 in
        record {
          negative = s;
          n = n / down e;
          value = (refl, none_left (n / down e * down e) (n % down e) n (div-add-mod' n (down e)) (eqb-true (n % down e) 0 k));
          is = some_same h;
        }

pub sixteenths_is : (x : Float) (z : ℤ) → IsSixteenths x z → sixteenths x ≡ some z
unfolding sixteenths
sixteenths_is nan z g = absurd g.value
sixteenths_is (inf s) z g = absurd g.value
sixteenths_is (fin s m e) z g =
    rw (g.value.1, mul-mod_left g.n (down e), mul-div_cancel g.n (down_pos e)) (ap some (ap (λ (t : Bool). negative_if t g.n) g.value.0 ∙ g.is))

-- THE MEANING: a float counts z exactly if it is z/16.
pub sixteenths_exactly : (x : Float) (z : ℤ) → sixteenths x ≡ some z ↔ IsSixteenths x z
sixteenths_exactly x z = (is_sixteenths x z, sixteenths_is x z)
