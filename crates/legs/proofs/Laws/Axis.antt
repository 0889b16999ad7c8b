-- One axis of a leg: the times at which it is between the edges.
use Rattle.std.specs.Prelude.{◌≡◌, ◌↔◌, Bool, cond, ℕ, suc, ◌+◌, ◌*◌, ◌-◌, ◌≤◌, ◌<◌}
use Rattle.std.proofs.Math.Path.{refl}
use Rattle.std.proofs.Common.{mul-le-mul_right, mul-le-mul_left, mul-le-mul, arith}
use Rattle.std.proofs.Math.Nat.{mul-sub}
use borrow.Author.Tests.{lt-ltb, le-ltb}
use Rattle.distance.specs.Place.{Time}
use Rattle.distance.specs.Integers.Tests.{Test, holds, fails, test}
use Rattle.legs.specs.declared.Fraction.{Fraction}
use Rattle.legs.specs.declared.Times.{Times}
use Rattle.legs.specs.Legs.{times, no_times, moving, axis_times}
use Rattle.legs.specs.Laws.Times.{Each}
use Rattle.legs.proofs.Laws.Times.{OfTimes, Sound, Cuts}

-- u is on the leg that begins at A and takes D seconds
pub record On (A D : ℕ) (u : Time) : Type 0 where
  pub from : A * u.q ≤ u.p
  pub to : u.p ≤ (A + D) * u.q

-- the place at p/q, a + (b − a)·s/m with s = p − A·q and m = D·q, is from low to high
pub record Mid (A D a b low high : ℕ) (u : Time) : Type 0 where
  pub above : low * (D * u.q) + a * (u.p - A * u.q) ≤ a * (D * u.q) + b * (u.p - A * u.q)
  pub below : a * (D * u.q) + b * (u.p - A * u.q) ≤ high * (D * u.q) + a * (u.p - A * u.q)

-- what has to be gone, N of v·s/m, as a bound on the time
module _ (A D v N p q : ℕ) (o : A * q ≤ p) where
  gone_low : (A * v + D * N) * q ≤ p * v ↔ N * (D * q) ≤ v * (p - A * q)
  gone_low = let e = mul-sub v p (A * q) in let f = mul-le-mul_left v o in ((λ h. omega arith), (λ h. omega arith))

  gone_high : p * v ≤ (A * v + D * N) * q ↔ v * (p - A * q) ≤ N * (D * q)
  gone_high = let e = mul-sub v p (A * q) in let f = mul-le-mul_left v o in ((λ h. omega arith), (λ h. omega arith))

module _ (x y z m s : ℕ) where
  rise_low : x ≤ y → z * m + x * s ≤ x * m + y * s ↔ (z - x) * m ≤ (y - x) * s
  rise_low h = let e = mul-sub m z x in let f = mul-sub s y x in let g = mul-le-mul_left s h in ((λ k. omega arith), (λ k. omega arith))

  rise_high : x ≤ y → x ≤ z → x * m + y * s ≤ z * m + x * s ↔ (y - x) * s ≤ (z - x) * m
  rise_high h i = let e = mul-sub m z x in let f = mul-sub s y x in let g = mul-le-mul_left s h in let j = mul-le-mul_left m i in ((λ k. omega arith), (λ k. omega arith))

  fall_low : y ≤ x → z ≤ x → z * m + x * s ≤ x * m + y * s ↔ (x - y) * s ≤ (x - z) * m
  fall_low h i = let e = mul-sub m x z in let f = mul-sub s x y in let g = mul-le-mul_left s h in let j = mul-le-mul_left m i in ((λ k. omega arith), (λ k. omega arith))

  fall_high : y ≤ x → x * m + y * s ≤ z * m + x * s ↔ (x - z) * m ≤ (x - y) * s
  fall_high h = let e = mul-sub m x z in let f = mul-sub s x y in let g = mul-le-mul_left s h in ((λ k. omega arith), (λ k. omega arith))

-- ---- the cases: what holds of the times of each holds of the axis's
pub axis_cases : (Q : Times → Type 0) (A D a b low high : ℕ) → (a ≤ b → high < a → Q no_times) → (b ≤ a → a < low → Q no_times)
    → (a < b → a ≤ high → Q (moving A D (b - a) (low - a) (high - a))) → (b < a → low ≤ a → Q (moving A D (a - b) (a - high) (a - low)))
    → (a ≡ b → low ≤ a → a ≤ high → Q (times A (A + D) 1)) → Q (axis_times A D a b low high)
unfolding axis_times
axis_cases Q A D a b low high leaves-up leaves-down up down rests = go (test (suc a) b) (test (suc high) a) (test (suc a) low) (test (suc b) a)
  where
    go : {p q r s : Bool} → Test (suc a) b p → Test (suc high) a q → Test (suc a) low r → Test (suc b) a s
        → Q (cond p (cond q no_times (moving A D (b - a) (low - a) (high - a))) (cond r no_times (cond s (moving A D (a - b) (a - high) (a - low)) (cond q no_times (times A (A + D) 1)))))
    go (holds g) (holds h) k l = leaves-up (omega arith) (omega arith)
    go (holds g) (fails h) k l = up (omega arith) (omega arith)
    go (fails g) h (holds k) l = leaves-down (omega arith) (omega arith)
    go (fails g) h (fails k) (holds l) = down (omega arith) (omega arith)
    go (fails g) (holds h) (fails k) (fails l) = leaves-up (omega arith) (omega arith)
    go (fails g) (fails h) (fails k) (fails l) = rests (omega arith) (omega arith) (omega arith)

-- ---- the times of each
over : (n m d : ℕ) → 1 ≤ d → Sound (times n m d)
over n m d h = record { of_first = h; of_last = h }

module _ (A D a b low high : ℕ) where
  -- rising
  rising : a < b → a ≤ high → Cuts (On A D) (Mid A D a b low high) (moving A D (b - a) (low - a) (high - a))
  rising g h =
      let le : a ≤ b = omega arith in
      record {
        sound = over _ _ (b - a) (omega arith);
        only = (λ u o w.
            let s = u.p - A * u.q in
            record {
              from = (gone_low A D (b - a) (low - a) u.p u.q o.from).1 ((rise_low a b low (D * u.q) s le).0 w.above);
              until = (gone_high A D (b - a) (high - a) u.p u.q o.from).1 ((rise_high a b high (D * u.q) s le h).0 w.below);
            });
        all = (λ u o w.
            let s = u.p - A * u.q in
            record {
              above = (rise_low a b low (D * u.q) s le).1 ((gone_low A D (b - a) (low - a) u.p u.q o.from).0 w.from);
              below = (rise_high a b high (D * u.q) s le h).1 ((gone_high A D (b - a) (high - a) u.p u.q o.from).0 w.until);
            });
      }

  falling : b < a → low ≤ a → Cuts (On A D) (Mid A D a b low high) (moving A D (a - b) (a - high) (a - low))
  falling g h =
      let le : b ≤ a = omega arith in
      record {
        sound = over _ _ (a - b) (omega arith);
        only = (λ u o w.
            let s = u.p - A * u.q in
            record {
              from = (gone_low A D (a - b) (a - high) u.p u.q o.from).1 ((fall_high a b high (D * u.q) s le).0 w.below);
              until = (gone_high A D (a - b) (a - low) u.p u.q o.from).1 ((fall_low a b low (D * u.q) s le h).0 w.above);
            });
        all = (λ u o w.
            let s = u.p - A * u.q in
            record {
              above = (fall_low a b low (D * u.q) s le h).1 ((gone_high A D (a - b) (a - low) u.p u.q o.from).0 w.until);
              below = (fall_high a b high (D * u.q) s le).1 ((gone_low A D (a - b) (a - high) u.p u.q o.from).0 w.from);
            });
      }

  -- at rest between the edges: the whole leg
  resting : a ≡ b → low ≤ a → a ≤ high → Cuts (On A D) (Mid A D a b low high) (times A (A + D) 1)
  resting e g h = record {
    sound = over A (A + D) 1 (omega arith);
    only = (λ u o w. record { from = omega (arith, o.from); until = omega (arith, o.to) });
    all = (λ u o w. record {
      above = omega (arith, mul-le-mul_right (D * u.q) g, mul-le-mul_right {m = a} {n = b} (u.p - A * u.q) (omega arith));
      below = omega (arith, mul-le-mul_right (D * u.q) h, mul-le-mul_right {m = b} {n = a} (u.p - A * u.q) (omega arith));
    });
  }

  -- past the far edge and going away, or at rest outside
  module _ (t : 1 ≤ D) where
    none_above : a ≤ b → high < a → Cuts (On A D) (Mid A D a b low high) no_times
    none_above g h = record {
      sound = over 1 0 1 (omega arith);
      only = (λ u o w. absurd (omega (arith, mul-le-mul_right (D * u.q) h, mul-le-mul_right (u.p - A * u.q) g, mul-le-mul t u.whole, w.below)));
      all = (λ u o w. absurd (omega (arith, w.from, w.until, u.whole)));
    }

    none_below : b ≤ a → a < low → Cuts (On A D) (Mid A D a b low high) no_times
    none_below g h = record {
      sound = over 1 0 1 (omega arith);
      only = (λ u o w. absurd (omega (arith, mul-le-mul_right (D * u.q) h, mul-le-mul_right (u.p - A * u.q) g, mul-le-mul t u.whole, w.above)));
      all = (λ u o w. absurd (omega (arith, w.from, w.until, u.whole)));
    }

    pub axis_cut : Cuts (On A D) (Mid A D a b low high) (axis_times A D a b low high)
    axis_cut = axis_cases (Cuts (On A D) (Mid A D a b low high)) A D a b low high none_above none_below rising falling resting

-- ---- a lone fix: a leg of no seconds, at rest
pub record Rests (a low high : ℕ) (u : Time) : Type 0 where
  pub above : low ≤ a
  pub below : a ≤ high

pub rest_cut : (A a low high : ℕ) → Cuts (On A 0) (Rests a low high) (axis_times A 0 a a low high)
rest_cut A a low high = axis_cases (Cuts (On A 0) (Rests a low high)) A 0 a a low high
    (λ g h. record { sound = over 1 0 1 (omega arith); only = (λ u o w. absurd (omega (arith, w.below))); all = (λ u o w. absurd (nothing u w)) })
    (λ g h. record { sound = over 1 0 1 (omega arith); only = (λ u o w. absurd (omega (arith, w.above))); all = (λ u o w. absurd (nothing u w)) })
    (λ g h. absurd (omega arith))
    (λ g h. absurd (omega arith))
    (λ e g h. record {
      sound = over A (A + 0) 1 (omega arith);
      only = (λ u o w. record { from = omega (arith, o.from); until = omega (arith, o.to) });
      all = (λ u o w. record { above = g; below = h });
    })
  where
    nothing : (u : Time) → OfTimes no_times u → ⊥
    nothing u w = omega (arith, w.from, w.until, u.whole)

-- ---- THE DENOMINATOR: no more than the places are apart, or 1
pub axis_over : (A D a b low high top : ℕ) → 1 ≤ top → b - a ≤ top → a - b ≤ top → Each (λ (f : Fraction). f.den ≤ top) (axis_times A D a b low high)
axis_over A D a b low high top one up down = axis_cases (Each (λ (f : Fraction). f.den ≤ top)) A D a b low high
    (λ g h. record { of_first = one; of_last = one })
    (λ g h. record { of_first = one; of_last = one })
    (λ g h. record { of_first = up; of_last = up })
    (λ g h. record { of_first = down; of_last = down })
    (λ e g h. record { of_first = one; of_last = one })

-- ---- each case, computed
module _ (A D a b low high : ℕ) where
  pub axis_leaving_up : a < b → high < a → axis_times A D a b low high ≡ no_times
  unfolding axis_times
  axis_leaving_up h k = rw (lt-ltb a b h, lt-ltb high a k) refl

  pub axis_up : a < b → a ≤ high → axis_times A D a b low high ≡ moving A D (b - a) (low - a) (high - a)
  unfolding axis_times
  axis_up h k = rw (lt-ltb a b h, le-ltb high a k) refl

  pub axis_leaving_down : b ≤ a → a < low → axis_times A D a b low high ≡ no_times
  unfolding axis_times
  axis_leaving_down h k = rw (le-ltb a b h, lt-ltb a low k) refl

  pub axis_down : b < a → low ≤ a → axis_times A D a b low high ≡ moving A D (a - b) (a - high) (a - low)
  unfolding axis_times
  axis_down h k = rw (le-ltb a b (omega arith), le-ltb a low k, lt-ltb b a h) refl

  pub axis_outside : b ≤ a → a ≤ b → low ≤ a → high < a → axis_times A D a b low high ≡ no_times
  unfolding axis_times
  axis_outside h k l m = rw (le-ltb a b h, le-ltb a low l, le-ltb b a k, lt-ltb high a m) refl

  pub axis_rest : b ≤ a → a ≤ b → low ≤ a → a ≤ high → axis_times A D a b low high ≡ times A (A + D) 1
  unfolding axis_times
  axis_rest h k l m = rw (le-ltb a b h, le-ltb a low l, le-ltb b a k, le-ltb high a m) refl
