-- The sum of two floats that are whole numbers of sixteenths: while these together are fewer than 2²⁴ it is exact.
use Rattle.std.specs.Prelude.{◌≡◌, ℕ, ◌+◌, ◌-◌, ◌*◌, ◌^◌, ◌<◌, ◌≤◌, Bool, true, false, ◌⊎◌, [], ◌∷◌, ℤ, pos, ◌+ℤ◌, neg_ℤ, nat_lt, unsigned_abs, Float}
use Rattle.std.proofs.Math.Path.{refl, ap}
use Rattle.std.proofs.Common.{sym, subst, ◌∙◌, inl, inr, arith, mul_assoc, mul_comm, mul_right_comm, mul-pos, add-mul, mul-lt-mul_of_pos_right, mul-le-mul_right, lt_of_lt_of_le, lt-ltb, le-ltb, ltb-true, ltb-false, lit<, lit≤, shl_lt}
use Rattle.std.proofs.Math.Logic.{⊎_elim}
use Rattle.std.proofs.Math.Option.{some}
use Rattle.std.proofs.Math.Nat.{mul-sub}
use Rattle.std.specs.Float.{nan, inf, fin, binary32}
use Rattle.std.specs.Float.Ieee.{up, down, round, sum, add}
use Rattle.std.specs.Float.Ieee.Fits.{down_pos}
use Rattle.std.specs.Float.Ieee.Exact.{HasValue, round_exact}
use Rattle.std.specs.Float.Ieee.Scale.{round_same}
use Rattle.distance.specs.Integers.Differences.{pos_sub}
use Rattle.distance.specs.Integers.Ring.{ring, quotes, vars}
use Rattle.anchors.specs.Anchors.{negative_if, sixteenths, IsSixteenths}
use Rattle.anchors.proofs.Laws.Sixteenths.{magnitude_of, is_sixteenths, sixteenths_is}

-- n/16 is an f32 where n has at most 24 digits
exact : (s : Bool) (n : ℕ) → n < 2 ^ 24 → HasValue (round binary32 s n 16) s n 16
exact s n h = round_exact binary32 s n 16 n 145 (lit< tt) h (lt_of_lt_of_le (shl_lt 24 145 h) (lit≤ tt)) (sym (mul_assoc n (2 ^ 145) 16))

-- N/C, which is n/16, rounded
rounds : (s : Bool) (N C n : ℕ) → 0 < C → N * 16 ≡ n * C → n < 2 ^ 24 → HasValue (round binary32 s N C) s n 16
rounds s N C n p e h = subst (λ (z : Float). HasValue z s n 16) (sym (round_same binary32 s N C n 16 p (lit< tt) e)) (exact s n h)

-- ---- differences of naturals, as integers
either : (a b : ℕ) → (a < b) ⊎ (b ≤ a)
either a b = go (nat_lt a b) refl
  where
    go : (t : Bool) → nat_lt a b ≡ t → (a < b) ⊎ (b ≤ a)
    go true e = inl (ltb-true a b e)
    go false e = inr (ltb-false a b e)

above : (a b : ℕ) → b ≤ a → pos (a - b) ≡ pos a +ℤ neg_ℤ (pos b)
above a b h = sym (pos_sub b a h)

below : (a b : ℕ) → a ≤ b → neg_ℤ (pos (b - a)) ≡ pos a +ℤ neg_ℤ (pos b)
below a b h = ap neg_ℤ (sym (pos_sub a b h)) ∙ vars (pos a ∷ pos b ∷ []) (λ ρ v. simp (v 0, v 1, quotes) (ring _ _ ρ tt))

turned : (a b : ℕ) → pos b +ℤ neg_ℤ (pos a) ≡ neg_ℤ (pos a) +ℤ pos b
turned a b = vars (pos a ∷ pos b ∷ []) (λ ρ v. simp (v 0, v 1, quotes) (ring _ _ ρ tt))

opposites : (a b : ℕ) → neg_ℤ (pos a +ℤ pos b) ≡ neg_ℤ (pos a) +ℤ neg_ℤ (pos b)
opposites a b = vars (pos a ∷ pos b ∷ []) (λ ρ v. simp (v 0, v 1, quotes) (ring _ _ ρ tt))

-- ---- ±A/C and ±B/C, which are ±a/16 and ±b/16
module _ (A B C a b : ℕ) (p : 0 < C) (ea : A * 16 ≡ a * C) (eb : B * 16 ≡ b * C) where
  added : (s : Bool) → a + b < 2 ^ 24 → HasValue (round binary32 s (A + B) C) s (a + b) 16
  added s h = rounds s (A + B) C (a + b) p (omega (arith, add-mul a b C)) h

  taken : (s : Bool) → b - a < 2 ^ 24 → HasValue (round binary32 s (B - A) C) s (b - a) 16
  taken s h = rounds s (B - A) C (b - a) p (omega (arith, mul-sub C b a, mul_comm C (b - a), mul_comm C b, mul_comm C a)) h

  smaller : a < b → A < B
  smaller h = omega (arith, mul-lt-mul_of_pos_right {m = a} {n = b} {k = C} h p)

  no_smaller : b ≤ a → B ≤ A
  no_smaller h = omega (arith, mul-le-mul_right {m = b} {n = a} C h)

module _ (A B C a b : ℕ) (p : 0 < C) (ea : A * 16 ≡ a * C) (eb : B * 16 ≡ b * C) (h : a + b < 2 ^ 24) where
  of_signs : (s t : Bool) → IsSixteenths (sum binary32 s A t B C) (negative_if s a +ℤ negative_if t b)
  unfolding sum
  of_signs false false = record { negative = false; n = a + b; value = added A B C a b p ea eb false h; is = refl }
  of_signs true true = record { negative = true; n = a + b; value = added A B C a b p ea eb true h; is = opposites a b }
  of_signs false true =
      ⊎_elim
      (λ (l : a < b). rw (lt-ltb A B (smaller A B C a b p ea eb l))
      (record { negative = true; n = b - a; value = taken A B C a b p ea eb true (omega arith); is = below a b (omega arith) }))
      (λ (g : b ≤ a). rw (le-ltb A B (no_smaller A B C a b p ea eb g))
      (record { negative = false; n = a - b; value = taken B A C b a p eb ea false (omega arith); is = above a b g }))
      (either a b)
  of_signs true false =
      ⊎_elim
      (λ (l : a < b). rw (lt-ltb A B (smaller A B C a b p ea eb l))
      (record { negative = false; n = b - a; value = taken A B C a b p ea eb false (omega arith); is = above b a (omega arith) ∙ turned a b }))
      (λ (g : b ≤ a). rw (le-ltb A B (no_smaller A B C a b p ea eb g))
      (record { negative = nat_lt B A; n = a - b; value = taken B A C b a p eb ea (nat_lt B A) (omega arith); is = nothing_negative g ∙ turned a b }))
      (either a b)
    where
      -- where the two are as large their sum is +0, whose sign the machine takes from neither
      nothing_negative : b ≤ a → negative_if (nat_lt B A) (a - b) ≡ pos b +ℤ neg_ℤ (pos a)
      nothing_negative g =
          ⊎_elim
          (λ (l : b < a). ap (λ (t : Bool). negative_if t (a - b)) (lt-ltb B A (smaller B A C b a p eb ea l)) ∙ below b a g)
          (λ (k : a ≤ b). ap (λ (t : Bool). negative_if t (a - b)) (le-ltb B A (no_smaller B A C b a p eb ea k)) ∙ ap pos {x = a - b} {y = b - a} (omega arith) ∙ above b a k)
          (either b a)

-- ---- two floats, over one denominator
scaled : (k u q a d : ℕ) → k * u * 16 ≡ a * d → (k * u * q) * 16 ≡ a * (d * q)
scaled k u q a d h = mul_right_comm (k * u) q 16 ∙ ap (λ (j : ℕ). j * q) h ∙ mul_assoc a d q

of_values : (x y : Float) (s t : Bool) (a b : ℕ) → HasValue x s a 16 → HasValue y t b 16 → a + b < 2 ^ 24
    → IsSixteenths (add binary32 x y) (negative_if s a +ℤ negative_if t b)
unfolding add
of_values nan y s t a b hx hy h = absurd hx
of_values (inf r) y s t a b hx hy h = absurd hx
of_values (fin q m e) nan s t a b hx hy h = absurd hy
of_values (fin q m e) (inf r) s t a b hx hy h = absurd hy
of_values (fin q m e) (fin r n d) s t a b hx hy h =
    rw (hx.0, hy.0)
    (of_signs (m * up e * down d) (n * up d * down e) (down e * down d) a b (mul-pos (down_pos e) (down_pos d))
    (scaled m (up e) (down d) a (down e) hx.1)
    (scaled n (up d) (down e) b (down d) hy.1 ∙ ap (λ (k : ℕ). b * k) (mul_comm (down d) (down e))) h s t)

-- THE LAW: the f32 sum counts what the two count together.
pub sum_exact : (x y : Float) (z w : ℤ) → sixteenths x ≡ some z → sixteenths y ≡ some w → unsigned_abs z + unsigned_abs w < 2 ^ 24 → sixteenths (add binary32 x y) ≡ some (z +ℤ w)
sum_exact x y z w hx hy h =
    let gx = is_sixteenths x z hx in
    let gy = is_sixteenths y w hy in
    let ez : unsigned_abs z ≡ gx.n = ap unsigned_abs (sym gx.is) ∙ magnitude_of gx.negative gx.n in
    let ew : unsigned_abs w ≡ gy.n = ap unsigned_abs (sym gy.is) ∙ magnitude_of gy.negative gy.n in
    sixteenths_is (add binary32 x y) (z +ℤ w)
    (subst (λ (k : ℤ). IsSixteenths (add binary32 x y) k) (ap (λ (k : ℤ). k +ℤ negative_if gy.negative gy.n) gx.is ∙ ap (λ (k : ℤ). z +ℤ k) gy.is)
    (of_values x y gx.negative gy.negative gx.n gy.n gx.value gy.value (omega (arith, ez, ew))))
