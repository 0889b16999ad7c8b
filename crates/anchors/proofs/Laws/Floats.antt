-- f32 arithmetic as counting needs it: equality by value, what an f32 holds, the tests at 2¹⁹, and products and casts that lose nothing.
use Rattle.std.specs.Prelude.{◌≡◌, ℕ, zero, suc, ◌+◌, ◌-◌, ◌*◌, ◌/◌, ◌%◌, ◌^◌, ◌<◌, ◌≤◌, min, Bool, true, false, cond, ◌&&◌, ◌||◌, T, ltb, leb, ℤ, pos, negsuc, neg_ℤ, ◌==◌, ◌≢◌, nat_eq, nat_le, nat_lt, refl, Float, not}
use Rattle.std.proofs.Common.{sym, ap, subst, ◌∙◌, arith, mul_assoc, mul_comm, mul_left_comm, mul-pos, one-mul, mul-one, zero-mul, lt_of_lt_of_le, not-le_of_lt, lt_of_not-le, le_of_suc-le-suc, div-add-mod', div-lt_iff_lt-mul, eq-eqb, ne_eqb, eqb-true, lt-ltb, le-leb, ltb-true, ltb-false, ltb→lt, leb→le, lit<, lit≤, shl_lt, pow-add, pow_pos, pow_mono, mul_right_comm, mul-le-mul_right, mul-lt-mul_of_pos_right}
use Rattle.std.specs.Bool.{beq}
use Rattle.std.proofs.Math.Bool.{and-false}
use Rattle.std.proofs.Math.Nat.{mod-one, eq_of_mul-eq-mul_right}
use Rattle.std.proofs.lemmas.Bool.{eqb-false, lt-leb}
use Rattle.std.proofs.Math.Pow.{pow-lt}
use Rattle.std.specs.Float.{nan, inf, fin, binary32}
use Rattle.std.specs.Float.Ieee.{up, down, round, mul, neg, lt, le, eq, level, fits, of_int, in_float, to_signed, of_bits, unlike, ne}
use Rattle.std.specs.Float.Ieee.Fits.{down_pos, and_l, and_r}
use Rattle.std.specs.Float.Ieee.Exact.{HasValue, round_exact}
use Rattle.std.specs.Float.Ieee.Nearest.{div_same}
use Rattle.anchors.specs.Anchors.{negative_if}

-- ---- the numbers that stand in the code
pub zero_bits : of_bits binary32 0 ≡ fin false 0 (pos 0)
unfolding of_bits
zero_bits = refl

pub sixteen_bits : of_bits binary32 1098907648 ≡ fin false 1 (pos 4)
unfolding of_bits
sixteen_bits = refl

pub high_bits : of_bits binary32 1224736768 ≡ fin false 1 (pos 19)
unfolding of_bits
high_bits = refl

pub low_bits : neg (of_bits binary32 1224736768) ≡ fin true 1 (pos 19)
unfolding of_bits neg
low_bits = refl

-- ---- two floats that are a/c and b/d in size are equal as those fractions and their signs are
same_eqb : (m n i j : ℕ) → (m ≡ n → i ≡ j) → (i ≡ j → m ≡ n) → (m == n) ≡ (i == j)
same_eqb m n i j f g = go (m == n) refl
  where
    go : (t : Bool) → (m == n) ≡ t → t ≡ (i == j)
    go true e = sym (eq-eqb i j (f (eqb-true m n e)))
    go false e = sym (ne_eqb i j (λ (h : i ≡ j). eqb-false m n e (g h)))

turned : (p q r s : ℕ) → p * q * (r * s) ≡ p * r * (q * s)
turned p q r s = simp (mul_assoc, mul_left_comm)

swapped : (p q r s : ℕ) → p * q * (r * s) ≡ p * s * (q * r)
swapped p q r s = simp (mul_assoc, mul_comm, mul_left_comm)

module _ (U W E F a b c d : ℕ) (e : 0 < E) (f : 0 < F) (pc : 0 < c) (pd : 0 < d) (hu : U * c ≡ a * E) (hw : W * d ≡ b * F) where
  left : U * F * (c * d) ≡ a * d * (E * F)
  left = turned U F c d ∙ ap (λ (k : ℕ). k * (F * d)) hu ∙ swapped a E F d

  right : W * E * (c * d) ≡ b * c * (E * F)
  right = swapped W E c d ∙ ap (λ (k : ℕ). k * (E * c)) hw ∙ swapped b F E c ∙ ap (λ (k : ℕ). b * c * k) (mul_comm F E)

  equal_sizes : nat_eq (U * F) (W * E) ≡ (a * d == b * c)
  equal_sizes =
      same_eqb (U * F) (W * E) (a * d) (b * c)
      (λ (h : U * F ≡ W * E). eq_of_mul-eq-mul_right (E * F) (mul-pos e f) (a * d) (b * c) (sym left ∙ ap (λ (k : ℕ). k * (c * d)) h ∙ right))
      (λ (h : a * d ≡ b * c). eq_of_mul-eq-mul_right (c * d) (mul-pos pc pd) (U * F) (W * E) (left ∙ ap (λ (k : ℕ). k * (E * F)) h ∙ sym right))

  no_size : nat_eq (U * F) 0 ≡ (a * d == 0)
  no_size =
      same_eqb (U * F) 0 (a * d) 0
      (λ (h : U * F ≡ 0). eq_of_mul-eq-mul_right (E * F) (mul-pos e f) (a * d) 0 (sym left ∙ ap (λ (k : ℕ). k * (c * d)) h ∙ zero-mul (c * d) ∙ sym (zero-mul (E * F))))
      (λ (h : a * d ≡ 0). eq_of_mul-eq-mul_right (c * d) (mul-pos pc pd) (U * F) 0 (left ∙ ap (λ (k : ℕ). k * (E * F)) h ∙ zero-mul (E * F) ∙ sym (zero-mul (c * d))))

equal_as : (x y : Float) (s t : Bool) (a b c d : ℕ) → 0 < c → 0 < d → HasValue x s a c → HasValue y t b d → eq x y ≡ level s (a * d) t (b * c)
unfolding eq
equal_as nan y s t a b c d pc pd hx hy = absurd hx
equal_as (inf r) y s t a b c d pc pd hx hy = absurd hx
equal_as (fin q m e) nan s t a b c d pc pd hx hy = absurd hy
equal_as (fin q m e) (inf r) s t a b c d pc pd hx hy = absurd hy
equal_as (fin q m e) (fin r n g) s t a b c d pc pd hx hy =
    rw (
      hx.0,
      hy.0,
      equal_sizes (m * up e) (n * up g) (down e) (down g) a b c d (down_pos e) (down_pos g) pc pd hx.1 hy.1,
      no_size (m * up e) (n * up g) (down e) (down g) a b c d (down_pos e) (down_pos g) pc pd hx.1 hy.1,
    ) refl

-- ---- not finite: only then v · 0 is not 0
rounded_zero : (s : Bool) (num den : ℕ) → 0 < den → num ≡ 0 → HasValue (round binary32 s num den) s num den
rounded_zero s num den p z = round_exact binary32 s num den 0 0 p (lit< tt) (lit< tt) (ap (λ (k : ℕ). k * 2 ^ 149) z ∙ zero-mul (2 ^ 149) ∙ sym (zero-mul den))

pub times_zero : (s : Bool) (m : ℕ) (e : ℤ) → ne (mul binary32 (fin s m e) (fin false 0 (pos 0))) (fin false 0 (pos 0)) ≡ false
unfolding ne mul
times_zero s m e =
    let z : m * up e * (0 * 1) ≡ 0 = none (m * up e) in
    let h = rounded_zero (unlike s false) (m * up e * (0 * 1)) (down e * 1) (mul-pos (down_pos e) (lit< tt)) z in
    rw (equal_as (round binary32 (unlike s false) (m * up e * (0 * 1)) (down e * 1)) (fin false 0 (pos 0)) (unlike s false) false (m * up e * (0 * 1)) 0 (down e * 1) 1 (mul-pos (down_pos e) (lit< tt)) (lit< tt) h (refl, refl), z)
    (zeros (unlike s false) (down e * 1))
  where
    none : (n : ℕ) → n * (0 * 1) ≡ 0
    none n = omega arith

    zeros : (t : Bool) (k : ℕ) → not (level t (0 * 1) false (0 * k)) ≡ false
    zeros t k = rw (zero-mul k) (either t)
      where
        either : (t : Bool) → not (level t 0 false 0) ≡ false
        either true = refl
        either false = refl

-- ---- what an f32 has: few digits, and no digit too low
exponents : (a b : ℕ) → 2 ^ a ≤ 2 ^ b → a ≤ b
exponents a b h = le_of_suc-le-suc (lt_of_not-le (λ (g : suc b ≤ a). not-le_of_lt (pow-lt g) h))

fitted : (s : Bool) (m : ℕ) (e : ℤ) → fits binary32 (fin s m e) ≡ true → (m < 2 ^ 24) × (down e ≤ 2 ^ 149)
unfolding fits
fitted s zero (pos k) f = (lit< tt, lit≤ tt)
fitted s zero (negsuc k) f = (lit< tt, subst (λ (d : ℕ). d ≤ 2 ^ 149) (sym (sym (one-mul (2 ^ suc k)) ∙ eqb-true (1 * 2 ^ suc k) 1 f)) (pow_pos 149))
fitted s (suc m) e f =
    let odds = nat_eq (suc m % 2) 1 in
    let few = ltb (suc m) (2 ^ 24) in
    let fine = leb (down e) (2 ^ 149) in
    let rest = and_l ((odds && few) && fine) (nat_lt (suc m * up e) (2 ^ 128 * down e)) (subst T (sym f) tt) in
    (ltb→lt (suc m) (2 ^ 24) (and_r odds few (and_l (odds && few) fine rest)), leb→le (down e) (2 ^ 149) (and_r (odds && few) fine rest))

-- every finite f32 from 2¹⁹ on is a whole number of sixteenths
pub far_whole : (s : Bool) (m : ℕ) (e : ℤ) → fits binary32 (fin s m e) ≡ true → 2 ^ 19 * down e ≤ m * up e → (m * up e * 16 % down e == 0) ≡ true
far_whole s m (pos k) f h = eq-eqb (m * 2 ^ k * 16 % 1) 0 (mod-one (m * 2 ^ k * 16))
far_whole s m (negsuc zero) f h = eq-eqb (m * 1 * 16 % 2) 0 (omega arith)
far_whole s m (negsuc (suc zero)) f h = eq-eqb (m * 1 * 16 % 4) 0 (omega arith)
far_whole s m (negsuc (suc (suc zero))) f h = eq-eqb (m * 1 * 16 % 8) 0 (omega arith)
far_whole s m (negsuc (suc (suc (suc zero)))) f h = eq-eqb (m * 1 * 16 % 16) 0 (omega arith)
far_whole s m (negsuc (suc (suc (suc (suc j))))) f h =
    let k = suc (suc (suc (suc (suc j)))) in
    absurd (no_digits m (2 ^ k) (fitted s m (negsuc (suc (suc (suc (suc j))))) f).0 (pow_mono {i = 5} {j = k} (omega arith)) h)
  where
    no_digits : (m p : ℕ) → m < 2 ^ 24 → 2 ^ 5 ≤ p → 2 ^ 19 * p ≤ m * 1 → ⊥
    no_digits m p a b c = omega arith

-- ---- the two tests at 2¹⁹, by the sign of the float
no_greater : (a b : ℕ) → (nat_lt a b || (a == b && true)) ≡ nat_le a b
no_greater a b = go (nat_lt a b) refl
  where
    go : (t : Bool) → nat_lt a b ≡ t → (t || (a == b && true)) ≡ nat_le a b
    go true e = sym (le-leb a b (omega (arith, ltb-true a b e)))
    go false e = next (a == b) refl
      where
        other : b ≤ a → (a ≢ b) → b < a
        other h n = lt_of_not-le (λ (g : a ≤ b). n (omega arith))

        next : (u : Bool) → (a == b) ≡ u → (u && true) ≡ nat_le a b
        next true k = sym (le-leb a b (omega (arith, eqb-true a b k)))
        next false k = sym (lt-leb a b (other (ltb-false a b e) (eqb-false a b k)))

eqb_turned : (a b : ℕ) → (a == b) ≡ (b == a)
eqb_turned a b = same_eqb a b b a sym sym

pub high_test : (m : ℕ) (e : ℤ) → le (fin false 1 (pos 19)) (fin false m e) ≡ nat_le (2 ^ 19 * down e) (m * up e)
unfolding le lt eq
high_test m e = rw (mul-one (m * up e)) (no_greater (2 ^ 19 * down e) (m * up e))

pub high_not : (m : ℕ) (e : ℤ) → le (fin false 1 (pos 19)) (fin true m e) ≡ false
unfolding le lt eq
high_not m e = rw (ne_eqb (2 ^ 19 * down e) 0 (some_left (down e) (down_pos e))) (and-false (2 ^ 19 * down e == m * up e * 1))
  where
    some_left : (D : ℕ) → 0 < D → 2 ^ 19 * D ≢ 0
    some_left D p h = omega arith

pub low_test : (m : ℕ) (e : ℤ) → le (fin true m e) (fin true 1 (pos 19)) ≡ nat_le (2 ^ 19 * down e) (m * up e)
unfolding le lt eq
low_test m e = rw (mul-one (m * up e), eqb_turned (m * up e) (2 ^ 19 * down e)) (no_greater (2 ^ 19 * down e) (m * up e))

pub low_not : (m : ℕ) (e : ℤ) → le (fin false m e) (fin true 1 (pos 19)) ≡ false
unfolding le lt eq
low_not m e = go (m * up e * 1 == 2 ^ 19 * down e) refl
  where
    some_left : (p D : ℕ) → 0 < D → p ≡ 2 ^ 19 * D → p ≢ 0
    some_left p D d h k = omega arith

    go : (t : Bool) → (m * up e * 1 == 2 ^ 19 * down e) ≡ t → (t && (false || m * up e * 1 == 0)) ≡ false
    go false k = refl
    go true k = ne_eqb (m * up e * 1) 0 (some_left (m * up e * 1) (down e) (down_pos e) (eqb-true (m * up e * 1) (2 ^ 19 * down e) k))

-- ---- sixteen times a float below 2¹⁹ is exact
scaled_round : (s : Bool) (m : ℕ) (e : ℤ) → m < 2 ^ 24 → down e ≤ 2 ^ 149 → m * up e < 2 ^ 19 * down e → HasValue (round binary32 s (m * up e * 16) (down e)) s (m * up e * 16) (down e)
scaled_round s m (pos k) few deep h =
    let small : m * 2 ^ k < 2 ^ 19 = h in
    let split : m * 2 ^ k * 2 ^ 153 ≡ m * 2 ^ (k + 153) = mul_assoc m (2 ^ k) (2 ^ 153) ∙ ap (λ (j : ℕ). m * j) (sym (pow-add 2 k 153)) in
    round_exact binary32 s (m * 2 ^ k * 16) 1 m (k + 153) (lit< tt) few
    (subst (λ (j : ℕ). j < 2 ^ 277) split (lt_of_lt_of_le (shl_lt 19 153 small) (lit≤ tt)))
    (mul_assoc (m * 2 ^ k) 16 (2 ^ 149) ∙ split ∙ sym (mul-one (m * 2 ^ (k + 153))))
scaled_round s m (negsuc k) few deep h =
    let low : suc k ≤ 149 = exponents (suc k) 149 deep in
    let j = 153 - suc k in
    let whole : j + suc k ≡ 153 = omega arith in
    round_exact binary32 s (m * 1 * 16) (2 ^ suc k) m j (pow_pos (suc k)) few
    (lt_of_lt_of_le (shl_lt 24 j few) (pow_mono {i = 24 + j} {j = 277} (omega arith)))
    (ap (λ (i : ℕ). i * 16 * 2 ^ 149) (mul-one m) ∙ mul_assoc m 16 (2 ^ 149) ∙ ap (λ (i : ℕ). m * 2 ^ i) (sym whole) ∙ ap (λ (i : ℕ). m * i) (pow-add 2 j (suc k)) ∙ sym (mul_assoc m (2 ^ j) (2 ^ suc k)))

pub times_sixteen : (s : Bool) (m : ℕ) (e : ℤ) → fits binary32 (fin s m e) ≡ true → m * up e < 2 ^ 19 * down e → HasValue (mul binary32 (fin s m e) (fin false 1 (pos 4))) s (m * up e * 16) (down e)
unfolding mul
times_sixteen true m e f h = rw (mul-one (down e)) (scaled_round true m e (fitted true m e f).0 (fitted true m e f).1 h)
times_sixteen false m e f h = rw (mul-one (down e)) (scaled_round false m e (fitted false m e f).0 (fitted false m e f).1 h)

-- ---- a float that is ±n/d, and n/d below 2²³: it is cut to a whole number as it stands
-- such a float lies between −2⁶³ and 2⁶³, which 64 bits ask of one that is cut
module _ (U E n d : ℕ) (pe : 0 < E) (pd : 0 < d) (is : U * d ≡ n * E) (h : n < 2 ^ 23 * d) where
  own_size : U < 2 ^ 23 * E
  own_size = lt_of_not-le (λ (g : 2 ^ 23 * E ≤ U). over g)
    where
      -- else 2²³·E·d ≤ U·d = n·E < 2²³·d·E
      over : 2 ^ 23 * E ≤ U → ⊥
      over g = not-le_of_lt (mul-lt-mul_of_pos_right {m = n} {n = 2 ^ 23 * d} {k = E} h pe)
          (subst (λ (k : ℕ). k ≤ n * E) (mul_right_comm (2 ^ 23) E d) (subst (λ (k : ℕ). 2 ^ 23 * E * d ≤ k) is (mul-le-mul_right {m = 2 ^ 23 * E} {n = U} d g)))

  short_of : U * 1 < 2 ^ 63 * E
  short_of = omega (arith, own_size)

above_zero : (D k : ℕ) → 0 < D → (0 < 2 ^ 63 * D + k) × (0 < k + 2 ^ 63 * D)
above_zero D k p = (omega arith, omega arith)

pub reaches_low : (x : Float) (s : Bool) (n d : ℕ) → 0 < d → HasValue x s n d → n < 2 ^ 23 * d → T (le (fin true 1 (pos 63)) x)
unfolding le lt eq
reaches_low nan s n d p v h = absurd v
reaches_low (inf t) s n d p v h = absurd v
reaches_low (fin false m e) s n d p v h = rw (lt-ltb 0 (2 ^ 63 * down e + m * up e * 1) (above_zero (down e) (m * up e * 1) (down_pos e)).0) tt
reaches_low (fin true m e) s n d p v h = rw (lt-ltb (m * up e * 1) (2 ^ 63 * down e) (short_of (m * up e) (down e) n d (down_pos e) p v.1 h)) tt

pub reaches_high : (x : Float) (s : Bool) (n d : ℕ) → 0 < d → HasValue x s n d → n < 2 ^ 23 * d → T (lt x (fin false 1 (pos 63)))
unfolding lt
reaches_high nan s n d p v h = absurd v
reaches_high (inf t) s n d p v h = absurd v
reaches_high (fin true m e) s n d p v h = rw (lt-ltb 0 (m * up e * 1 + 2 ^ 63 * down e) (above_zero (down e) (m * up e * 1) (down_pos e)).1) tt
reaches_high (fin false m e) s n d p v h = rw (lt-ltb (m * up e * 1) (2 ^ 63 * down e) (short_of (m * up e) (down e) n d (down_pos e) p v.1 h)) tt

pub few_whole : (n d : ℕ) → 0 < d → n < 2 ^ 23 * d → n / d < 2 ^ 23
few_whole n d p h = (div-lt_iff_lt-mul p).1 h

cut_to : (w : ℕ) → 2 ^ 23 ≤ 2 ^ w - 1 → (x : Float) (s : Bool) (n d : ℕ) → 0 < d → HasValue x s n d → n < 2 ^ 23 * d → to_signed w x ≡ negative_if s (n / d)
unfolding to_signed
cut_to w wide nan s n d p v h = absurd v
cut_to w wide (inf t) s n d p v h = absurd v
cut_to w wide (fin t m e) s n d p v h = go t v.0 (m * up e / down e) (div_same (m * up e) (down e) n d (down_pos e) p v.1) (few_whole n d p h)
  where
    unbounded : (q k : ℕ) → q < 2 ^ 23 → 2 ^ 23 ≤ k → min q k ≡ q
    unbounded q k h l = omega arith

    go : (t : Bool) → t ≡ s → (q : ℕ) → q ≡ n / d → n / d < 2 ^ 23 → cond t (neg_ℤ (pos (min q (2 ^ w)))) (pos (min q (2 ^ w - 1))) ≡ negative_if s (n / d)
    go true e q k l = ap (λ (i : ℕ). neg_ℤ (pos i)) (unbounded q (2 ^ w) (rw k l) (omega (arith, wide)) ∙ k) ∙ ap (λ (u : Bool). negative_if u (n / d)) e
    go false e q k l = ap pos (unbounded q (2 ^ w - 1) (rw k l) wide ∙ k) ∙ ap (λ (u : Bool). negative_if u (n / d)) e

-- to one of 64 bits, and to one of 32
pub cut_off : (x : Float) (s : Bool) (n d : ℕ) → 0 < d → HasValue x s n d → n < 2 ^ 23 * d → to_signed 63 x ≡ negative_if s (n / d)
cut_off = cut_to 63 (lit≤ tt)

pub cut_short : (x : Float) (s : Bool) (n d : ℕ) → 0 < d → HasValue x s n d → n < 2 ^ 23 * d → to_signed 31 x ≡ negative_if s (n / d)
cut_short = cut_to 31 (lit≤ tt)

-- ---- a whole number below 2²³ as a float, whose 0 has no sign
abbrev sign_of : Bool → ℕ → Bool
sign_of s zero = false
sign_of s (suc q) = s

exact_whole : (s : Bool) (q : ℕ) → q < 2 ^ 23 → HasValue (round binary32 s q 1) s q 1
exact_whole s q h = round_exact binary32 s q 1 q 149 (lit< tt) (omega arith) (lt_of_lt_of_le (shl_lt 23 149 h) (lit≤ tt)) (sym (mul-one (q * 2 ^ 149)))

whole_float : (s : Bool) (q : ℕ) → q < 2 ^ 23 → HasValue (of_int binary32 (negative_if s q)) (sign_of s q) q 1
unfolding of_int
whole_float false zero h = exact_whole false 0 h
whole_float true zero h = exact_whole false 0 h
whole_float false (suc q) h = exact_whole false (suc q) h
whole_float true (suc q) h = exact_whole true (suc q) h

pub castable : (s : Bool) (q : ℕ) → q < 2 ^ 23 → T (in_float binary32 (negative_if s q))
unfolding in_float
castable false q h = subst T (sym (le-leb q (2 ^ 24) (omega arith))) tt
castable true zero h = tt
castable true (suc q) h = subst T (sym (lt-ltb q (2 ^ 24) (omega arith))) tt

-- the float of the whole part is the float itself exactly if nothing was cut off
pub nothing_cut : (x : Float) (s : Bool) (n d : ℕ) → 0 < d → HasValue x s n d → n < 2 ^ 23 * d → eq (of_int binary32 (negative_if s (n / d))) x ≡ (n % d == 0)
nothing_cut x s n d p v h =
    equal_as (of_int binary32 (negative_if s (n / d))) x (sign_of s (n / d)) s (n / d) n 1 d (lit< tt) p (whole_float s (n / d) (few_whole n d p h)) v
    ∙ go (n / d) (n % d) (div-add-mod' n d)
  where
    signs : (s : Bool) (q : ℕ) → (beq (sign_of s q) s || q * d == 0) ≡ true
    signs false zero = refl
    signs true zero = rw (zero-mul d) refl
    signs false (suc q) = refl
    signs true (suc q) = refl

    same : (q r n : ℕ) → q + r ≡ n → r ≡ 0 → q ≡ n * 1
    same q r n h e = omega arith

    other : (q r n : ℕ) → q + r ≡ n → (r ≢ 0) → q ≢ n * 1
    other q r n h e k = e (omega arith)

    go : (q r : ℕ) → q * d + r ≡ n → level (sign_of s q) (q * d) s (n * 1) ≡ (r == 0)
    go q r h = test (r == 0) refl
      where
        test : (t : Bool) → (r == 0) ≡ t → level (sign_of s q) (q * d) s (n * 1) ≡ t
        test true e = rw (eq-eqb (q * d) (n * 1) (same (q * d) r n h (eqb-true r 0 e))) (signs s q)
        test false e = rw (ne_eqb (q * d) (n * 1) (other (q * d) r n h (eqb-false r 0 e))) refl
