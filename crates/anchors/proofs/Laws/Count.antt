-- What counting a float in sixteenths comes to in f32 arithmetic: every step of it is exact where it is made.
use Rattle.std.specs.Prelude.{Option as Optional, ◌≡◌, ℕ, zero, suc, ◌*◌, ◌/◌, ◌%◌, ◌^◌, ◌<◌, ◌≤◌, Bool, true, false, cond, T, ℤ, pos, negsuc, ◌==◌, unsigned_abs, refl, Float, FitsSigned}
use Rattle.std.proofs.Common.{sym, ap, subst, ◌∙◌, true≢false, arith, not-le_of_lt, le-div_iff_mul-le, lt-ltb, le-ltb, leb-true, leb-false, lit<, to_z, of_z}
use Rattle.std.proofs.Math.Option.{some, none}
use Rattle.std.specs.Float.{nan, inf, fin, binary32, float_is_finite}
use Rattle.std.specs.Float.Ieee.{up, down, mul, neg, le, eq, fits, of_int, in_float, to_signed, of_bits, lt, ne}
use Rattle.std.specs.Float.Ieee.Fits.{down_pos}
use Rattle.std.specs.Float.Ieee.Exact.{HasValue}
use Rattle.std.specs.Bool.{then_some}
use Rattle.distance.specs.Rounding.{with_sign_of}
use Rattle.anchors.specs.declared.count.Sixteenths.{Sixteenths}
use Rattle.anchors.specs.Answers.{count_of}
use Rattle.anchors.specs.Anchors.{negative_if, sixteenths}
use Rattle.anchors.proofs.Laws.Sixteenths.{magnitude_of}
use Rattle.anchors.specs.Laws.Reading.{cap, capped}
use Rattle.anchors.proofs.Laws.Floats.{sixteen_bits, high_bits, low_bits, far_whole, high_test, high_not, low_test, low_not, times_sixteen, few_whole, cut_off, castable, nothing_cut, cut_short, zero_bits, times_zero, reaches_low, reaches_high}
use Rattle.std.specs.Int.{w32, w64}
use Rattle.std.proofs.lemmas.Int.{to_z-of_z}
use Rattle.distance.specs.Integers.Bounds.{Bound, fits as in_width}

-- ---- WHAT THE CODE FINDS, of each of its ways
pub none_counted : (v : Float) → float_is_finite v ≡ false → none ≡ capped (sixteenths v)
unfolding sixteenths float_is_finite
none_counted nan h = refl
none_counted (inf s) h = refl
none_counted (fin s m e) h = absurd (true≢false h)

-- .. and only then v · 0 isn't 0
pub not_finite : (v : Float) → ne (mul binary32 v (of_bits binary32 0)) (of_bits binary32 0) ≡ true → none ≡ capped (sixteenths v)
unfolding sixteenths
not_finite nan h = refl
not_finite (inf s) h = refl
not_finite (fin s m e) h = absurd (true≢false (sym h ∙ rw zero_bits (times_zero s m e)))

far_counted : (s : Bool) (m : ℕ) (e : ℤ) → fits binary32 (fin s m e) ≡ true → 2 ^ 19 * down e ≤ m * up e → capped (sixteenths (fin s m e)) ≡ some (negative_if s 8388608)
unfolding sixteenths with_sign_of
far_counted s m e f h = rw (far_whole s m e f h) (ap some (go s (m * up e * 16 / down e) (long (m * up e) (down e) (down_pos e) h)))
  where
    long : (U D : ℕ) → 0 < D → 2 ^ 19 * D ≤ U → 8388608 ≤ U * 16 / D
    long U D p h = (le-div_iff_mul-le p).1 (omega arith)

    go : (s : Bool) (q : ℕ) → 8388608 ≤ q → cap (negative_if s q) ≡ negative_if s 8388608
    go false q h = rw (le-ltb q 8388608 h) refl
    go true zero h = absurd (not-le_of_lt (lit< tt) h)
    go true (suc q) h = rw (le-ltb (suc q) 8388608 h) refl

-- a float that isn't turned away so far
pub data Finite : Float → Type 0 where
  is_finite : (s : Bool) (m : ℕ) (e : ℤ) → Finite (fin s m e)

pub finite_told : (v : Float) → float_is_finite v ≡ true → Finite v
unfolding float_is_finite
finite_told nan h = absurd (true≢false (sym h))
finite_told (inf s) h = absurd (true≢false (sym h))
finite_told (fin s m e) h = is_finite s m e

pub finite : (v : Float) → ne (mul binary32 v (of_bits binary32 0)) (of_bits binary32 0) ≡ false → Finite v
unfolding ne eq mul of_bits
finite nan h = absurd (true≢false h)
finite (inf s) h = absurd (true≢false h)
finite (fin s m e) h = is_finite s m e

-- 2¹⁹ or more, on either side
pub high_counted : (v : Float) → fits binary32 v ≡ true → Finite v → le (of_bits binary32 1224736768) v ≡ true → some (pos 8388608) ≡ capped (sixteenths v)
high_counted _ f (is_finite true m e) h = absurd (true≢false (sym h ∙ rw high_bits (high_not m e)))
high_counted _ f (is_finite false m e) h = sym (far_counted false m e f (leb-true (2 ^ 19 * down e) (m * up e) (sym (high_test m e) ∙ rw high_bits at h)))

pub low_counted : (v : Float) → fits binary32 v ≡ true → Finite v → le v (neg (of_bits binary32 1224736768)) ≡ true → some (negsuc 8388607) ≡ capped (sixteenths v)
low_counted _ f (is_finite false m e) h = absurd (true≢false (sym h ∙ rw low_bits (low_not m e)))
low_counted _ f (is_finite true m e) h = sym (far_counted true m e f (leb-true (2 ^ 19 * down e) (m * up e) (sym (low_test m e) ∙ rw low_bits at h)))

near : (s : Bool) (m : ℕ) (e : ℤ) → le (of_bits binary32 1224736768) (fin s m e) ≡ false → le (fin s m e) (neg (of_bits binary32 1224736768)) ≡ false → m * up e < 2 ^ 19 * down e
near false m e h l = leb-false (2 ^ 19 * down e) (m * up e) (sym (high_test m e) ∙ rw high_bits at h)
near true m e h l = leb-false (2 ^ 19 * down e) (m * up e) (sym (low_test m e) ∙ rw low_bits at l)

-- below that: sixteen times the float, its whole part z, and whether that is all of it
pub record Counting (v : Float) : Type 0 where
  pub z : ℤ
  pub all : Bool
  pub low : T (le (fin true 1 (pos 63)) (mul binary32 v (of_bits binary32 1098907648)))
  pub high : T (lt (mul binary32 v (of_bits binary32 1098907648)) (fin false 1 (pos 63)))
  pub cut : to_signed 63 (mul binary32 v (of_bits binary32 1098907648)) ≡ z
  pub small : unsigned_abs z < 2 ^ 23
  pub cast : T (in_float binary32 z)
  pub test : eq (of_int binary32 z) (mul binary32 v (of_bits binary32 1098907648)) ≡ all
  pub counts : capped (sixteenths v) ≡ cond all (some z) none

-- .. which 32 bits hold too
pub record Cut (v : Float) : Type 0 where
  pub whole : Counting v
  pub short : to_signed 31 (mul binary32 v (of_bits binary32 1098907648)) ≡ whole.z

pub cutting : (v : Float) → fits binary32 v ≡ true → Finite v → le (of_bits binary32 1224736768) v ≡ false → le v (neg (of_bits binary32 1224736768)) ≡ false → Cut v
unfolding sixteenths
cutting _ f (is_finite s m e) h l =
    let n = m * up e * 16 in
    let d = down e in
    let w = near s m e h l in
    let p = down_pos e in
    let x = mul binary32 (fin s m e) (of_bits binary32 1098907648) in
    let v : HasValue x s n d = rw sixteen_bits (times_sixteen s m e f w) in
    let b : n < 2 ^ 23 * d = more (m * up e) d w in
    let q = few_whole n d p b in
    record {
      whole = record {
        z = negative_if s (n / d);
        all = (n % d == 0);
        low = reaches_low x s n d p v b;
        high = reaches_high x s n d p v b;
        cut = cut_off x s n d p v b;
        small = subst (λ (k : ℕ). k < 2 ^ 23) (sym (magnitude_of s (n / d))) q;
        cast = castable s (n / d) q;
        test = nothing_cut x s n d p v b;
        counts = uncut (n % d == 0);
      };
      short = cut_short x s n d p v b;
    }
  where
    more : (U D : ℕ) → U < 2 ^ 19 * D → U * 16 < 2 ^ 23 * D
    more U D h = omega arith

    uncut : (t : Bool) → capped (cond t (some (negative_if s (m * up e * 16 / down e))) none) ≡ cond t (some (negative_if s (m * up e * 16 / down e))) none
    uncut false = refl
    uncut true = ap some (kept (negative_if s (m * up e * 16 / down e)) (subst (λ (k : ℕ). k < 2 ^ 23) (sym (magnitude_of s (m * up e * 16 / down e))) (few_whole (m * up e * 16) (down e) (down_pos e) (more (m * up e) (down e) (near s m e h l)))))
      where
        kept : (z : ℤ) → unsigned_abs z < 2 ^ 23 → cap z ≡ z
        kept z h = rw (lt-ltb (unsigned_abs z) 8388608 h) refl

pub counting : (v : Float) → fits binary32 v ≡ true → Finite v → le (of_bits binary32 1224736768) v ≡ false → le v (neg (of_bits binary32 1224736768)) ≡ false → Counting v
counting v f g h l = (cutting v f g h l).whole

-- .. the number n that the code cuts it to is z, and is answered if it is all of it
module _ (v : Float) (c : Cut v) (n : Sixteenths) (e : n.0 ≡ to_signed 31 (mul binary32 v (of_bits binary32 1098907648))) where
  pub cut_casts : T (in_float binary32 n.0)
  cut_casts = subst (λ (i : ℤ). T (in_float binary32 i)) (sym (e ∙ c.short)) c.whole.cast

  pub cut_counted : (o : Optional Sixteenths) → o ≡ then_some (eq (of_int binary32 n.0) (mul binary32 v (of_bits binary32 1098907648))) n → count_of o ≡ capped (sixteenths v)
  cut_counted o h =
      ap count_of h
      ∙ go (eq (of_int binary32 n.0) (mul binary32 v (of_bits binary32 1098907648)))
      (sym c.whole.test ∙ ap (λ (i : ℤ). eq (of_int binary32 i) (mul binary32 v (of_bits binary32 1098907648))) z)
    where
      z : c.whole.z ≡ n.0
      z = sym (e ∙ c.short)

      go : (t : Bool) → c.whole.all ≡ t → count_of (then_some t n) ≡ capped (sixteenths v)
      go true a = ap some (sym z) ∙ sym (c.whole.counts ∙ rw a refl)
      go false a = sym (c.whole.counts ∙ rw a refl)

-- .. and through 64 bits to 32
module _ (v : Float) (k : Counting v) (r : ℤ) (e : r ≡ to_signed 63 (mul binary32 v (of_bits binary32 1098907648))) where
  abbrev bound : Bound k.z
  bound = record { top = 8388608; holds = omega (arith, k.small) }

  through : to_z w64 (of_z w64 r) ≡ k.z
  through = ap (λ (i : ℤ). to_z w64 (of_z w64 i)) (e ∙ k.cut) ∙ to_z-of_z w64 k.z (in_width w64 bound tt)

  pub as_float : T (in_float binary32 (to_z w64 (of_z w64 r)))
  as_float = subst (λ (i : ℤ). T (in_float binary32 i)) (sym through) k.cast

  pub as_short : FitsSigned w32 (to_z w64 (of_z w64 r))
  as_short = subst (λ (i : ℤ). FitsSigned w32 i) (sym through) (in_width w32 bound tt)

  pub counted_as : (t : Bool) → eq (of_int binary32 (to_z w64 (of_z w64 r))) (mul binary32 v (of_bits binary32 1098907648)) ≡ t
      → capped (sixteenths v) ≡ cond t (some (to_z w32 (of_z w32 (to_z w64 (of_z w64 r))))) none
  counted_as t h =
      let short : to_z w32 (of_z w32 (to_z w64 (of_z w64 r))) ≡ k.z = ap (λ (i : ℤ). to_z w32 (of_z w32 i)) through ∙ to_z-of_z w32 k.z (in_width w32 bound tt) in
      let told : k.all ≡ t = sym k.test ∙ ap (λ (i : ℤ). eq (of_int binary32 i) (mul binary32 v (of_bits binary32 1098907648))) (sym through) ∙ h in
      k.counts ∙ ap (λ (u : Bool). cond u (some k.z) none) told ∙ ap (λ (i : ℤ). cond t (some i) none) (sym short)
