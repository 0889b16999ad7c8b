-- THE CLOSEST PART OF A LEG, as vectors have it: of all its parts that count no other is closer to the point, and none that is as close is earlier. p goes from the
-- leg's start to the point and m along the leg, so that at n/k of the leg the point is (k·p − n·m)/k away.
use Rattle.std.specs.Prelude.{◌≡◌, refl, ◌⊎◌, Bool, true, false, cond, [], ◌∷◌, ℕ, zero, suc, ◌*◌, ◌≤◌, ◌<◌, ℤ, pos, nat_abs, ◌+ℤ◌, ◌-ℤ◌, ◌*ℤ◌, ◌≤ℤ◌, ◌<ℤ◌}
use Rattle.std.proofs.Common.{sym, ◌∙◌, ap, inl, inr, ⊎_elim, arith, le-leb}
use Rattle.std.proofs.Math.Option.{Option, some, none}
use Rattle.std.specs.Int.Signed.{≤ℤ_refl, clash_ℤ, yes_non_neg, pos-nat_abs}
use Rattle.distance.specs.Fix.{Fix}
use Rattle.distance.specs.Place.{Point}
use Rattle.distance.specs.Silence.{silent}
use Rattle.distance.proofs.Laws.Deviation.{squared_is}
use Rattle.distance.specs.Integers.Ring.{ring, quotes, lit, vars}
use Rattle.distance.specs.Integers.Order.{◌⊞◌, ◌⊠◌, nat, square, gap, le_by, le_cancel, one_mul_one, eq_by, pos_le, root_le, zero_le, ≤ℤ-trans, <ℤ-≤ℤ, TestZ, z_holds, z_fails, test_z}
use Rattle.distance.specs.Integers.Tests.{Test, holds, fails, test}
use Rattle.approach.specs.declared.Vector.{Vector}
use Rattle.approach.specs.declared.Part.{Part}
use Rattle.approach.specs.Approach.{toward, along, length_squared, dot, start_part, end_part, heard_part, silent_part, closest_part, from_part, near_part}

-- ---- the square of how far n/k of the leg is from the point, times k²
abbrev pub far : (p m : Vector) (n k : ℤ) → ℤ
far p m n k = (k *ℤ p.x -ℤ n *ℤ m.x) *ℤ (k *ℤ p.x -ℤ n *ℤ m.x) +ℤ (k *ℤ p.y -ℤ n *ℤ m.y) *ℤ (k *ℤ p.y -ℤ n *ℤ m.y)

pub length_squared_is : (v : Vector) → pos (length_squared v) ≡ v.x *ℤ v.x +ℤ v.y *ℤ v.y
length_squared_is v = rw (← squared_is v.x, ← squared_is v.y) refl

-- ---- the parts n/k of a leg that count: all of them, and of a silent one its two ends
abbrev pub Counts : (silent : Bool) (n k : ℤ) → Type 0
Counts false n k = (pos 0 ≤ℤ n) × (n ≤ℤ k)
Counts true n k = (n ≡ pos 0) ⊎ (n ≡ k)

pub record IsClosest (p m : Vector) (silent : Bool) (s : Part) : Type 0 where
  pub some : 1 ≤ s.den
  pub on_leg : s.num ≤ s.den
  pub counts : Counts silent (pos s.num) (pos s.den)
  pub closest : (n k : ℤ) → Counts silent n k → (far p m (pos s.num) (pos s.den) *ℤ (k *ℤ k)) ≤ℤ (far p m n k *ℤ (pos s.den *ℤ pos s.den))
  pub earliest : (n k : ℤ) → pos 1 ≤ℤ k → Counts silent n k → (far p m n k *ℤ (pos s.den *ℤ pos s.den)) ≤ℤ (far p m (pos s.num) (pos s.den) *ℤ (k *ℤ k))
      → (pos s.num *ℤ k) ≤ℤ (n *ℤ pos s.den)

none_left : (z : ℤ) → (z *ℤ z) ≤ℤ (pos 0 *ℤ pos 0) → z ≤ℤ pos 0
none_left z h = root_le z (pos 0) (zero_le 0) h

-- ---- over plain numbers, p = (a, b) and m = (u, v)
module _ (a b u v : ℤ) where
  abbrev at_part : (n k : ℤ) → ℤ
  at_part n k = far (record { x = a; y = b }) (record { x = u; y = v }) n k

  start_far : at_part (pos 0) (pos 1) ≡ a *ℤ a +ℤ b *ℤ b
  start_far = vars (a ∷ b ∷ u ∷ v ∷ []) (λ ρ x. simp (x 0, x 1, x 2, x 3, quotes, lit ρ) (ring _ _ ρ tt))

  end_far : at_part (pos 1) (pos 1) ≡ (a -ℤ u) *ℤ (a -ℤ u) +ℤ (b -ℤ v) *ℤ (b -ℤ v)
  end_far = vars (a ∷ b ∷ u ∷ v ∷ []) (λ ρ x. simp (x 0, x 1, x 2, x 3, quotes, lit ρ) (ring _ _ ρ tt))

  -- at 0/k and at k/k, the leg's two ends whatever k is
  zero_far : (k : ℤ) → at_part (pos 0) k ≡ (a *ℤ a +ℤ b *ℤ b) *ℤ (k *ℤ k)
  zero_far k = vars (a ∷ b ∷ u ∷ v ∷ k ∷ []) (λ ρ x. simp (x 0, x 1, x 2, x 3, x 4, quotes, lit ρ) (ring _ _ ρ tt))

  whole_far : (k : ℤ) → at_part k k ≡ ((a -ℤ u) *ℤ (a -ℤ u) +ℤ (b -ℤ v) *ℤ (b -ℤ v)) *ℤ (k *ℤ k)
  whole_far k = vars (a ∷ b ∷ u ∷ v ∷ k ∷ []) (λ ρ x. simp (x 0, x 1, x 2, x 3, x 4, quotes) (ring _ _ ρ tt))

  -- the start, where the product isn't positive
  start_closest : (n k : ℤ) → pos 0 ≤ℤ n → pos 0 ≤ℤ k → (a *ℤ u +ℤ b *ℤ v) ≤ℤ pos 0 → ((a *ℤ a +ℤ b *ℤ b) *ℤ (k *ℤ k)) ≤ℤ at_part n k
  start_closest n k hn hk h = le_by (nat 2 ⊠ gap hn ⊠ gap hk ⊠ gap h ⊞ square n ⊠ (square u ⊞ square v))
      (vars (a ∷ b ∷ u ∷ v ∷ n ∷ k ∷ []) (λ ρ x. simp (x 0, x 1, x 2, x 3, x 4, x 5, quotes, lit ρ) (ring _ _ ρ tt)))

  -- the end, where it is at least the square of the leg's length; what n/k has more
  end_more : (n k : ℤ)
      → at_part n k ≡ ((a -ℤ u) *ℤ (a -ℤ u) +ℤ (b -ℤ v) *ℤ (b -ℤ v)) *ℤ (k *ℤ k) +ℤ (pos 2 *ℤ k *ℤ (k -ℤ n) *ℤ (a *ℤ u +ℤ b *ℤ v -ℤ (u *ℤ u +ℤ v *ℤ v)) +ℤ (k -ℤ n) *ℤ (k -ℤ n) *ℤ (u *ℤ u +ℤ v *ℤ v))
  end_more n k = vars (a ∷ b ∷ u ∷ v ∷ n ∷ k ∷ []) (λ ρ x. simp (x 0, x 1, x 2, x 3, x 4, x 5, quotes, lit ρ) (ring _ _ ρ tt))

  -- between them the foot N/K, N the product and K the square of the leg's length: what n/k has more
  foot_more : (n k N K : ℤ) → N ≡ a *ℤ u +ℤ b *ℤ v → K ≡ u *ℤ u +ℤ v *ℤ v → at_part n k *ℤ (K *ℤ K) ≡ at_part N K *ℤ (k *ℤ k) +ℤ K *ℤ ((N *ℤ k -ℤ n *ℤ K) *ℤ (N *ℤ k -ℤ n *ℤ K))
  foot_more n k N K e f = vars (a ∷ b ∷ u ∷ v ∷ n ∷ k ∷ []) (λ ρ x. simp (e, f, x 0, x 1, x 2, x 3, x 4, x 5, quotes) (ring _ _ ρ tt))

  -- a leg at rest has no product
  at_rest : pos 0 ≡ u *ℤ u +ℤ v *ℤ v → (a *ℤ u +ℤ b *ℤ v) ≤ℤ pos 0
  at_rest e = none_left _ (le_by (square (a *ℤ v -ℤ b *ℤ u))
      (eq_by (a *ℤ a +ℤ b *ℤ b) e (vars (a ∷ b ∷ u ∷ v ∷ []) (λ ρ x. simp (x 0, x 1, x 2, x 3, quotes, lit ρ) (ring _ _ ρ tt)))))

-- w and S the two terms of `end_more`
end_at_least : (x k y z S w : ℤ) → x ≡ y *ℤ (k *ℤ k) +ℤ (w +ℤ z *ℤ z *ℤ S) → pos 0 ≤ℤ w → pos 0 ≤ℤ S → (y *ℤ (k *ℤ k)) ≤ℤ x
end_at_least x k y z S w e hw hS = le_by (gap hw ⊞ square z ⊠ gap hS) (rw e (vars (k ∷ y ∷ z ∷ S ∷ w ∷ []) (λ ρ v. simp (v 0, v 1, v 2, v 3, v 4, quotes, lit ρ) (ring _ _ ρ tt))))

end_only : (x k y z S w : ℤ) → x ≡ y *ℤ (k *ℤ k) +ℤ (w +ℤ z *ℤ z *ℤ S) → pos 0 ≤ℤ w → pos 1 ≤ℤ S → x ≤ℤ (y *ℤ (k *ℤ k)) → z ≤ℤ pos 0
end_only x k y z S w e hw hS h = none_left z (le_cancel S (z *ℤ z) (pos 0 *ℤ pos 0) hS (le_by (gap hw ⊞ gap (rw e at h)) (vars (k ∷ y ∷ z ∷ S ∷ w ∷ []) (λ ρ v. simp (v 0, v 1, v 2, v 3, v 4, quotes, lit ρ) (ring _ _ ρ tt)))))

foot_only : (x y K z : ℤ) → x ≡ y +ℤ K *ℤ (z *ℤ z) → pos 1 ≤ℤ K → x ≤ℤ y → z ≤ℤ pos 0
foot_only x y K z e hK h = none_left z (le_cancel K (z *ℤ z) (pos 0 *ℤ pos 0) hK (le_by (gap (rw e at h)) (vars (y ∷ K ∷ z ∷ []) (λ ρ v. simp (v 0, v 1, v 2, quotes, lit ρ) (ring _ _ ρ tt)))))

product_above : (k z g : ℤ) → pos 0 ≤ℤ k → pos 0 ≤ℤ z → pos 0 ≤ℤ g → pos 0 ≤ℤ (pos 2 *ℤ k *ℤ z *ℤ g)
product_above k z g hk hz hg = le_by (nat 2 ⊠ gap hk ⊠ gap hz ⊠ gap hg) (vars (k ∷ z ∷ g ∷ []) (λ ρ v. simp (v 0, v 1, v 2, quotes, lit ρ) (ring _ _ ρ tt)))

one : (z : ℤ) → z *ℤ (pos 1 *ℤ pos 1) ≡ z
one z = vars (z ∷ []) (λ ρ v. simp (v 0, quotes, lit ρ) (ring _ _ ρ tt))

above : {x y : ℤ} → x ≤ℤ y → pos 0 ≤ℤ (y -ℤ x)
above {x} {y} h = le_by (gap h) (vars (x ∷ y ∷ []) (λ ρ v. simp (v 0, v 1, quotes, lit ρ) (ring _ _ ρ tt)))

no_more : {x y : ℤ} → (x -ℤ y) ≤ℤ pos 0 → x ≤ℤ y
no_more {x} {y} h = le_by (gap h) (vars (x ∷ y ∷ []) (λ ρ v. simp (v 0, v 1, quotes, lit ρ) (ring _ _ ρ tt)))

-- ---- A LEG WITH NO SILENCE
module _ (p m : Vector) where
  start_is : dot p m ≤ℤ pos 0 → IsClosest p m false start_part
  start_is h = record {
    some = omega arith;
    on_leg = omega arith;
    counts = (≤ℤ_refl _, zero_le 1);
    closest = (λ n k t. rw (start_far p.x p.y m.x m.y, one (far p m n k)) (start_closest p.x p.y m.x m.y n k t.0 (≤ℤ-trans t.0 t.1) h));
    earliest = (λ n k s t g. le_by (gap t.0) (vars (n ∷ k ∷ []) (λ ρ v. simp (v 0, v 1, quotes, lit ρ) (ring _ _ ρ tt))));
  }

  -- the squares of the leg's length and of how far its end is from the point
  abbrev S : ℤ
  S = m.x *ℤ m.x +ℤ m.y *ℤ m.y

  abbrev R : ℤ
  R = (p.x -ℤ m.x) *ℤ (p.x -ℤ m.x) +ℤ (p.y -ℤ m.y) *ℤ (p.y -ℤ m.y)

  abbrev W : (n k : ℤ) → ℤ
  W n k = pos 2 *ℤ k *ℤ (k -ℤ n) *ℤ (dot p m -ℤ S)

  moving : 1 ≤ length_squared m → pos 1 ≤ℤ S
  moving h = rw (length_squared_is m) at ((pos_le 1 (length_squared m)).1 h)

  end_is : 1 ≤ length_squared m → pos (length_squared m) ≤ℤ dot p m → IsClosest p m false end_part
  end_is moves h = record {
    some = omega arith;
    on_leg = omega arith;
    counts = (zero_le 1, ≤ℤ_refl _);
    closest = (λ n k t. rw (end_far p.x p.y m.x m.y, one (far p m n k))
        (end_at_least (far p m n k) k R (k -ℤ n) S (W n k) (end_more p.x p.y m.x m.y n k) (extra n k t) (≤ℤ-trans (zero_le 1) (moving moves))));
    earliest = (λ n k s t g. reached n k (end_only (far p m n k) k R (k -ℤ n) S (W n k) (end_more p.x p.y m.x m.y n k) (extra n k t) (moving moves) (rw (end_far p.x p.y m.x m.y, one (far p m n k)) at g)));
  }
    where
      extra : (n k : ℤ) → Counts false n k → pos 0 ≤ℤ W n k
      extra n k t = product_above k (k -ℤ n) (dot p m -ℤ S) (≤ℤ-trans t.0 t.1) (above t.1) (above (rw (length_squared_is m) at h))

      reached : (n k : ℤ) → (k -ℤ n) ≤ℤ pos 0 → (pos 1 *ℤ k) ≤ℤ (n *ℤ pos 1)
      reached n k h = le_by (gap h) (vars (n ∷ k ∷ []) (λ ρ v. simp (v 0, v 1, quotes, lit ρ) (ring _ _ ρ tt)))

  foot_is : (N : ℕ) → pos N ≡ dot p m → N ≤ length_squared m → 1 ≤ length_squared m → IsClosest p m false (record { num = N; den = length_squared m })
  foot_is N e h moves = record {
    some = moves;
    on_leg = h;
    counts = (zero_le N, (pos_le N (length_squared m)).1 h);
    closest = (λ n k t. le_by (nat (length_squared m) ⊠ square (pos N *ℤ k -ℤ n *ℤ pos (length_squared m))) (foot_more p.x p.y m.x m.y n k (pos N) (pos (length_squared m)) e (length_squared_is m)));
    earliest = (λ n k s t g. no_more (foot_only _ _ (pos (length_squared m)) _ (foot_more p.x p.y m.x m.y n k (pos N) (pos (length_squared m)) e (length_squared_is m)) ((pos_le 1 (length_squared m)).1 moves) g));
  }

-- a positive product is that of a leg which moves
pub moves : (p m : Vector) → pos 0 <ℤ dot p m → 1 ≤ length_squared m
moves p m h = go (length_squared m) (length_squared_is m)
  where
    go : (k : ℕ) → pos k ≡ m.x *ℤ m.x +ℤ m.y *ℤ m.y → 1 ≤ k
    go zero e = clash_ℤ h (at_rest p.x p.y m.x m.y e)
    go (suc k) e = omega arith

pub heard_closest : (a b : Fix) (c : Point) → IsClosest (toward a c) (along a b) false (heard_part a b c)
unfolding heard_part
heard_closest a b c = go (test_z (dot p m) (pos 0)) (test_z (pos (length_squared m)) (dot p m))
  where
    p : Vector
    p = toward a c

    m : Vector
    m = along a b

    foot : pos 0 <ℤ dot p m → dot p m <ℤ pos (length_squared m) → IsClosest p m false (record { num = nat_abs (dot p m); den = length_squared m })
    foot h g =
        let is : pos (nat_abs (dot p m)) ≡ dot p m = pos-nat_abs (dot p m) (yes_non_neg (<ℤ-≤ℤ h)) in
        foot_is p m (nat_abs (dot p m)) is ((pos_le _ _).0 (rw (← is) at (<ℤ-≤ℤ g))) (moves p m h)

    go : {s t : Bool} → TestZ (dot p m) (pos 0) s → TestZ (pos (length_squared m)) (dot p m) t → IsClosest p m false (cond s start_part (cond t end_part (record { num = nat_abs (dot p m); den = length_squared m })))
    go (z_holds h) t = start_is p m h
    go (z_fails h) (z_holds g) = end_is p m (moves p m h) g
    go (z_fails h) (z_fails g) = foot h g

-- ---- A SILENT LEG: its two ends. q goes from its end to the point, which is p − m.
pub record Ends (p m q : Vector) : Type 0 where
  pub from_x : q.x ≡ p.x -ℤ m.x
  pub from_y : q.y ≡ p.y -ℤ m.y

scaled : (x y k : ℤ) → x ≤ℤ y → (x *ℤ (pos 1 *ℤ pos 1) *ℤ (k *ℤ k)) ≤ℤ (y *ℤ (k *ℤ k) *ℤ (pos 1 *ℤ pos 1))
scaled x y k h = le_by (square k ⊠ gap h) (vars (x ∷ y ∷ k ∷ []) (λ ρ v. simp (v 0, v 1, v 2, quotes, lit ρ) (ring _ _ ρ tt)))

unscaled : (x y k : ℤ) → pos 1 ≤ℤ k → (x *ℤ (k *ℤ k) *ℤ (pos 1 *ℤ pos 1)) ≤ℤ (y *ℤ (pos 1 *ℤ pos 1) *ℤ (k *ℤ k)) → x ≤ℤ y
unscaled x y k one h = le_cancel (k *ℤ k) x y (one_mul_one one one) (le_by (gap h) (vars (x ∷ y ∷ k ∷ []) (λ ρ v. simp (v 0, v 1, v 2, quotes, lit ρ) (ring _ _ ρ tt))))

times_one : (k : ℤ) → (pos 1 *ℤ k) ≤ℤ (k *ℤ pos 1)
times_one k = le_by (nat 0) (vars (k ∷ []) (λ ρ v. simp (v 0, quotes, lit ρ) (ring _ _ ρ tt)))

not_before : (n k : ℤ) → pos 0 ≤ℤ n → (pos 0 *ℤ k) ≤ℤ (n *ℤ pos 1)
not_before n k h = le_by (gap h) (vars (n ∷ k ∷ []) (λ ρ v. simp (v 0, v 1, quotes, lit ρ) (ring _ _ ρ tt)))

module _ (p m q : Vector) (ends : Ends p m q) where
  q_length : pos (length_squared q) ≡ (p.x -ℤ m.x) *ℤ (p.x -ℤ m.x) +ℤ (p.y -ℤ m.y) *ℤ (p.y -ℤ m.y)
  q_length = length_squared_is q ∙ rw (ends.from_x, ends.from_y) refl

  first_far : (k : ℤ) → far p m (pos 0) k ≡ pos (length_squared p) *ℤ (k *ℤ k)
  first_far k = zero_far p.x p.y m.x m.y k ∙ ap (λ (z : ℤ). z *ℤ (k *ℤ k)) (sym (length_squared_is p))

  last_far : (k : ℤ) → far p m k k ≡ pos (length_squared q) *ℤ (k *ℤ k)
  last_far k = whole_far p.x p.y m.x m.y k ∙ ap (λ (z : ℤ). z *ℤ (k *ℤ k)) (sym q_length)

  silent_start_is : length_squared p ≤ length_squared q → IsClosest p m true start_part
  silent_start_is h = record {
    some = omega arith;
    on_leg = omega arith;
    counts = inl refl;
    closest = closer;
    earliest = (λ n k one t g. not_before n k (⊎_elim (λ e. rw e (zero_le 0)) (λ e. rw e (≤ℤ-trans (zero_le 1) one)) t));
  }
    where
      closer : (n k : ℤ) → Counts true n k → (far p m (pos 0) (pos 1) *ℤ (k *ℤ k)) ≤ℤ (far p m n k *ℤ (pos 1 *ℤ pos 1))
      closer n k (inl e) = rw (e, first_far (pos 1), first_far k) (scaled (pos (length_squared p)) (pos (length_squared p)) k (≤ℤ_refl _))
      closer n k (inr e) = rw (e, first_far (pos 1), last_far k) (scaled (pos (length_squared p)) (pos (length_squared q)) k ((pos_le _ _).1 h))

  silent_end_is : length_squared q < length_squared p → IsClosest p m true end_part
  silent_end_is h = record {
    some = omega arith;
    on_leg = omega arith;
    counts = inr refl;
    closest = closer;
    earliest = sooner;
  }
    where
      closer : (n k : ℤ) → Counts true n k → (far p m (pos 1) (pos 1) *ℤ (k *ℤ k)) ≤ℤ (far p m n k *ℤ (pos 1 *ℤ pos 1))
      closer n k (inl e) = rw (e, last_far (pos 1), first_far k) (scaled (pos (length_squared q)) (pos (length_squared p)) k ((pos_le _ _).1 (omega arith)))
      closer n k (inr e) = rw (e, last_far (pos 1), last_far k) (scaled (pos (length_squared q)) (pos (length_squared q)) k (≤ℤ_refl _))

      sooner : (n k : ℤ) → pos 1 ≤ℤ k → Counts true n k → (far p m n k *ℤ (pos 1 *ℤ pos 1)) ≤ℤ (far p m (pos 1) (pos 1) *ℤ (k *ℤ k)) → (pos 1 *ℤ k) ≤ℤ (n *ℤ pos 1)
      sooner n k one (inl e) g = absurd (omega (arith, (pos_le _ _).0 (unscaled (pos (length_squared p)) (pos (length_squared q)) k one (rw (e, last_far (pos 1), first_far k) at g))))
      sooner n k one (inr e) g = rw e (times_one k)

end_across : (a b c : ℤ) → c -ℤ b ≡ (c -ℤ a) -ℤ (b -ℤ a)
end_across a b c = vars (a ∷ b ∷ c ∷ []) (λ ρ v. simp (v 0, v 1, v 2, quotes) (ring _ _ ρ tt))

pub leg_ends : (a b : Fix) (c : Point) → Ends (toward a c) (along a b) (toward b c)
leg_ends a b c = record { from_x = end_across a.x b.x c.x; from_y = end_across a.y b.y c.y }

pub silent_closest : (a b : Fix) (c : Point) → IsClosest (toward a c) (along a b) true (silent_part a b c)
unfolding silent_part
silent_closest a b c = go (test (length_squared (toward a c)) (length_squared (toward b c)))
  where
    go : {t : Bool} → Test (length_squared (toward a c)) (length_squared (toward b c)) t → IsClosest (toward a c) (along a b) true (cond t start_part end_part)
    go (holds h) = silent_start_is (toward a c) (along a b) (toward b c) (leg_ends a b c) h
    go (fails h) = silent_end_is (toward a c) (along a b) (toward b c) (leg_ends a b c) h

-- ---- OF EACH LEG
pub leg_closest : (a b : Fix) (c : Point) → IsClosest (toward a c) (along a b) (silent a) (closest_part a b c)
leg_closest a b c = go (silent a)
  where
    go : (t : Bool) → IsClosest (toward a c) (along a b) t (cond t (silent_part a b c) (heard_part a b c))
    go true = silent_closest a b c
    go false = heard_closest a b c

-- a leg at rest is closest at its start
pub rest_start : (a : Fix) (c : Point) → closest_part a a c ≡ start_part
unfolding silent_part heard_part
rest_start a c = go (silent a)
  where
    none_gone : (x y z w : ℤ) → x *ℤ (z -ℤ z) +ℤ y *ℤ (w -ℤ w) ≡ pos 0
    none_gone x y z w = vars (x ∷ y ∷ z ∷ w ∷ []) (λ ρ v. simp (v 0, v 1, v 2, v 3, quotes, lit ρ) (ring _ _ ρ tt))

    go : (t : Bool) → cond t (silent_part a a c) (heard_part a a c) ≡ start_part
    go true = rw (le-leb (length_squared (toward a c)) (length_squared (toward a c)) (omega arith)) refl
    go false = rw (none_gone (c.x -ℤ a.x) (c.y -ℤ a.y) a.x a.y) refl

-- ---- THE TEST: the part is near if the square of its distance, over the square of its denominator, is at most the radius'
pub left_far : (s : Part) (p m : Vector) → pos (length_squared (from_part s p m)) ≡ far p m (pos s.num) (pos s.den)
left_far s p m = length_squared_is (from_part s p m)

pub data NearPart (s : Part) (p m : Vector) (r : ℕ) : Option Part → Type 0 where
  is_near : far p m (pos s.num) (pos s.den) ≤ℤ pos (r * r * (s.den * s.den)) → NearPart s p m r (some s)
  is_far : (far p m (pos s.num) (pos s.den) ≤ℤ pos (r * r * (s.den * s.den)) → ⊥) → NearPart s p m r none

pub near_part_says : (s : Part) (p m : Vector) (r : ℕ) → NearPart s p m r (near_part s p m r)
unfolding near_part
near_part_says s p m r = go (test (length_squared (from_part s p m)) (r * r * (s.den * s.den)))
  where
    go : {t : Bool} → Test (length_squared (from_part s p m)) (r * r * (s.den * s.den)) t → NearPart s p m r (cond t (some s) none)
    go (holds h) = is_near (rw (left_far s p m) at ((pos_le _ _).1 h))
    go (fails h) = is_far (λ g. omega (arith, (pos_le _ _).0 (rw (← left_far s p m) at g)))
