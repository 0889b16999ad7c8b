-- THE SAME TRAIL IN CENTIMETRES AND IN MILLIMETRES COMES NEAR THE SAME POINT on the same leg at the same time, or neither does, and a refusal is the same. Products and
-- squares are a hundred times as great, so that every test decides as before, and of the closest part both numbers are so many times as great.
use Rattle.std.specs.Prelude.{◌≡◌, refl, ◌⊎◌, Bool, true, false, cond, List, [], ◌∷◌, map, ℕ, suc, ◌+◌, ◌*◌, ◌-◌, ◌≤◌, leb, ltb, ℤ, pos, nat_abs, ◌-ℤ◌, ◌*ℤ◌}
use Rattle.std.proofs.Math.Path.{sym, ap}
use Rattle.std.proofs.Common.{subst, ◌∙◌, inl, inr, mul-le-mul}
use Rattle.std.proofs.Math.Option.{Option, some, none}
use native.Mathlib.Omega.{arith}
use Rattle.std.specs.Int.Signed.{le_z, clash_ℤ}
use Rattle.distance.specs.Fix.{Fix}
use Rattle.distance.specs.Silence.{silent}
use Rattle.distance.specs.Place.{Point}
use Rattle.distance.specs.Tenfold.{tenfold_fix}
use Rattle.distance.specs.Laws.All.{all_none, all_more}
use Rattle.distance.specs.Integers.Differences.{nat_abs_mul}
use Rattle.distance.specs.Integers.Ring.{ring, quotes, lit, vars}
use Rattle.distance.specs.Integers.Order.{TestZ, z_holds, z_fails, test_z, le_cancel, le_times, pos_le}
use Rattle.distance.specs.Integers.Tests.{same_test, leb_times}
use Rattle.format.specs.Kinds.{Kind, trail, millimetre_trail}
use Rattle.format.specs.Format.{fixes}
use Rattle.record.specs.Checks.{bad_point, sentence}
use Rattle.record.specs.Answers.{answer, or_else, SameAnswer}
use Rattle.record.specs.Tenfold.{Tenfold}
use Rattle.record.proofs.Laws.Tenfold.{tenfold_refusal, outside_tenfold}
use Rattle.approach.specs.declared.Vector.{Vector}
use Rattle.approach.specs.declared.Part.{Part}
use Rattle.approach.specs.declared.Approach.{Approach}
use Rattle.approach.specs.Approach.{toward, along, length_squared, dot, start_part, end_part, heard_part, silent_part, closest_part, from_part, near_part, leg_near, told_on, near_from, first_near, asked_near, near_refusal, near_answer}
use Rattle.approach.specs.Tenfold.{tenfold_point, SameApproach}
use Rattle.approach.proofs.Laws.Parts.{leg_closest}
use Rattle.approach.specs.Laws.Checking.{point_outside}
use Rattle.approach.proofs.Laws.Checking.{asks_near, own_check}

-- ---- vectors k times as long
abbrev times : (k : ℕ) → Vector → Vector
times k v = record { x = pos k *ℤ v.x; y = pos k *ℤ v.y }

less_times : (k : ℕ) (x y : ℤ) → pos k *ℤ x -ℤ pos k *ℤ y ≡ pos k *ℤ (x -ℤ y)
less_times k x y = vars (pos k ∷ x ∷ y ∷ []) (λ ρ v. simp (v 0, v 1, v 2, quotes) (ring _ _ ρ tt))

toward_tenfold : (a : Fix) (c : Point) → toward (tenfold_fix a) (tenfold_point c) ≡ times 10 (toward a c)
toward_tenfold a c = rw (less_times 10 c.x a.x, less_times 10 c.y a.y) refl

along_tenfold : (a b : Fix) → along (tenfold_fix a) (tenfold_fix b) ≡ times 10 (along a b)
along_tenfold a b = rw (less_times 10 b.x a.x, less_times 10 b.y a.y) refl

length_times : (k : ℕ) (v : Vector) → length_squared (times k v) ≡ k * k * length_squared v
length_times k v = rw (nat_abs_mul (pos k) v.x, nat_abs_mul (pos k) v.y) (omega arith)

dot_times : (k : ℕ) (v w : Vector) → dot (times k v) (times k w) ≡ pos (k * k) *ℤ dot v w
dot_times k v w = vars (pos k ∷ v.x ∷ v.y ∷ w.x ∷ w.y ∷ []) (λ ρ v. simp (v 0, v 1, v 2, v 3, v 4, quotes) (ring _ _ ρ tt))

le_z_hundredfold : (x y : ℤ) → le_z (pos 100 *ℤ x) (pos 100 *ℤ y) ≡ le_z x y
le_z_hundredfold x y = go (test_z (pos 100 *ℤ x) (pos 100 *ℤ y)) (test_z x y)
  where
    go : {s t : Bool} → TestZ (pos 100 *ℤ x) (pos 100 *ℤ y) s → TestZ x y t → s ≡ t
    go (z_holds h) (z_holds k) = refl
    go (z_holds h) (z_fails k) = absurd (clash_ℤ k (le_cancel (pos 100) x y ((pos_le 1 100).1 (omega arith)) h))
    go (z_fails h) (z_holds k) = absurd (clash_ℤ h (le_times 100 x y k))
    go (z_fails h) (z_fails k) = refl

-- ---- the closest part: numerator and denominator k times as great
record Multiple (s g : Part) : Type 0 where
  k : ℕ
  one : 1 ≤ k
  num_is : s.num ≡ k * g.num
  den_is : s.den ≡ k * g.den

same_part : (s : Part) → Multiple s s
same_part s = record { k = 1; one = omega arith; num_is = omega arith; den_is = omega arith }

abbrev part_of : (p m : Vector) → Part
part_of p m = cond (le_z (dot p m) (pos 0)) start_part (cond (le_z (pos (length_squared m)) (dot p m)) end_part (record { num = nat_abs (dot p m); den = length_squared m }))

part_tenfold : (p m : Vector) → Multiple (part_of (times 10 p) (times 10 m)) (part_of p m)
part_tenfold p m = rw (dot_times 10 p m, length_times 10 m, le_z_hundredfold (dot p m) (pos 0), le_z_hundredfold (pos (length_squared m)) (dot p m), nat_abs_mul (pos 100) (dot p m))
    (go (le_z (dot p m) (pos 0)) (le_z (pos (length_squared m)) (dot p m)))
  where
    foot : Part
    foot = record { num = nat_abs (dot p m); den = length_squared m }

    go : (s t : Bool) → Multiple (cond s start_part (cond t end_part (record { num = 100 * nat_abs (dot p m); den = 100 * length_squared m }))) (cond s start_part (cond t end_part foot))
    go true t = same_part start_part
    go false true = same_part end_part
    go false false = record { k = 100; one = omega arith; num_is = refl; den_is = refl }

silent_tenfold : (a b : Fix) (c : Point) → silent_part (tenfold_fix a) (tenfold_fix b) (tenfold_point c) ≡ silent_part a b c
unfolding silent_part
silent_tenfold a b c = rw (apart a, apart b, leb_times 100 (length_squared (toward a c)) (length_squared (toward b c)) (omega arith)) refl
  where
    apart : (f : Fix) → length_squared (toward (tenfold_fix f) (tenfold_point c)) ≡ 100 * length_squared (toward f c)
    apart f = ap length_squared (toward_tenfold f c) ∙ length_times 10 (toward f c)

closest_tenfold : (a b : Fix) (c : Point) → Multiple (closest_part (tenfold_fix a) (tenfold_fix b) (tenfold_point c)) (closest_part a b c)
unfolding heard_part
closest_tenfold a b c = go (silent a)
  where
    longer : heard_part (tenfold_fix a) (tenfold_fix b) (tenfold_point c) ≡ part_of (times 10 (toward a c)) (times 10 (along a b))
    longer = ap (λ (p : Vector). part_of p (along (tenfold_fix a) (tenfold_fix b))) (toward_tenfold a c) ∙ ap (part_of (times 10 (toward a c))) (along_tenfold a b)

    go : (t : Bool) → Multiple (cond t (silent_part (tenfold_fix a) (tenfold_fix b) (tenfold_point c)) (heard_part (tenfold_fix a) (tenfold_fix b) (tenfold_point c))) (cond t (silent_part a b c) (heard_part a b c))
    go true = rw (silent_tenfold a b c) (same_part (silent_part a b c))
    go false = subst (λ (g : Part). Multiple g (heard_part a b c)) (sym longer) (part_tenfold (toward a c) (along a b))

-- ---- it is within ten times the radius exactly if it was within the radius, and then its time is the same
from_times : (k n d : ℕ) (p m : ℤ) → pos (k * d) *ℤ (pos 10 *ℤ p) -ℤ pos (k * n) *ℤ (pos 10 *ℤ m) ≡ pos (10 * k) *ℤ (pos d *ℤ p -ℤ pos n *ℤ m)
from_times k n d p m = vars (pos k ∷ pos n ∷ pos d ∷ p ∷ m ∷ []) (λ ρ v. simp (v 0, v 1, v 2, v 3, v 4, quotes, lit ρ) (ring _ _ ρ tt))

module _ (first i : ℕ) (a b : Fix) (c : Point) (r : ℕ) where
  abbrev P : Vector
  P = toward a c

  abbrev M : Vector
  M = along a b

  abbrev s : Part
  s = closest_part a b c

  near_test : (g : Part) → Multiple g s → leb (length_squared (from_part g (times 10 P) (times 10 M))) (10 * r * (10 * r) * (g.den * g.den)) ≡ leb (length_squared (from_part s P M)) (r * r * (s.den * s.den))
  near_test g x =
      let k = x.k in
      let longer : from_part g (times 10 P) (times 10 M) ≡ times (10 * k) (from_part s P M) = rw (x.num_is, x.den_is, from_times k s.num s.den P.x M.x, from_times k s.num s.den P.y M.y) refl in
      let ten : 1 ≤ 10 * k = omega (arith, x.one) in
      let radius : 10 * r * (10 * r) * (g.den * g.den) ≡ 10 * k * (10 * k) * (r * r * (s.den * s.den)) = rw x.den_is (squares k s.den) in
      rw (ap length_squared longer ∙ length_times (10 * k) (from_part s P M), radius) (leb_times (10 * k * (10 * k)) (length_squared (from_part s P M)) (r * r * (s.den * s.den)) (mul-le-mul ten ten))
    where
      squares : (k d : ℕ) → 10 * r * (10 * r) * (k * d * (k * d)) ≡ 10 * k * (10 * k) * (r * r * (d * d))
      squares k d = omega arith

  told_tenfold : (g : Part) → Multiple g s → SameApproach (told_on first i (tenfold_fix a) (tenfold_fix b) (near_part g (times 10 P) (times 10 M) (10 * r))) (told_on first i a b (near_part s P M r))
  unfolding near_part
  told_tenfold g x = rw (near_test g x) (go (leb (length_squared (from_part s P M)) (r * r * (s.den * s.den))))
    where
      value : (k n d u v : ℕ) → (k * d * u + k * n * v) * d ≡ (d * u + n * v) * (k * d)
      value k n d u v = omega arith

      go : (t : Bool) → SameApproach (told_on first i (tenfold_fix a) (tenfold_fix b) (cond t (some g) none)) (told_on first i a b (cond t (some s) none))
      go false = tt
      go true = record {
        same_leg = refl;
        same_value = rw (x.num_is, x.den_is) (value x.k s.num s.den (a.t - first) (b.t - a.t));
        at_least = rw x.den_is (mul-le-mul x.one (leg_closest a b c).some);
        other_at_least = (leg_closest a b c).some;
      }

  leg_tenfold : SameApproach (told_on first i (tenfold_fix a) (tenfold_fix b) (leg_near (tenfold_fix a) (tenfold_fix b) (tenfold_point c) (10 * r))) (told_on first i a b (leg_near a b c r))
  unfolding leg_near
  leg_tenfold = rw (toward_tenfold a c, along_tenfold a b) (told_tenfold (closest_part (tenfold_fix a) (tenfold_fix b) (tenfold_point c)) (closest_tenfold a b c))

-- ---- the first leg of all
or_same : (x y z w : Option Approach) → SameApproach x y → SameApproach z w → SameApproach (or_else x z) (or_else y w)
or_same none none z w h k = k
or_same (some A) (some G) z w h k = h
or_same none (some G) z w h k = absurd h
or_same (some A) none z w h k = absurd h

from_tenfold : (first i : ℕ) (a : Fix) (l : List Fix) (c : Point) (r : ℕ) → SameApproach (near_from first i (tenfold_fix a) (map tenfold_fix l) (tenfold_point c) (10 * r)) (near_from first i a l c r)
unfolding near_from
from_tenfold first i a [] c r = tt
from_tenfold first i a (b ∷ l) c r =
    or_same (told_on first i (tenfold_fix a) (tenfold_fix b) (leg_near (tenfold_fix a) (tenfold_fix b) (tenfold_point c) (10 * r))) (told_on first i a b (leg_near a b c r)) _ _
    (leg_tenfold first i a b c r) (from_tenfold first (suc i) b l c r)

near_tenfold : (l : List Fix) (c : Point) (r : ℕ) → SameApproach (first_near (map tenfold_fix l) (tenfold_point c) (10 * r)) (first_near l c r)
unfolding first_near
near_tenfold [] c r = tt
near_tenfold (a ∷ []) c r = leg_tenfold a.t 0 a a c r
near_tenfold (a ∷ b ∷ l) c r = from_tenfold a.t 0 a (b ∷ l) c r

-- ---- the point and the radius are within the one's limits exactly if they are within the other's
point_tenfold : (c : Point) (r : ℕ) → point_outside millimetre_trail.limit (tenfold_point c) (10 * r) ≡ point_outside trail.limit c r
point_tenfold c r =
    let radius : ltb 320000 (10 * r) ≡ ltb 32000 r = same_test 320001 (10 * r) 32001 r ((λ h. omega arith), (λ h. omega arith)) in
    rw (outside_tenfold c.x, outside_tenfold c.y, radius) refl

module _ {b c : List ℕ} (t : Tenfold b c) (p : Point) (r : ℕ) where
  same_refusal : near_refusal c (tenfold_point p) (10 * r) ≡ near_refusal b p r
  unfolding sentence
  same_refusal =
      let point : asks_near c (tenfold_point p) (10 * r) bad_point ≡ asks_near b p r bad_point =
      ap (λ (K : Kind). point_outside K.limit (tenfold_point p) (10 * r)) t.kind_tenfold ∙ point_tenfold p r ∙ sym (ap (λ (K : Kind). point_outside K.limit p r) t.kind_before) in
      tenfold_refusal t (asked_near p r) (asked_near (tenfold_point p) (10 * r)) own_check (all_more point all_none)

  -- THE LAW
  pub near_answer_tenfold : SameAnswer SameApproach (near_answer c (tenfold_point p) (10 * r)) (near_answer b p r)
  near_answer_tenfold = rw same_refusal (go (near_refusal b p r))
    where
      go : (o : Option ℕ) → SameAnswer SameApproach (answer o (first_near (fixes c) (tenfold_point p) (10 * r))) (answer o (first_near (fixes b) p r))
      go (some k) = refl
      go none = rw t.fixes_tenfold (near_tenfold (fixes b) p r)

-- ---- WHAT THE TYPES SAY, without their names: two answers that say the same are both no, or both yes, and then of the same leg, n/d and m/e being the same number
pub same_approach_gives : (o g : Option Approach) → SameApproach o g → ((o ≡ none) × (g ≡ none))
    ⊎ ((A : Approach) × (G : Approach) × (o ≡ some A) × (g ≡ some G) × (A.leg ≡ G.leg) × (A.num * G.den ≡ G.num * A.den) × (1 ≤ A.den) × (1 ≤ G.den))
same_approach_gives none none h = inl (refl, refl)
same_approach_gives (some A) (some G) h = inr (A, G, refl, refl, h.same_leg, h.same_value, h.at_least, h.other_at_least)
same_approach_gives none (some G) h = absurd h
same_approach_gives (some A) none h = absurd h
