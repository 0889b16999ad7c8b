-- The search along a record's fixes for the first leg that comes near.
use Rattle.std.specs.Prelude.{◌≡◌, Bool, true, false, cond, List, pos, nat_abs, leb}
use Rattle.std.proofs.Math.Path.{refl, sym}
use Rattle.std.proofs.Common.{◌∙◌, arith}
use Rattle.std.proofs.Math.Option.{Option, some, none}
use Prim.Native.Nat.{ℕ, suc, ◌+◌, ◌-◌, ◌≤◌, ◌<◌}
use Rattle.std.specs.Int.Signed.{le_z}
use Rattle.distance.specs.Fix.{Fix, Bounded, widest}
use Rattle.distance.specs.Place.{Point}
use Rattle.distance.specs.Silence.{silent}
use Rattle.distance.specs.Integers.Bounds.{abs_bound}
use Rattle.format.specs.Kinds.{Kind}
use Rattle.format.specs.Format.{fix_at}
use Rattle.record.specs.Answers.{or_else}
use Rattle.record.specs.Laws.Trail.{from}
use Rattle.record.proofs.Laws.Trail.{from_next, from_end, Walk, walk_start, walk_bounded, walk_leg, walk_within, walk_next}
use Rattle.approach.specs.declared.Part.{Part}
use Rattle.approach.specs.Approach.{toward, along, length_squared, dot, start_part, end_part, heard_part, silent_part, closest_part, leg_near, told_on, near_from}
use Rattle.approach.proofs.Laws.Parts.{leg_closest, NearPart, is_near, is_far, near_part_says}
use Rattle.approach.specs.Laws.Ranges.{greatest_square, PointFits, NearFits}
use Rattle.approach.proofs.Laws.Ranges.{short_leg, length_squared_low}
use Rattle.approach.specs.Laws.Search.{Seekable, ToldFits}

part_low : {a b : Fix} {c : Point} {r : ℕ} → NearFits a b c r → (closest_part a b c).den ≤ greatest_square
unfolding silent_part heard_part
part_low {a} {b} {c} f = go (silent a)
  where
    either : (t : Bool) (x y : Part) → x.den ≤ greatest_square → y.den ≤ greatest_square → (cond t x y).den ≤ greatest_square
    either true x y h k = h
    either false x y h k = k

    one : 1 ≤ greatest_square
    one = omega arith

    foot : Part
    foot = record { num = nat_abs (dot (toward a c) (along a b)); den = length_squared (along a b) }

    past : Bool
    past = le_z (pos (length_squared (along a b))) (dot (toward a c) (along a b))

    go : (t : Bool) → (cond t (silent_part a b c) (heard_part a b c)).den ≤ greatest_square
    go true = either (leb (length_squared (toward a c)) (length_squared (toward b c))) start_part end_part one one
    go false = either (le_z (dot (toward a c) (along a b)) (pos 0)) start_part (cond past end_part foot) one (either past end_part foot one (length_squared_low (short_leg f)))

-- a part that is told
pub part_fits : {a b : Fix} {c : Point} {r : ℕ} (s : Part) → NearFits a b c r → leg_near a b c r ≡ some s → (s.den ≤ greatest_square) × (s.num ≤ s.den)
unfolding leg_near
part_fits {a} {b} {c} {r} s f e = go (near_part_says (closest_part a b c) (toward a c) (along a b) r) e
  where
    go : {o : Option Part} → NearPart (closest_part a b c) (toward a c) (along a b) r o → o ≡ some s → (s.den ≤ greatest_square) × (s.num ≤ s.den)
    go (is_near h) e = let z : closest_part a b c ≡ s = cc in rw (← z) (part_low f, (leg_closest a b c).on_leg)
    go (is_far h) e = absurd (let z : ◌≡◌ {A = ℕ} 0 1 = cc in omega arith)

begun : {K : Kind} {b : List ℕ} {n : ℕ} {c : Point} {r : ℕ} → Seekable K b n c r → Walk K b n 1
begun x = walk_start x.is_accepted x.kind x.count

leg_fits : {a b : Fix} {c : Point} {r : ℕ} → Bounded widest a → Bounded widest b → PointFits c r → NearFits a b c r
leg_fits {a} {b} h k p = record {
  ax = abs_bound a.x widest h.x_high h.x_low;
  ay = abs_bound a.y widest h.y_high h.y_low;
  bx = abs_bound b.x widest k.x_high k.x_low;
  by = abs_bound b.y widest k.y_high k.y_low;
  asked = p;
}

-- a lone fix
pub lone_leg : {K : Kind} {b : List ℕ} {n : ℕ} {c : Point} {r : ℕ} → Seekable K b n c r → NearFits (fix_at K b 0) (fix_at K b 0) c r
lone_leg x = let f = walk_bounded (begun x) in leg_fits f f x.asked

pub lone_told : {a : Fix} {c : Point} {r : ℕ} (s : Part) → NearFits a a c r → leg_near a a c r ≡ some s → ToldFits a.t 0 a a s
lone_told s f e = let p = part_fits s f e in record { early = omega arith; after = omega arith; rises = omega arith; last = omega arith; den_low = p.0; on_leg = p.1 }

-- what is left of the search: a is the fix before position k
pub record Seek (K : Kind) (b : List ℕ) (n : ℕ) (c : Point) (r : ℕ) (a : Fix) (k : ℕ) : Type 0 where
  pub walk : Walk K b n k
  pub asked : PointFits c r
  pub here : a ≡ fix_at K b (k - 1)
  pub left : near_from (fix_at K b 0).t 0 (fix_at K b 0) (from (fix_at K b) 1 n) c r ≡ near_from (fix_at K b 0).t (k - 1) (fix_at K b (k - 1)) (from (fix_at K b) k n) c r

pub seek_start : {K : Kind} {b : List ℕ} {n : ℕ} {c : Point} {r : ℕ} {a : Fix} → Seekable K b n c r → a ≡ fix_at K b 0 → Seek K b n c r a 1
seek_start x e = record { walk = begun x; asked = x.asked; here = e; left = refl }

module _ {K : Kind} {b : List ℕ} {n : ℕ} {c : Point} {r : ℕ} {a : Fix} {k : ℕ} (x : Seek K b n c r a k) where
  abbrev z : ℕ
  z = (fix_at K b 0).t

  abbrev fix : ℕ → Fix
  fix = fix_at K b

  module _ (h : k < n) where
    module _ {d : Fix} (e : d ≡ fix_at K b k) where
      pub seek_leg : NearFits a d c r
      seek_leg = let g = walk_leg x.walk h in rw (x.here, e) (leg_fits g.bounded_a g.bounded_b x.asked)

      pub seek_told : (s : Part) → leg_near a d c r ≡ some s → ToldFits (fix_at K b 0).t (k - 1) a d s
      seek_told s t =
          let g = walk_leg x.walk h in
          let p = part_fits s seek_leg t in
          record {
            early = omega (arith, x.walk.short);
            after = rw x.here x.walk.base;
            rises = rw (x.here, e) (omega (arith, g.rises));
            last = rw e (walk_within x.walk h).1;
            den_low = p.0;
            on_leg = p.1;
          }

      step : near_from z (k - 1) (fix (k - 1)) (from fix k n) c r ≡ or_else (told_on z (k - 1) a d (leg_near a d c r)) (near_from z k (fix k) (from fix (k + 1) n) c r)
      unfolding near_from
      step = let i : suc (k - 1) ≡ k = omega (arith, x.walk.some_leg) in rw (from_next fix k n h, i, ← x.here, ← e) refl

      pub seek_found : (s : Part) → leg_near a d c r ≡ some s → told_on (fix_at K b 0).t (k - 1) a d (some s) ≡ near_from (fix_at K b 0).t 0 (fix_at K b 0) (from (fix_at K b) 1 n) c r
      seek_found s t = sym (x.left ∙ step ∙ rw t refl)

      pub seek_on : leg_near a d c r ≡ none → Seek K b n c r d (k + 1)
      seek_on t =
          let i : k + 1 - 1 ≡ k = omega arith in
          record { walk = walk_next x.walk h; asked = x.asked; here = rw i e; left = rw i (x.left ∙ step ∙ rw t refl) }

  pub seek_end : n ≤ k → none ≡ near_from (fix_at K b 0).t 0 (fix_at K b 0) (from (fix_at K b) 1 n) c r
  unfolding near_from
  seek_end h = let e : k ≡ n = omega (arith, x.walk.few) in sym (x.left ∙ rw (e, from_end fix n) refl)
