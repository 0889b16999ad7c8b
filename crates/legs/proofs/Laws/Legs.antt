-- One leg of a trail, from the places over ℤ to those counted from −160,000 on: the times of the window at which it is in the box.
use Rattle.std.specs.Prelude.{◌≡◌, ℕ, ◌+◌, ◌*◌, ◌-◌, ◌≤◌, ◌<◌, ℤ, pos, nat_abs, neg_ℤ, ◌+ℤ◌, ◌-ℤ◌, ◌*ℤ◌, ◌≤ℤ◌}
use Rattle.std.proofs.Common.{◌∙◌, ap, arith}
use Rattle.distance.specs.Fix.{Fix, Bounded, widest}
use Rattle.distance.specs.Distance.{seconds}
use Rattle.distance.specs.Place.{Time, Place, own, leg, interpolated}
use Rattle.distance.specs.Box.{Box, In}
use Rattle.distance.specs.Integers.Differences.{diff, diffs, split}
use Rattle.legs.specs.declared.Fraction.{Fraction}
use Rattle.legs.specs.declared.Raised.{Raised}
use Rattle.legs.specs.declared.Frame.{Frame}
use Rattle.legs.specs.Legs.{times, axis_times, leg_times, leg_first, offset_of, raised, framed}
use Rattle.legs.specs.Laws.Times.{Each}
use Rattle.legs.proofs.Laws.Times.{Cuts, Exactly, Said, IfSome, narrow, same_times, both_each, meet, said_first, said_as, first_each}
use Rattle.legs.proofs.Laws.Axis.{On, Mid, Rests, axis_cut, rest_cut, axis_over}
use Rattle.legs.specs.Laws.Legs.{InWidest}
use Rattle.legs.specs.Laws.Legs.{BoxInWidest}

-- ---- the window, and the leg itself
pub record Open (w v : ℕ) (u : Time) : Type 0 where
  pub opened : w * u.q ≤ u.p
  pub closed : u.p ≤ v * u.q

on_leg : (A D : ℕ) → Exactly (On A D) (times A (A + D) 1)
on_leg A D = record {
  sound = record { of_first = omega arith; of_last = omega arith };
  only = (λ u o. record { from = omega (arith, o.from); until = omega (arith, o.to) });
  all = (λ u w. record { from = omega (arith, w.from); to = omega (arith, w.until) });
}

in_window : (A D w v : ℕ) → Cuts (On A D) (Open w v) (times w v 1)
in_window A D w v = record {
  sound = record { of_first = omega arith; of_last = omega arith };
  only = (λ u o s. record { from = omega (arith, s.opened); until = omega (arith, s.closed) });
  all = (λ u o s. record { opened = omega (arith, s.from); closed = omega (arith, s.until) });
}

-- ---- the leg from a to b
pub record Hit (a b : Raised) (f : Frame) (w v : ℕ) (u : Time) : Type 0 where
  pub on : On a.t.0 (b.t.0 - a.t.0) u
  pub window : Open w v u
  pub in_x : Mid a.t.0 (b.t.0 - a.t.0) a.x.0 b.x.0 f.left.0 f.right.0 u
  pub in_y : Mid a.t.0 (b.t.0 - a.t.0) a.y.0 b.y.0 f.bottom.0 f.top.0 u

pub leg_said : (a b : Raised) (f : Frame) (w v : ℕ) → a.t.0 < b.t.0 → Said (Hit a b f w v) (leg_first a b f w v)
unfolding leg_first leg_times
leg_said a b f w v r =
    let A = a.t.0 in
    let D = b.t.0 - a.t.0 in
    let e1 = meet (on_leg A D) (in_window A D w v) in
    let e2 = meet e1 (narrow (λ u z. z.0) (axis_cut A D a.x.0 b.x.0 f.left.0 f.right.0 (omega arith))) in
    let e3 = meet e2 (narrow (λ u z. z.0.0) (axis_cut A D a.y.0 b.y.0 f.bottom.0 f.top.0 (omega arith))) in
    said_first (same_times (λ u z. record { on = z.0.0.0; window = z.0.0.1; in_x = z.0.1; in_y = z.1 }) (λ u z. (((z.on, z.window), z.in_x), z.in_y)) e3)

-- ---- a lone fix
pub record RestsIn (a : Raised) (f : Frame) (w v : ℕ) (u : Time) : Type 0 where
  pub on : On a.t.0 0 u
  pub window : Open w v u
  pub in_x : Rests a.x.0 f.left.0 f.right.0 u
  pub in_y : Rests a.y.0 f.bottom.0 f.top.0 u

pub alone_said : (a : Raised) (f : Frame) (w v : ℕ) → Said (RestsIn a f w v) (leg_first a a f w v)
unfolding leg_first leg_times
alone_said a f w v =
    let A = a.t.0 in
    let none_gone : A - A ≡ 0 = omega arith in
    let e1 = meet (on_leg A 0) (in_window A 0 w v) in
    let e2 = meet e1 (narrow (λ u z. z.0) (rest_cut A a.x.0 f.left.0 f.right.0)) in
    let e3 = meet e2 (narrow (λ u z. z.0.0) (rest_cut A a.y.0 f.bottom.0 f.top.0)) in
    rw none_gone (said_first (same_times (λ u z. record { on = z.0.0.0; window = z.0.0.1; in_x = z.0.1; in_y = z.1 }) (λ u z. (((z.on, z.window), z.in_x), z.in_y)) e3))

pub record Counts (z : ℤ) (n : ℕ) : Type 0 where
  pub is : z ≡ diff n widest
  pub small : n ≤ 2 * widest

counts_nat : (a b : ℕ) → b ≤ a + widest → nat_abs (diff a b +ℤ pos widest) ≡ a + widest - b
counts_nat a b h = let e : diff a b +ℤ pos widest ≡ pos (a + widest - b) = simp diffs (omega arith) in ap nat_abs e

pub counts : (z : ℤ) → InWidest z → Counts z (offset_of z)
counts z h = split z (λ a b p.
    let l : b ≤ a + widest = omega (arith, simp (p, diffs) at h.low) in
    let g : a ≤ b + widest = omega (arith, simp (p, diffs) at h.high) in
    rw (p, counts_nat a b l) (record { is = simp diffs (omega arith); small = omega arith }))

pub placed_x : {a : Fix} → Bounded widest a → InWidest a.x
placed_x h = record { low = h.x_low; high = h.x_high }

pub placed_y : {a : Fix} → Bounded widest a → InWidest a.y
placed_y h = record { low = h.y_low; high = h.y_high }

-- one axis of a place over ℤ is between its edges just if it is so counted
module _ {i j lo hi : ℤ} {I J L H : ℕ} (ci : Counts i I) (cj : Counts j J) (cl : Counts lo L) (ch : Counts hi H) (m s : ℕ) where
  above_in : (lo *ℤ pos m) ≤ℤ interpolated i j (pos m) (pos s) → L * m + I * s ≤ I * m + J * s
  above_in h = omega (arith, simp (ci.is, cj.is, cl.is, diffs) at h)

  below_in : interpolated i j (pos m) (pos s) ≤ℤ (hi *ℤ pos m) → I * m + J * s ≤ H * m + I * s
  below_in h = omega (arith, simp (ci.is, cj.is, ch.is, diffs) at h)

  above_out : L * m + I * s ≤ I * m + J * s → (lo *ℤ pos m) ≤ℤ interpolated i j (pos m) (pos s)
  above_out h = simp (ci.is, cj.is, cl.is, diffs) (omega arith)

  below_out : I * m + J * s ≤ H * m + I * s → interpolated i j (pos m) (pos s) ≤ℤ (hi *ℤ pos m)
  below_out h = simp (ci.is, cj.is, ch.is, diffs) (omega arith)

-- ---- seconds after a second: u seconds after z
abbrev pub absolute : ℕ → Time → Time
absolute z u = record { p = u.q * z + u.p; q = u.q; whole = u.whole }

-- a leg at such a time, its numbers natural
over_nat : (q a d : ℕ) → pos q *ℤ (pos (a + d) -ℤ pos a) ≡ pos (d * q)
over_nat q a d = simp diffs (omega arith)

gone_nat : (q z A p : ℕ) → A * q ≤ p → pos (q * z + p) -ℤ pos q *ℤ pos (z + A) ≡ pos (p - A * q)
gone_nat q z A p h = simp diffs (omega arith)

abbrev pub plain : (a b : Fix) (m s : ℕ) → Place
plain a b m s = record { x = interpolated a.x b.x (pos m) (pos s); y = interpolated a.y b.y (pos m) (pos s); d = pos m }

pub leg_plain : (z : ℕ) (a b : Fix) (u : Time) → z ≤ a.t → a.t < b.t → (a.t - z) * u.q ≤ u.p
    → leg a b (absolute z u) ≡ plain a b ((b.t - z - (a.t - z)) * u.q) (u.p - (a.t - z) * u.q)
unfolding leg
leg_plain z a b u base rises from =
    let d = b.t - z - (a.t - z) in
    let A = a.t - z in
    let later : b.t ≡ a.t + d = omega arith in
    let start : a.t ≡ z + A = omega arith in
    let over : pos u.q *ℤ seconds a b ≡ pos (d * u.q) = ap (λ (t : ℕ). pos u.q *ℤ (pos t -ℤ pos a.t)) later ∙ over_nat u.q a.t d in
    let gone : pos (u.q * z + u.p) -ℤ pos u.q *ℤ pos a.t ≡ pos (u.p - A * u.q) =
    ap (λ (t : ℕ). pos (u.q * z + u.p) -ℤ pos u.q *ℤ pos t) start ∙ gone_nat u.q z A u.p from in
    ap (λ (m : ℤ). record { x = interpolated a.x b.x m (pos (u.q * z + u.p) -ℤ pos u.q *ℤ pos a.t); y = interpolated a.y b.y m (pos (u.q * z + u.p) -ℤ pos u.q *ℤ pos a.t); d = m }) over
    ∙ ap (λ (s : ℤ). record { x = interpolated a.x b.x (pos (d * u.q)) s; y = interpolated a.y b.y (pos (d * u.q)) s; d = pos (d * u.q) }) gone

-- ---- at a time on the leg and of the window the leg is in the box
pub record LegIn (z : ℕ) (box : Box) (w v : ℕ) (a b : Fix) (u : Time) : Type 0 where
  pub from : (a.t - z) * u.q ≤ u.p
  pub to : u.p ≤ (b.t - z) * u.q
  pub window : Open w v u
  pub inside : In box (leg a b (absolute z u))

module _ (z : ℕ) (box : Box) (w v : ℕ) (a b : Fix) (base : z ≤ a.t) (rises : a.t < b.t) (pa : Bounded widest a) (pb : Bounded widest b) (nb : BoxInWidest box) where
  abbrev A : ℕ
  A = a.t - z

  abbrev D : ℕ
  D = b.t - z - (a.t - z)

  hit_out : (u : Time) → Hit (raised z a) (raised z b) (framed box) w v u → LegIn z box w v a b u
  hit_out u h =
      let e : A + D ≡ b.t - z = omega arith in
      let m = D * u.q in
      let s = u.p - A * u.q in
      record {
        from = h.on.from;
        to = rw e at h.on.to;
        window = h.window;
        inside = rw (leg_plain z a b u base rises h.on.from) (record {
          x_above = above_out (counts a.x (placed_x pa)) (counts b.x (placed_x pb)) (counts box.x_low nb.x_low) (counts box.x_high nb.x_high) m s h.in_x.above;
          x_below = below_out (counts a.x (placed_x pa)) (counts b.x (placed_x pb)) (counts box.x_low nb.x_low) (counts box.x_high nb.x_high) m s h.in_x.below;
          y_above = above_out (counts a.y (placed_y pa)) (counts b.y (placed_y pb)) (counts box.y_low nb.y_low) (counts box.y_high nb.y_high) m s h.in_y.above;
          y_below = below_out (counts a.y (placed_y pa)) (counts b.y (placed_y pb)) (counts box.y_low nb.y_low) (counts box.y_high nb.y_high) m s h.in_y.below;
        });
      }

  hit_in : (u : Time) → LegIn z box w v a b u → Hit (raised z a) (raised z b) (framed box) w v u
  hit_in u h =
      let e : A + D ≡ b.t - z = omega arith in
      let m = D * u.q in
      let s = u.p - A * u.q in
      let i : In box (plain a b m s) = rw (leg_plain z a b u base rises h.from) at h.inside in
      record {
        on = record { from = h.from; to = rw e h.to };
        window = h.window;
        in_x = record {
          above = above_in (counts a.x (placed_x pa)) (counts b.x (placed_x pb)) (counts box.x_low nb.x_low) (counts box.x_high nb.x_high) m s i.x_above;
          below = below_in (counts a.x (placed_x pa)) (counts b.x (placed_x pb)) (counts box.x_low nb.x_low) (counts box.x_high nb.x_high) m s i.x_below;
        };
        in_y = record {
          above = above_in (counts a.y (placed_y pa)) (counts b.y (placed_y pb)) (counts box.y_low nb.y_low) (counts box.y_high nb.y_high) m s i.y_above;
          below = below_in (counts a.y (placed_y pa)) (counts b.y (placed_y pb)) (counts box.y_low nb.y_low) (counts box.y_high nb.y_high) m s i.y_below;
        };
      }

  pub leg_means : Said (LegIn z box w v a b) (leg_first (raised z a) (raised z b) (framed box) w v)
  leg_means = said_as (leg_first (raised z a) (raised z b) (framed box) w v) hit_out hit_in
      (leg_said (raised z a) (raised z b) (framed box) w v (omega arith))

-- ---- a fix at its own time, and its place in the box
pub record OwnIn (z : ℕ) (box : Box) (w v : ℕ) (a : Fix) (u : Time) : Type 0 where
  pub from : (a.t - z) * u.q ≤ u.p
  pub to : u.p ≤ (a.t - z) * u.q
  pub window : Open w v u
  pub inside : In box (own a)

module _ {i lo hi : ℤ} {I L H : ℕ} (ci : Counts i I) (cl : Counts lo L) (ch : Counts hi H) where
  rests_in : (lo *ℤ pos 1) ≤ℤ i → i ≤ℤ (hi *ℤ pos 1) → (L ≤ I) × (I ≤ H)
  rests_in h k = (omega (arith, simp (ci.is, cl.is, diffs) at h), omega (arith, simp (ci.is, ch.is, diffs) at k))

  rests_out : L ≤ I → I ≤ H → ((lo *ℤ pos 1) ≤ℤ i) × (i ≤ℤ (hi *ℤ pos 1))
  rests_out h k = (simp (ci.is, cl.is, diffs) (omega arith), simp (ci.is, ch.is, diffs) (omega arith))

module _ (z : ℕ) (box : Box) (w v : ℕ) (a : Fix) (pa : Bounded widest a) (nb : BoxInWidest box) where
  stands_out : (u : Time) → RestsIn (raised z a) (framed box) w v u → OwnIn z box w v a u
  unfolding own
  stands_out u h =
      let x = rests_out (counts a.x (placed_x pa)) (counts box.x_low nb.x_low) (counts box.x_high nb.x_high) h.in_x.above h.in_x.below in
      let y = rests_out (counts a.y (placed_y pa)) (counts box.y_low nb.y_low) (counts box.y_high nb.y_high) h.in_y.above h.in_y.below in
      record { from = h.on.from; to = omega (arith, h.on.to); window = h.window; inside = record { x_above = x.0; x_below = x.1; y_above = y.0; y_below = y.1 } }

  stands_in : (u : Time) → OwnIn z box w v a u → RestsIn (raised z a) (framed box) w v u
  unfolding own
  stands_in u h =
      let x = rests_in (counts a.x (placed_x pa)) (counts box.x_low nb.x_low) (counts box.x_high nb.x_high) h.inside.x_above h.inside.x_below in
      let y = rests_in (counts a.y (placed_y pa)) (counts box.y_low nb.y_low) (counts box.y_high nb.y_high) h.inside.y_above h.inside.y_below in
      record {
        on = record { from = h.from; to = omega (arith, h.to) };
        window = h.window;
        in_x = record { above = x.0; below = x.1 };
        in_y = record { above = y.0; below = y.1 };
      }

  pub alone_means : Said (OwnIn z box w v a) (leg_first (raised z a) (raised z a) (framed box) w v)
  alone_means = said_as (leg_first (raised z a) (raised z a) (framed box) w v) stands_out stands_in (alone_said (raised z a) (framed box) w v)

-- ---- what holds of the leg's own times, of the window's and of each axis's holds of those that are of all
pub leg_each : (P : Fraction → Type 0) (a b : Raised) (f : Frame) (w v : ℕ) → Each P (times a.t.0 (a.t.0 + (b.t.0 - a.t.0)) 1) → Each P (times w v 1)
    → Each P (axis_times a.t.0 (b.t.0 - a.t.0) a.x.0 b.x.0 f.left.0 f.right.0)
    → Each P (axis_times a.t.0 (b.t.0 - a.t.0) a.y.0 b.y.0 f.bottom.0 f.top.0) → Each P (leg_times a b f w v)
unfolding leg_times
leg_each P a b f w v l o x y = both_each P (both_each P (both_each P l o) x) y

-- ---- THE DENOMINATOR. Where no place of a leg is further from 0 than a limit, it is at most twice that limit: 32,000 for kind 1, and 320,000 for kind 2. (That it
-- is at least 1 is `some_den` of `First`.)
apart : {limit : ℕ} {i j : ℤ} {I J : ℕ} → Counts i I → Counts j J → neg_ℤ (pos limit) ≤ℤ i → j ≤ℤ pos limit → J - I ≤ 2 * limit
apart ci cj h k = omega (arith, simp (ci.is, diffs) at h, simp (cj.is, diffs) at k)

pub leg_over : (limit z : ℕ) (a b : Fix) (f : Frame) (w v : ℕ) → 1 ≤ limit → Bounded widest a → Bounded widest b → Bounded limit a → Bounded limit b
    → IfSome (λ (g : Fraction). g.den ≤ 2 * limit) (leg_first (raised z a) (raised z b) f w v)
unfolding leg_first
leg_over limit z a b f w v one qa qb pa pb =
    let P : Fraction → Type 0 = λ g. g.den ≤ 2 * limit in
    let some : 1 ≤ 2 * limit = omega arith in
    let ax = counts a.x (placed_x qa) in
    let bx = counts b.x (placed_x qb) in
    let ay = counts a.y (placed_y qa) in
    let by = counts b.y (placed_y qb) in
    let x = axis_over (a.t - z) (b.t - z - (a.t - z)) (offset_of a.x) (offset_of b.x) f.left.0 f.right.0 (2 * limit) some (apart ax bx pa.x_low pb.x_high) (apart bx ax pb.x_low pa.x_high) in
    let y = axis_over (a.t - z) (b.t - z - (a.t - z)) (offset_of a.y) (offset_of b.y) f.bottom.0 f.top.0 (2 * limit) some (apart ay by pa.y_low pb.y_high) (apart by ay pb.y_low pa.y_high) in
    first_each P (leg_each P (raised z a) (raised z b) f w v (record { of_first = some; of_last = some }) (record { of_first = some; of_last = some }) x y)
