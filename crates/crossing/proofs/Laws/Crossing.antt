-- THE COMPUTED CROSSING MEANS what the question means: told with the earliest time of the window, or denied.
use Rattle.std.specs.Prelude.{◌≡◌, refl, ◌⊎◌, Bool, true, false, cond, ◌&&◌, ℕ, ◌+◌, ◌*◌, ◌-◌, ◌≤◌, ◌<◌, ltb}
use Rattle.std.proofs.Common.{sym, ◌∙◌, ⊎_elim, mul-le-mul_right, mul-le-mul_left}
use Rattle.std.proofs.Math.Path.{ap}
use Rattle.std.proofs.Math.Logic.{inl, inr}
use Rattle.std.proofs.Math.Bool.{and-false}
use mathlib.Core.List.{List, [], ◌∷◌}
use Rattle.std.proofs.Math.Option.{Option, some, none}
use Rattle.std.proofs.Math.Nat.{le_of_lt}
use native.Mathlib.Omega.{arith}
use borrow.Author.Tests.{le-leb, le-ltb, lt-ltb}
use Rattle.distance.specs.Fix.{Fix, Bounded, After, later, widest, rising, last_of}
use Rattle.distance.specs.Place.{Time, own, leg, place_from, place}
use Rattle.distance.specs.Silence.{silent, strictly_between, silence_from, in_silence}
use Rattle.distance.specs.Box.{Box, In}
use Rattle.distance.proofs.Laws.Place.{leg_proper, own_proper, place_proper, leg_first, leg_last, place_fix}
use Rattle.distance.proofs.Laws.Silence.{on_leg_from}
use Rattle.distance.proofs.Laws.Box.{in_same}
use Rattle.distance.specs.Integers.Tests.{Test, holds, fails, test, neither}
use Rattle.legs.specs.declared.Fraction.{Fraction}
use Rattle.legs.specs.declared.Frame.{Frame}
use Rattle.legs.specs.Legs.{leg_first as leg_first_of, raised, framed}
use Rattle.record.specs.Answers.{or_else}
use Rattle.crossing.specs.Crossing.{followed, first_from, first_crossing, Crosses, Means}
use Rattle.legs.proofs.Laws.Times.{Said, IfSome, through, said_as}
use Rattle.format.proofs.Laws.Numbers.{false_true}
use Rattle.record.specs.Laws.Trail.{Leg}
use Rattle.record.proofs.Laws.Trail.{CheckedTrail, checked_widest, next, leg_of, first_bounded}
use Rattle.legs.specs.Laws.Legs.{BoxInWidest}
use Rattle.legs.proofs.Laws.Legs.{Open, LegIn, OwnIn, absolute, leg_means, alone_means, leg_over}
use Rattle.distance.proofs.Laws.Near.{same_swap}

-- ---- from fix a on: a time of the window, in seconds after z, at which the trail is in the box and not silent
pub record Inside (z : ℕ) (box : Box) (w v : ℕ) (a : Fix) (l : List Fix) (u : Time) : Type 0 where
  pub from : (a.t - z) * u.q ≤ u.p
  pub window : Open w v u
  pub heard : silence_from a l (absolute z u) ≡ false
  pub inside : In box (place_from a l (absolute z u))

-- ---- a leg, and the trail that follows it
module _ (z : ℕ) (box : Box) (w v : ℕ) (a b : Fix) (l : List Fix) where
  -- what the leg's own answer says: L holds of a time exactly if it is one of the leg at which the trail crosses, and any other is of the rest
  record OfLeg (L : Time → Type 0) : Type 0 where
    leg_inside : (u : Time) → L u → Inside z box w v a (b ∷ l) u
    until_end : (u : Time) → L u → u.p ≤ (b.t - z) * u.q
    leg_or_rest : (u : Time) → Inside z box w v a (b ∷ l) u → L u ⊎ Inside z box w v b l u

  -- the leg's answer, and where it has none that of the rest
  said_or : {L : Time → Type 0} → OfLeg L → ((u : Time) → Inside z box w v b l u → Inside z box w v a (b ∷ l) u) → (o r : Option Fraction) → Said L o → Said (Inside z box w v b l) r
      → Said (Inside z box w v a (b ∷ l)) (or_else o r)
  said_or x rest (some f) r p q = record {
    some_den = p.some_den;
    here = x.leg_inside _ p.here;
    earliest = (λ u h. ⊎_elim (p.earliest u)
        (λ k. through f.num f.den (b.t - z) 1 u.p u.q (omega arith) (omega (arith, x.until_end _ p.here)) (omega (arith, k.from))) (x.leg_or_rest u h));
  }
  said_or x rest none none p q = (λ u h. ⊎_elim (p u) (q u) (x.leg_or_rest u h))
  said_or x rest none (some f) p q = record {
    some_den = q.some_den;
    here = rest _ q.here;
    earliest = (λ u h. ⊎_elim (λ k. absurd (p u k)) (q.earliest u) (x.leg_or_rest u h));
  }

  module _ (base : z ≤ a.t) (rises : a.t < b.t) (after : After b.t l) where
    -- as absolute times
    end_abs : (u : Time) → u.p ≤ (b.t - z) * u.q → u.q * z + u.p ≤ u.q * b.t
    end_abs u h = let e : b.t ≡ z + (b.t - z) = omega arith in omega (arith, ap (λ (t : ℕ). u.q * t) e)

    end_rel : (u : Time) → u.q * z + u.p ≤ u.q * b.t → u.p ≤ (b.t - z) * u.q
    end_rel u h = let e : b.t ≡ z + (b.t - z) = omega arith in omega (arith, ap (λ (t : ℕ). u.q * t) e)

    past_rel : (u : Time) → u.q * b.t ≤ u.q * z + u.p → (b.t - z) * u.q ≤ u.p
    past_rel u h = let e : b.t ≡ z + (b.t - z) = omega arith in omega (arith, ap (λ (t : ℕ). u.q * t) e)

    past_abs : (u : Time) → (b.t - z) * u.q ≤ u.p → u.q * b.t ≤ u.q * z + u.p
    past_abs u h = let e : b.t ≡ z + (b.t - z) = omega arith in omega (arith, ap (λ (t : ℕ). u.q * t) e)

    start_rel : (u : Time) → (b.t - z) * u.q ≤ u.p → (a.t - z) * u.q ≤ u.p
    start_rel u h = omega (arith, mul-le-mul_right {m = a.t - z} {n = b.t - z} u.q (omega arith))

    -- at the fix b itself the leg and what follows it have b's own place
    at_fix : (u : Time) → u.q * z + u.p ≡ u.q * b.t → In box (place_from b l (absolute z u)) → In box (leg a b (absolute z u))
    unfolding place
    at_fix u e i =
        let t = absolute z u in
        let own_in : In box (own b) = in_same box i (place_fix t [] b l (rising after) e) (place_proper t (rising after)) (own_proper b) in
        in_same box own_in (same_swap (leg_last a b t e)) (own_proper b) (leg_proper a b t rises)

    fix_at_end : (u : Time) → u.q * z + u.p ≡ u.q * b.t → In box (leg a b (absolute z u)) → In box (place_from b l (absolute z u))
    unfolding place
    fix_at_end u e i =
        let t = absolute z u in
        let own_in : In box (own b) = in_same box i (leg_last a b t e) (leg_proper a b t rises) (own_proper b) in
        in_same box own_in (same_swap (place_fix t [] b l (rising after) e)) (own_proper b) (place_proper t (rising after))

    rest_inside : (u : Time) → Inside z box w v b l u → Inside z box w v a (b ∷ l) u
    unfolding place_from silence_from
    rest_inside u h = record {
      from = start_rel u h.from;
      window = h.window;
      heard = rw (le-ltb (u.q * z + u.p) (u.q * b.t) (past_abs u h.from), and-false (ltb (u.q * a.t) (u.q * z + u.p)), and-false (silent a)) h.heard;
      inside = go (test (u.q * z + u.p) (u.q * b.t));
    }
      where
        go : {c : Bool} → Test (u.q * z + u.p) (u.q * b.t) c → In box (cond c (leg a b (absolute z u)) (place_from b l (absolute z u)))
        go (holds k) = at_fix u (omega (arith, past_abs u h.from)) h.inside
        go (fails k) = h.inside

    -- a time of the rest, of those of the trail
    of_rest : (u : Time) → Inside z box w v a (b ∷ l) u → u.q * b.t ≤ u.q * z + u.p → In box (place_from b l (absolute z u)) → Inside z box w v b l u
    unfolding silence_from
    of_rest u h k i = record { from = past_rel u k; window = h.window; heard = (neither (silent a && strictly_between a b (absolute z u)) (silence_from b l (absolute z u)) h.heard).1; inside = i }

    -- ---- a leg with no silence: all of it
    heard_leg : silent a ≡ false → OfLeg (LegIn z box w v a b)
    unfolding place_from
    heard_leg s = record {
      leg_inside = (λ u h. record {
        from = h.from;
        window = h.window;
        heard = on_leg_from (absolute z u) a b l (later rises after) (record { until = end_abs u h.to }) ∙ rw s refl;
        inside = rw (le-leb _ _ (end_abs u h.to)) h.inside;
      });
      until_end = (λ u h. h.to);
      leg_or_rest = (λ u h. go u h (test (u.q * z + u.p) (u.q * b.t)) h.inside);
    }
      where
        go : (u : Time) → Inside z box w v a (b ∷ l) u → {c : Bool} → Test (u.q * z + u.p) (u.q * b.t) c → In box (cond c (leg a b (absolute z u)) (place_from b l (absolute z u)))
            → LegIn z box w v a b u ⊎ Inside z box w v b l u
        go u h (holds k) i = inl (record { from = h.from; to = end_rel u k; window = h.window; inside = i })
        go u h (fails k) i = inr (of_rest u h (omega arith) i)

    -- ---- a silent leg: its start, and its end is of the rest
    at_start : (u : Time) → (a.t - z) * u.q ≤ u.p → u.p ≤ (a.t - z) * u.q → u.q * z + u.p ≡ u.q * a.t
    at_start u h k = let e : a.t ≡ z + (a.t - z) = omega arith in omega (arith, ap (λ (t : ℕ). u.q * t) e)

    before_end : (u : Time) → u.q * z + u.p ≡ u.q * a.t → u.q * z + u.p ≤ u.q * b.t
    before_end u e = omega (arith, mul-le-mul_left u.q (le_of_lt rises))

    start_rel_to : (u : Time) → u.q * z + u.p ≤ u.q * a.t → u.p ≤ (a.t - z) * u.q
    start_rel_to u h = let e : a.t ≡ z + (a.t - z) = omega arith in omega (arith, ap (λ (t : ℕ). u.q * t) e)

    silent_leg : silent a ≡ true → OfLeg (OwnIn z box w v a)
    unfolding place_from
    silent_leg s = record {
      leg_inside = (λ u h.
          let e = at_start u h.from h.to in
          record {
            from = h.from;
            window = h.window;
            heard = on_leg_from (absolute z u) a b l (later rises after) (record { until = before_end u e }) ∙ rw (le-ltb (u.q * a.t) (u.q * z + u.p) (omega arith)) (and-false (silent a));
            inside = rw (le-leb _ _ (before_end u e)) (in_same box h.inside (same_swap (leg_first a b (absolute z u) e)) (own_proper a) (leg_proper a b (absolute z u) rises));
          });
      until_end = (λ u h. end_rel u (before_end u (at_start u h.from h.to)));
      leg_or_rest = (λ u h. go u h (test (u.q * z + u.p) (u.q * b.t)) (test (u.q * z + u.p) (u.q * a.t)) h.inside);
    }
      where
        -- not strictly between the two
        ended : (u : Time) → Inside z box w v a (b ∷ l) u → u.q * a.t < u.q * z + u.p → u.q * b.t ≤ u.q * z + u.p
        ended u h k = at_least (test (u.q * b.t) (u.q * z + u.p))
          where
            at_least : {c : Bool} → Test (u.q * b.t) (u.q * z + u.p) c → u.q * b.t ≤ u.q * z + u.p
            at_least (holds g) = g
            at_least (fails g) =
                absurd (false_true (sym h.heard ∙ on_leg_from (absolute z u) a b l (later rises after) (record { until = le_of_lt g })
                ∙ rw (s, lt-ltb (u.q * a.t) (u.q * z + u.p) k, lt-ltb (u.q * z + u.p) (u.q * b.t) g) refl))

        go : (u : Time) → Inside z box w v a (b ∷ l) u → {c d : Bool} → Test (u.q * z + u.p) (u.q * b.t) c → Test (u.q * z + u.p) (u.q * a.t) d
            → In box (cond c (leg a b (absolute z u)) (place_from b l (absolute z u))) → OwnIn z box w v a u ⊎ Inside z box w v b l u
        go u h (fails k) t i = inr (of_rest u h (omega arith) i)
        go u h (holds k) (fails t) i = let g = ended u h t in inr (of_rest u h g (fix_at_end u (omega arith) i))
        go u h (holds k) (holds t) i =
            let to = start_rel_to u t in
            inl (record { from = h.from; to = to; window = h.window; inside = in_same box i (leg_first a b (absolute z u) (at_start u h.from to)) (leg_proper a b (absolute z u) rises) (own_proper a) })

-- a lone fix has its own place, in a window that ends with it
own_inside : (z : ℕ) (box : Box) (w v : ℕ) (a : Fix) (u : Time) → OwnIn z box w v a u → Inside z box w v a [] u
unfolding place_from silence_from
own_inside z box w v a u h = record { from = h.from; window = h.window; heard = refl; inside = h.inside }

inside_own : (z : ℕ) (box : Box) (w v : ℕ) (a : Fix) → v ≤ a.t - z → (u : Time) → Inside z box w v a [] u → OwnIn z box w v a u
unfolding place_from
inside_own z box w v a ends u h = record { from = h.from; to = omega (arith, h.window.closed, mul-le-mul_right u.q ends); window = h.window; inside = h.inside }

-- ---- the whole trail from a on, in a window that ends with it
from_means : (z : ℕ) (box : Box) (w v : ℕ) (a : Fix) (l : List Fix) → z ≤ a.t → CheckedTrail widest a l → v ≤ (last_of a l).t - z → BoxInWidest box
    → Said (Inside z box w v a l) (first_from z a l (framed box) w v)
unfolding first_from last_of
from_means z box w v a [] base c ends nb =
    said_as (leg_first_of (raised z a) (raised z a) (framed box) w v) (own_inside z box w v a) (inside_own z box w v a ends) (alone_means z box w v a (first_bounded a [] c) nb)
from_means z box w v a (b ∷ l) base c ends nb = go (silent a) refl (from_means z box w v b l (omega (arith, r)) k ends nb)
  where
    g : Leg widest a b
    g = leg_of a b l c

    k : CheckedTrail widest b l
    k = next a b l c

    r : a.t < b.t
    r = g.rises

    go : (s : Bool) → silent a ≡ s → Said (Inside z box w v b l) (first_from z b l (framed box) w v)
        → Said (Inside z box w v a (b ∷ l)) (or_else (leg_first_of (raised z a) (raised z (cond s a b)) (framed box) w v) (first_from z b l (framed box) w v))
    go true s rest = said_or z box w v a b l (silent_leg z box w v a b l base r k.after s) (rest_inside z box w v a b l base r k.after) (leg_first_of (raised z a) (raised z a) (framed box) w v) (first_from z b l (framed box) w v) (alone_means z box w v a g.bounded_a nb) rest
    go false s rest = said_or z box w v a b l (heard_leg z box w v a b l base r k.after s) (rest_inside z box w v a b l base r k.after) (leg_first_of (raised z a) (raised z b) (framed box) w v) (first_from z b l (framed box) w v) (leg_means z box w v a b base r g.bounded_a g.bounded_b nb) rest

-- ---- THE DENOMINATOR of the trail's answer is that of a leg's
or_over : (P : Fraction → Type 0) (o r : Option Fraction) → IfSome P o → IfSome P r → IfSome P (or_else o r)
or_over P (some f) r p q = p
or_over P none r p q = q

bounded_followed : {limit : ℕ} (a b : Fix) → Bounded limit a → Bounded limit b → Bounded limit (followed a b)
bounded_followed {limit} a b p q = go (silent a)
  where
    go : (s : Bool) → Bounded limit (cond s a b)
    go true = p
    go false = q

from_over : (limit z : ℕ) (a : Fix) (l : List Fix) (f : Frame) (w v : ℕ) → 1 ≤ limit → CheckedTrail widest a l → CheckedTrail limit a l
    → IfSome (λ (g : Fraction). g.den ≤ 2 * limit) (first_from z a l f w v)
unfolding first_from
from_over limit z a [] f w v one k c =
    let p = first_bounded a [] k in
    let q = first_bounded a [] c in
    leg_over limit z a a f w v one p p q q
from_over limit z a (b ∷ l) f w v one k c =
    let g = leg_of a b l k in
    let h = leg_of a b l c in
    or_over (λ (g : Fraction). g.den ≤ 2 * limit) (leg_first_of (raised z a) (raised z (followed a b)) f w v) (first_from z b l f w v)
    (leg_over limit z a (followed a b) f w v one g.bounded_a (bounded_followed a b g.bounded_a g.bounded_b) h.bounded_a (bounded_followed a b h.bounded_a h.bounded_b))
    (from_over limit z b l f w v one (next a b l k) (next a b l c))

-- ---- on the fixes' own clock
-- the window is of the trail's times
pub record GoodWindow (s e first last : ℕ) : Type 0 where
  pub from : first ≤ s
  pub order : s ≤ e
  pub to : e ≤ last

module _ (box : Box) (s e : ℕ) (a : Fix) (l : List Fix) (q : GoodWindow s e a.t (last_of a l).t) where
  abbrev z : ℕ
  z = a.t

  start_abs : (u : Time) → (s - z) * u.q ≤ u.p → u.q * s ≤ u.q * z + u.p
  start_abs u h = let k : s ≡ z + (s - z) = omega (arith, q.from) in omega (arith, ap (λ (t : ℕ). u.q * t) k)

  stop_abs : (u : Time) → u.p ≤ (e - z) * u.q → u.q * z + u.p ≤ u.q * e
  stop_abs u h = let k : e ≡ z + (e - z) = omega (arith, q.from, q.order) in omega (arith, ap (λ (t : ℕ). u.q * t) k)

  crosses_out : (u : Time) → Inside z box (s - z) (e - z) a l u → Crosses (a ∷ l) box s e (absolute z u)
  unfolding place in_silence
  crosses_out u h = record { opened = record { from = start_abs u h.window.opened }; closed = record { until = stop_abs u h.window.closed }; heard = record { outside_silences = h.heard }; inside = h.inside }

  -- a time of the window, in seconds after the first fix
  abbrev relative : Time → Time
  relative u = record { p = u.p - u.q * z; q = u.q; whole = u.whole }

  not_before : (u : Time) → Crosses (a ∷ l) box s e u → u.q * z ≤ u.p
  not_before u h = omega (arith, h.opened.from, mul-le-mul_left u.q q.from)

  back : (u : Time) → Crosses (a ∷ l) box s e u → absolute z (relative u) ≡ u
  back u h =
      let k : u.q * z + (u.p - u.q * z) ≡ u.p = omega (arith, not_before u h) in
      ap (λ (p : ℕ). record { p = p; q = u.q; whole = u.whole }) k

  crosses_in : (u : Time) → Crosses (a ∷ l) box s e u → Inside z box (s - z) (e - z) a l (relative u)
  unfolding place in_silence
  crosses_in u h =
      let k : s ≡ z + (s - z) = omega (arith, q.from) in
      let m : e ≡ z + (e - z) = omega (arith, q.from, q.order) in
      let n : z - z ≡ 0 = omega arith in
      record {
        from = rw n (omega arith);
        window = record {
          opened = omega (arith, ap (λ (t : ℕ). u.q * t) k, h.opened.from, not_before u h);
          closed = omega (arith, ap (λ (t : ℕ). u.q * t) m, h.closed.until, not_before u h);
        };
        heard = rw (back u h) h.heard.outside_silences;
        inside = rw (back u h) h.inside;
      }

  means : (limit : ℕ) (o : Option Fraction) → IfSome (λ (g : Fraction). g.den ≤ 2 * limit) o → Said (Inside z box (s - z) (e - z) a l) o → Means limit (a ∷ l) box s e o
  means limit none d x = (λ u h. x (relative u) (crosses_in u h))
  means limit (some f) d x = record {
    some_denominator = x.some_den;
    small_denominator = d;
    crosses = crosses_out (record { p = f.num; q = f.den; whole = x.some_den }) x.here;
    earliest = (λ u h. let k = x.earliest (relative u) (crosses_in u h) in omega (arith, k, mul_sub_le u h f.den));
  }
    where
      mul_sub_le : (u : Time) → Crosses (a ∷ l) box s e u → (d : ℕ) → (u.p - u.q * z) * d + u.q * z * d ≡ u.p * d
      mul_sub_le u h d = let k : u.p - u.q * z + u.q * z ≡ u.p = omega (arith, not_before u h) in omega (arith, ap (λ (p : ℕ). p * d) k)

-- THE LAW, of places within any limit that is not above the widest
pub crossing_means : (limit : ℕ) (a : Fix) (l : List Fix) (box : Box) (s e : ℕ) → 1 ≤ limit → limit ≤ widest → CheckedTrail limit a l → BoxInWidest box → GoodWindow s e a.t (last_of a l).t
    → Means limit (a ∷ l) box s e (first_crossing (a ∷ l) box s e)
unfolding first_crossing
crossing_means limit a l box s e one inside c nb q =
    let k = checked_widest inside c in
    let w = s - a.t in
    let v = e - a.t in
    means box s e a l q limit (first_from a.t a l (framed box) w v) (from_over limit a.t a l (framed box) w v one k c)
    (from_means a.t box w v a l (omega arith) k (omega (arith, q.to)) nb)
