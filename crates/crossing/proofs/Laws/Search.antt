-- The search along a record's fixes for the first leg that crosses.
use Rattle.std.specs.Prelude.{◌≡◌, Bool, true, false, cond, List, ℕ, ◌+◌, ◌-◌, ◌≤◌, ◌<◌}
use Rattle.std.proofs.Math.Path.{refl}
use Rattle.std.proofs.Common.{◌∙◌, arith}
use Rattle.std.proofs.Math.Option.{some, none}
use Rattle.format.specs.Kinds.{Kind}
use Rattle.format.specs.Format.{fix_at}
use Rattle.legs.specs.declared.Fraction.{Fraction}
use Rattle.legs.specs.declared.Raised.{Raised}
use Rattle.legs.specs.declared.Frame.{Frame}
use Rattle.legs.specs.Laws.Ranges.{Reach, Low, LowFrame, LegFits}
use Rattle.legs.proofs.Laws.Ranges.{low_raised}
use Rattle.legs.specs.Legs.{leg_first, raised}
use Rattle.record.specs.Answers.{or_else}
use Rattle.crossing.specs.Crossing.{first_from}
use Rattle.record.specs.Laws.Trail.{from}
use Rattle.record.proofs.Laws.Trail.{from_next, from_end, Walk, walk_start, walk_bounded, walk_leg, walk_within, walk_next}
use Rattle.distance.specs.Fix.{Fix}
use Rattle.distance.specs.Silence.{silent}
use Rattle.crossing.specs.Laws.Search.{Seekable}
use Rattle.legs.specs.declared.Offset.{Offset}

-- either of two fixes, raised
raised_either : (z : ℕ) (t : Bool) (a b : Fix) → raised z (cond t a b) ≡ cond t (raised z a) (raised z b)
raised_either z true a b = refl
raised_either z false a b = refl

-- what is left of the search: a is the fix before position k
pub record Seek (K : Kind) (b : List ℕ) (n : ℕ) (f : Frame) (w v : ℕ) (a : Raised) (k : ℕ) : Type 0 where
  pub walk : Walk K b n k
  pub frame : LowFrame f
  pub here : a ≡ raised (fix_at K b 0).t (fix_at K b (k - 1))
  pub left : first_from (fix_at K b 0).t (fix_at K b 0) (from (fix_at K b) 1 n) f w v ≡ first_from (fix_at K b 0).t (fix_at K b (k - 1)) (from (fix_at K b) k n) f w v

begun : {K : Kind} {b : List ℕ} {n : ℕ} {f : Frame} → Seekable K b n f → Walk K b n 1
begun r = walk_start r.is_accepted r.kind r.count

pub first_reach : {K : Kind} {b : List ℕ} {n : ℕ} {f : Frame} → Seekable K b n f → Reach (fix_at K b 0).t (fix_at K b 0)
first_reach r = record { from = omega arith; to = omega arith; bounded = walk_bounded (begun r) }

pub seek_start : {K : Kind} {b : List ℕ} {n : ℕ} {f : Frame} {a : Raised} (w v : ℕ) → Seekable K b n f → a ≡ raised (fix_at K b 0).t (fix_at K b 0) → Seek K b n f w v a 1
seek_start w v r e = record { walk = begun r; frame = r.frame; here = e; left = refl }

module _ {K : Kind} {b : List ℕ} {n : ℕ} {f : Frame} {w v : ℕ} {a : Raised} {k : ℕ} (x : Seek K b n f w v a k) where
  abbrev z : ℕ
  z = (fix_at K b 0).t

  abbrev fix : ℕ → Fix
  fix = fix_at K b

  low : Low a
  low = rw x.here (low_raised z (fix (k - 1)) (walk_bounded x.walk))

  module _ (h : k < n) where
    pub seek_reach : Reach (fix_at K b 0).t (fix_at K b k)
    seek_reach = let t = walk_within x.walk h in record { from = t.0; to = t.1; bounded = (walk_leg x.walk h).bounded_b }

    module _ {r : Raised} (e : r ≡ raised (fix_at K b 0).t (fix_at K b k)) where
      pub seek_leg : {q : Raised} → q ≡ cond (silent (fix_at K b (k - 1))) a r → LegFits a q f
      seek_leg {q} s =
          let g = walk_leg x.walk h in
          rw s (go (silent (fix (k - 1))) (record { order = rw (x.here, e) (omega (arith, g.rises)); start = low; end = rw e (low_raised z (fix k) g.bounded_b); frame = x.frame }))
        where
          go : (t : Bool) → LegFits a r f → LegFits a (cond t a r) f
          go true fits = record { order = omega arith; start = low; end = low; frame = x.frame }
          go false fits = fits

      step : first_from z (fix (k - 1)) (from fix k n) f w v ≡ or_else (leg_first a (cond (silent (fix (k - 1))) a r) f w v) (first_from z (fix k) (from fix (k + 1) n) f w v)
      unfolding first_from
      step = rw (from_next fix k n h, x.here, e, raised_either z (silent (fix (k - 1))) (fix (k - 1)) (fix k)) refl

      pub seek_found : (o : Fraction) → {q : Raised} → q ≡ cond (silent (fix_at K b (k - 1))) a r → leg_first a q f w v ≡ some o → first_from (fix_at K b 0).t (fix_at K b 0) (from (fix_at K b) 1 n) f w v ≡ some o
      seek_found o s g = x.left ∙ step ∙ rw (← s, g) refl

      pub seek_next : {q : Raised} → q ≡ cond (silent (fix_at K b (k - 1))) a r → leg_first a q f w v ≡ none → Seek K b n f w v r (k + 1)
      seek_next s g =
          let m : k + 1 - 1 ≡ k = omega arith in
          record { walk = walk_next x.walk h; frame = x.frame; here = rw m e; left = rw m (x.left ∙ step ∙ rw (← s, g) refl) }

  -- the fix before position k has its bytes
  pub before_within : k - 1 < n
  before_within = omega (arith, x.walk.some_leg, x.walk.few)

  pub seek_last : LegFits a a f
  seek_last = record { order = omega arith; start = low; end = low; frame = x.frame }

  pub seek_end : n ≤ k → first_from (fix_at K b 0).t (fix_at K b 0) (from (fix_at K b) 1 n) f w v ≡ leg_first a a f w v
  unfolding first_from
  seek_end h = let e : k ≡ n = omega (arith, x.walk.few) in x.left ∙ rw (x.here, e, from_end fix n) refl

-- a box of four offsets is the one of their numbers
pub frame_parts : (l r b t : Offset) (i j k m : ℕ) → l.0 ≡ i → r.0 ≡ j → b.0 ≡ k → t.0 ≡ m
    → ◌≡◌ {A = Frame} (record { left = l; right = r; bottom = b; top = t }) (record { left = record { 0 = i }; right = record { 0 = j }; bottom = record { 0 = k }; top = record { 0 = m } })
frame_parts l r b t i j k m e f g h = rw (← e, ← f, ← g, ← h) refl
