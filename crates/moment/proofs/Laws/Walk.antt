-- The walk along a record's fixes to the first leg whose end isn't earlier than a moment of u thousandths of a second.
use Rattle.std.specs.Prelude.{◌≡◌, false, ◌&&◌, List, ◌∷◌, ℕ, ◌+◌, ◌*◌, ◌<◌, ◌≤◌, ltb}
use Rattle.std.proofs.Math.Path.{refl}
use Rattle.std.proofs.Common.{◌∙◌, arith}
use Rattle.std.proofs.Math.Bool.{and-false}
use borrow.Author.Tests.{le-leb, lt-leb, le-ltb}
use Rattle.distance.specs.Fix.{Fix, widest}
use Rattle.distance.specs.Place.{instant, own, leg, place_from, place}
use Rattle.distance.specs.Silence.{silent, strictly_between, silence_from, in_silence}
use Rattle.distance.proofs.Laws.Silence.{on_leg_from}
use Rattle.format.specs.Kinds.{Kind}
use Rattle.format.specs.Format.{fix_at, count_field, fixes}
use Rattle.record.specs.Answers.{gives}
use Rattle.record.proofs.Laws.Head.{Head}
use Rattle.record.proofs.Laws.Accepted.{accepted_good}
use Rattle.record.specs.Laws.Trail.{from, fix_in}
use Rattle.record.proofs.Laws.Trail.{CheckedTrail, from_next, from_end, fixes_from, next, leg_of, accepted_widest}
use Rattle.moment.specs.Moment.{beside}
use Rattle.moment.specs.Laws.Ranges.{OnLeg, Reached, unless_silent}

-- fix a stands before position k, and what is left is to be found from there on
pub record Walk (K : Kind) (b : List ℕ) (n u : ℕ) (a : Fix) (k : ℕ) : Type 0 where
  pub some : 1 ≤ k
  pub few : k ≤ n
  pub checked : CheckedTrail widest a (from (fix_at K b) k n)
  pub reached : 1000 * a.t ≤ u
  pub left : place (fixes b) (instant u) ≡ place_from a (from (fix_at K b) k n) (instant u)
  pub silence_left : in_silence (fixes b) (instant u) ≡ silence_from a (from (fix_at K b) k n) (instant u)

first_left : (b : List ℕ) (u : ℕ) → 1 ≤ count_field b → place (fixes b) (instant u) ≡ place_from (fix_in b 0) (from (fix_in b) 1 (count_field b)) (instant u)
unfolding place
first_left b u h = rw (fixes_from b h) refl

first_silence : (b : List ℕ) (u : ℕ) → 1 ≤ count_field b → in_silence (fixes b) (instant u) ≡ silence_from (fix_in b 0) (from (fix_in b) 1 (count_field b)) (instant u)
unfolding in_silence
first_silence b u h = rw (fixes_from b h) refl

pub walk_start : {K : Kind} {b : List ℕ} {n u : ℕ} {a : Fix} → Reached K b n u → a ≡ fix_at K b 0 → Walk K b n u a 1
walk_start {K} {b} {n} {u} {a} r e =
    let g : Head b = (accepted_good b r.is_accepted).head in
    rw (e, r.kind, r.count) (record {
      some = omega arith;
      few = g.some_fix;
      checked = accepted_widest b r.is_accepted;
      reached = r.from;
      left = first_left b u g.some_fix;
      silence_left = first_silence b u g.some_fix;
    })

module _ {K : Kind} {b : List ℕ} {n u : ℕ} {a z : Fix} {k : ℕ} (w : Walk K b n u a k) where
  module _ (h : k < n) (e : z ≡ fix_at K b k) where
    rest : from (fix_at K b) k n ≡ z ∷ from (fix_at K b) (k + 1) n
    rest = rw e (from_next (fix_at K b) k n h)

    ahead : CheckedTrail widest a (z ∷ from (fix_at K b) (k + 1) n)
    ahead = rw rest at w.checked

    -- the leg to z is the one ..
    pub walk_leg : u ≤ 1000 * z.t → OnLeg a z u
    walk_leg t = record { leg = leg_of a z (from (fix_at K b) (k + 1) n) ahead; from = w.reached; until = t }

    place_found : u ≤ 1000 * z.t → place (fixes b) (instant u) ≡ leg a z (instant u)
    unfolding place_from
    place_found t = w.left ∙ rw (rest, le-leb u (1000 * z.t) t) refl

    silence_found : u ≤ 1000 * z.t → in_silence (fixes b) (instant u) ≡ silent a && strictly_between a z (instant u)
    silence_found t = w.silence_left ∙ rw rest (on_leg_from (instant u) a z (from (fix_at K b) (k + 1) n) ahead.after (record { until = t }))

    pub walk_found : u ≤ 1000 * z.t
        → unless_silent (silent a && strictly_between a z (instant u)) (leg a z (instant u)) ≡ unless_silent (in_silence (fixes b) (instant u)) (place (fixes b) (instant u))
    walk_found t = rw (place_found t, silence_found t) refl

    -- .. or it is behind
    pub walk_next : 1000 * z.t < u → Walk K b n u z (k + 1)
    unfolding place_from silence_from
    walk_next t = record {
      some = omega arith;
      few = omega arith;
      checked = next a z (from (fix_at K b) (k + 1) n) ahead;
      reached = omega arith;
      left = w.left ∙ rw (rest, lt-leb u (1000 * z.t) t) refl;
      silence_left = w.silence_left ∙ rw (rest, le-ltb u (1000 * z.t) (omega arith), and-false (ltb (1000 * a.t) u), and-false (silent a)) refl;
    }

pub walk_end : {K : Kind} {b : List ℕ} {n u : ℕ} {a : Fix} {k : ℕ} → Walk K b n u a k → n ≤ k → gives (beside (own a)) ≡ unless_silent (in_silence (fixes b) (instant u)) (place (fixes b) (instant u))
unfolding place_from silence_from
walk_end {K} {b} {n} {u} {a} {k} w h =
    let e : k ≡ n = omega (arith, w.few) in
    let p : place (fixes b) (instant u) ≡ own a = w.left ∙ rw (e, from_end (fix_at K b) n) refl in
    let q : in_silence (fixes b) (instant u) ≡ false = w.silence_left ∙ rw (e, from_end (fix_at K b) n) refl in
    rw (p, q) refl
