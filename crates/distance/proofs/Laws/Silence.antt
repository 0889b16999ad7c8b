-- Where a trail is silent: leg by leg, at which times of a leg, and of a changed trail as of the trail itself.
use Rattle.std.specs.Prelude.{◌≡◌, ◌⊎◌, ◌↔◌, Bool, true, false, ◌||◌, ◌&&◌, ◌*◌, ◌<◌, ◌≤◌, ltb}
use Rattle.std.proofs.Math.Path.{refl}
use Rattle.std.proofs.Common.{sym, ◌∙◌, ap, inl, inr, true≢false, le_of_lt, arith, le-ltb, lt-ltb, ltb-true, eqb-true}
use Rattle.std.proofs.Math.Bool.{or-false, and-false}
use Rattle.std.proofs.lemmas.Bool.{false≢true}
use mathlib.Core.List.{List, [], ◌∷◌, ◌++◌, map}
use Rattle.std.proofs.Math.Nat.{mul-le-mul_left}
use Rattle.distance.specs.Fix.{Fix, After, none_after, later, Rising, rising}
use Rattle.distance.specs.Place.{Time, From, Until}
use Rattle.distance.specs.Silence.{silent, strictly_between, silence_from, in_silence, OutsideSilences}
use Rattle.distance.specs.Laws.All.{All, all_more}
use Rattle.distance.proofs.Laws.Place.{after_last, after_rest}
use Rattle.distance.specs.Integers.Tests.{Test, holds, fails, test, neither, both}

-- ---- to be outside silences is to be strictly inside none, and nothing else is asked
pub outside_exactly : {l : List Fix} {u : Time} → OutsideSilences l u ↔ (in_silence l u ≡ false)
outside_exactly = (λ h. h.outside_silences, λ h. record { outside_silences = h })

-- ---- WHAT IT IS TO BE OUTSIDE SILENCES, in plain inequalities: of each leg that silence follows on, the time is not after its start or not before its end ..
not_between : (a b : Fix) (u : Time) → strictly_between a b u ≡ false → (u.p ≤ u.q * a.t) ⊎ (u.q * b.t ≤ u.p)
not_between a b u h = go (test u.p (u.q * a.t)) (test (u.q * b.t) u.p)
  where
    go : {x y : Bool} → Test u.p (u.q * a.t) x → Test (u.q * b.t) u.p y → (u.p ≤ u.q * a.t) ⊎ (u.q * b.t ≤ u.p)
    go (holds s) t = inl s
    go (fails s) (holds t) = inr t
    go (fails s) (fails t) = absurd (true≢false (sym (rw (lt-ltb (u.q * a.t) u.p s, lt-ltb u.p (u.q * b.t) t) refl) ∙ h))

from_gives : (u : Time) (n : Fix) (l : List Fix) (a b : Fix) (r : List Fix) → silence_from n (l ++ a ∷ b ∷ r) u ≡ false → a.silence ≡ 1 → (u.p ≤ u.q * a.t) ⊎ (u.q * b.t ≤ u.p)
unfolding silence_from
from_gives u n [] a b r h s = not_between a b u (neither (strictly_between a b u) (silence_from b r u) (rw s at (neither (silent n && strictly_between n a u) (silent a && strictly_between a b u || silence_from b r u) h).1)).0
from_gives u n (m ∷ l) a b r h s = from_gives u m l a b r (neither (silent n && strictly_between n m u) (silence_from m (l ++ a ∷ b ∷ r) u) h).1 s

pub outside_gives : (u : Time) (l : List Fix) (a b : Fix) (r : List Fix) → OutsideSilences (l ++ a ∷ b ∷ r) u → a.silence ≡ 1 → (u.p ≤ u.q * a.t) ⊎ (u.q * b.t ≤ u.p)
unfolding in_silence silence_from
outside_gives u [] a b r h s = not_between a b u (neither (strictly_between a b u) (silence_from b r u) (rw s at h.outside_silences)).0
outside_gives u (n ∷ l) a b r h s = from_gives u n l a b r h.outside_silences s

-- .. and where it isn't outside, it is strictly inside such a leg
pub record SilentLeg (l : List Fix) (u : Time) : Type 0 where
  pub before : List Fix
  pub start : Fix
  pub end : Fix
  pub after : List Fix
  pub of_trail : l ≡ before ++ start ∷ end ∷ after
  pub follows : start.silence ≡ 1
  pub from : u.q * start.t < u.p
  pub until : u.p < u.q * end.t

pub inside_gives : (l : List Fix) (u : Time) → in_silence l u ≡ true → SilentLeg l u
unfolding in_silence silence_from
inside_gives [] u h = absurd (false≢true h)
inside_gives (a ∷ []) u h = absurd (false≢true h)
inside_gives (a ∷ b ∷ l) u h = go (silent a) (strictly_between a b u) refl refl h (λ t. further (inside_gives (b ∷ l) u t))
  where
    further : SilentLeg (b ∷ l) u → SilentLeg (a ∷ b ∷ l) u
    further g = record {
      before = a ∷ g.before;
      start = g.start;
      end = g.end;
      after = g.after;
      of_trail = ap (λ (m : List Fix). a ∷ m) g.of_trail;
      follows = g.follows;
      from = g.from;
      until = g.until;
    }

    go : (x y : Bool) → silent a ≡ x → strictly_between a b u ≡ y → x && y || silence_from b l u ≡ true → (silence_from b l u ≡ true → SilentLeg (a ∷ b ∷ l) u) → SilentLeg (a ∷ b ∷ l) u
    go true true s t h rest =
        let p = both (ltb (u.q * a.t) u.p) (ltb u.p (u.q * b.t)) t in
        record { before = []; start = a; end = b; after = l; of_trail = refl; follows = eqb-true a.silence 1 s; from = ltb-true _ _ p.0; until = ltb-true _ _ p.1 }
    go true false s t h rest = rest h
    go false y s t h rest = rest h

-- ---- fixes that no silence follows
pub none_in_silence : (l : List Fix) (u : Time) → All (λ (f : Fix). f.silence ≡ 0) l → in_silence l u ≡ false
unfolding in_silence silence_from
none_in_silence [] u h = refl
none_in_silence (a ∷ []) u h = refl
none_in_silence (a ∷ b ∷ l) u (all_more h t) = rw h (none_in_silence (b ∷ l) u t)

-- ---- times that rise: at a time that isn't after the first fix nothing is silent yet, ..
module _ (u : Time) where
  not_yet : (a : Fix) {l : List Fix} → After a.t l → u.p ≤ u.q * a.t → silence_from a l u ≡ false
  unfolding silence_from
  not_yet a none_after h = refl
  not_yet a (later {a = b} {l} g k) h =
      let n : u.p ≤ u.q * b.t = omega (arith, mul-le-mul_left u.q (le_of_lt g)) in
      rw (le-ltb (u.q * a.t) u.p h, and-false (silent a)) (not_yet b k n)

  -- .. so that on the leg from a to b the trail is silent strictly between the two, if silence follows a
  pub on_leg_from : (a b : Fix) (r : List Fix) → After a.t (b ∷ r) → Until b.t u → silence_from a (b ∷ r) u ≡ silent a && strictly_between a b u
  unfolding silence_from
  on_leg_from a b r (later g k) t = rw (not_yet b k t.until) (or-false (silent a && strictly_between a b u))

  -- and what stands before a is passed over
  silence_past : (a b : Fix) (r : List Fix) (n : Fix) (l : List Fix) → After n.t (l ++ a ∷ b ∷ r) → From a.t u → silence_from n (l ++ a ∷ b ∷ r) u ≡ silence_from a (b ∷ r) u
  unfolding silence_from
  silence_past a b r n [] (later g k) f = rw (le-ltb u.p (u.q * a.t) f.from, and-false (ltb (u.q * n.t) u.p), and-false (silent n)) refl
  silence_past a b r n (m ∷ l) (later g k) f =
      let e : u.q * m.t ≤ u.p = omega (arith, f.from, mul-le-mul_left u.q (le_of_lt (after_last a (b ∷ r) l k))) in
      rw (le-ltb u.p (u.q * m.t) e, and-false (ltb (u.q * n.t) u.p), and-false (silent n)) (silence_past a b r m l k f)

  -- ON A LEG OF A TRAIL, ends included: silent strictly between its two fixes, if silence follows the first
  pub silence_on_leg : (l : List Fix) (a b : Fix) (r : List Fix) → Rising (l ++ a ∷ b ∷ r) → From a.t u → Until b.t u → in_silence (l ++ a ∷ b ∷ r) u ≡ silent a && strictly_between a b u
  unfolding in_silence
  silence_on_leg [] a b r (rising k) f t = on_leg_from a b r k t
  silence_on_leg (n ∷ l) a b r (rising k) f t = silence_past a b r n l k f ∙ on_leg_from a b r (after_rest a (b ∷ r) l k) t

-- ---- a trail whose fixes are each changed by f, at a time v that compares with their times as u did
module _ (f : Fix → Fix) (u v : Time) (same_silence : (a : Fix) → (f a).silence ≡ a.silence) (same_after : (a : Fix) → ltb (v.q * (f a).t) v.p ≡ ltb (u.q * a.t) u.p)
    (same_before : (a : Fix) → ltb v.p (v.q * (f a).t) ≡ ltb u.p (u.q * a.t)) where
  from_changed : (a : Fix) (l : List Fix) → silence_from (f a) (map f l) v ≡ silence_from a l u
  unfolding silence_from
  from_changed a [] = refl
  from_changed a (b ∷ l) = rw (same_silence a, same_after a, same_before b, from_changed b l) refl

  pub silence_changed : (l : List Fix) → in_silence (map f l) v ≡ in_silence l u
  unfolding in_silence
  silence_changed [] = refl
  silence_changed (a ∷ l) = from_changed a l
