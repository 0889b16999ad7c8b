-- Sets of fractional times that are closed intervals, and the first time of one. n/d ≤ p/q is n·q ≤ p·d throughout.
use Rattle.std.specs.Prelude.{Bool, true, false, ℕ, ◌*◌, ◌≤◌, leb}
use Rattle.std.proofs.Math.Bool.{cond}
use Rattle.std.proofs.Math.Option.{Option, some, none}
use Rattle.std.proofs.Common.{mul-le-mul_right, le_of_mul-le-mul_right, arith}
use Rattle.distance.specs.Place.{Time}
use Rattle.distance.specs.Integers.Tests.{Test, holds, fails, test}
use Rattle.legs.specs.declared.Fraction.{Fraction}
use Rattle.legs.specs.declared.Times.{Times}
use Rattle.legs.specs.Legs.{later_of, earlier_of, both, first_of}
use Rattle.legs.specs.Laws.Times.{Each}

-- n/d ≤ p/q ≤ a/b: the one law that cancels a factor
pub through : (n d p q a b : ℕ) → 1 ≤ q → n * q ≤ p * d → p * b ≤ a * q → n * b ≤ a * d
through n d p q a b h x y = le_of_mul-le-mul_right {k = q} (omega (arith, mul-le-mul_right b x, mul-le-mul_right d y)) h

-- u is not before the first time of t and not after the last
pub record OfTimes (t : Times) (u : Time) : Type 0 where
  pub from : t.first.num * u.q ≤ u.p * t.first.den
  pub until : u.p * t.last.den ≤ t.last.num * u.q

-- fractions that can be compared
abbrev pub Whole : Fraction → Type 0
Whole f = 1 ≤ f.den

abbrev pub Sound : Times → Type 0
Sound = Each Whole

-- where G holds, S holds just at the times of t; and S holds just at the times of t
pub record Cuts (G S : Time → Type 0) (t : Times) : Type 0 where
  pub sound : Sound t
  pub only : (u : Time) → G u → S u → OfTimes t u
  pub all : (u : Time) → G u → OfTimes t u → S u

pub record Exactly (S : Time → Type 0) (t : Times) : Type 0 where
  pub sound : Sound t
  pub only : (u : Time) → S u → OfTimes t u
  pub all : (u : Time) → OfTimes t u → S u

pub narrow : {G H S : Time → Type 0} {t : Times} → ((u : Time) → G u → H u) → Cuts H S t → Cuts G S t
narrow f x = record { sound = x.sound; only = (λ u g s. x.only u (f u g) s); all = (λ u g w. x.all u (f u g) w) }

pub same_times : {S R : Time → Type 0} {t : Times} → ((u : Time) → S u → R u) → ((u : Time) → R u → S u) → Exactly S t → Exactly R t
same_times f g x = record { sound = x.sound; only = (λ u r. x.only u (g u r)); all = (λ u w. f u (x.all u w)) }

-- ---- the later start and the earlier end
module _ (P : Fraction → Type 0) where
  one_of : (b : Bool) (f g : Fraction) → P f → P g → P (cond b f g)
  one_of true f g p q = p
  one_of false f g p q = q

  pub both_each : {s t : Times} → Each P s → Each P t → Each P (both s t)
  unfolding later_of earlier_of
  both_each {s} {t} x y = record {
    of_first = one_of (leb (t.first.num * s.first.den) (s.first.num * t.first.den)) s.first t.first x.of_first y.of_first;
    of_last = one_of (leb (s.last.num * t.last.den) (t.last.num * s.last.den)) s.last t.last x.of_last y.of_last;
  }

module _ {s t : Times} (x : Sound s) (y : Sound t) where
  both_in : (u : Time) → OfTimes s u → OfTimes t u → OfTimes (both s t) u
  unfolding later_of earlier_of
  both_in u v w = go (test (t.first.num * s.first.den) (s.first.num * t.first.den)) (test (s.last.num * t.last.den) (t.last.num * s.last.den))
    where
      go : {b c : Bool} → Test (t.first.num * s.first.den) (s.first.num * t.first.den) b → Test (s.last.num * t.last.den) (t.last.num * s.last.den) c
          → OfTimes (record { first = cond b s.first t.first; last = cond c s.last t.last }) u
      go (holds p) (holds q) = record { from = v.from; until = v.until }
      go (holds p) (fails q) = record { from = v.from; until = w.until }
      go (fails p) (holds q) = record { from = w.from; until = v.until }
      go (fails p) (fails q) = record { from = w.from; until = w.until }

  both_out : (u : Time) → OfTimes (both s t) u → OfTimes s u × OfTimes t u
  unfolding later_of earlier_of
  both_out u z = go (test (t.first.num * s.first.den) (s.first.num * t.first.den)) (test (s.last.num * t.last.den) (t.last.num * s.last.den)) z.from z.until
    where
      go : {b c : Bool} → Test (t.first.num * s.first.den) (s.first.num * t.first.den) b → Test (s.last.num * t.last.den) (t.last.num * s.last.den) c
          → (cond b s.first t.first).num * u.q ≤ u.p * (cond b s.first t.first).den → u.p * (cond c s.last t.last).den ≤ (cond c s.last t.last).num * u.q
          → OfTimes s u × OfTimes t u
      go (holds p) (holds q) f l = (record { from = f; until = l }, record { from = through _ _ _ _ _ _ x.of_first p f; until = through _ _ _ _ _ _ x.of_last l q })
      go (holds p) (fails q) f l = (record { from = f; until = through _ _ _ _ _ _ y.of_last l (omega arith) }, record { from = through _ _ _ _ _ _ x.of_first p f; until = l })
      go (fails p) (holds q) f l = (record { from = through _ _ _ _ _ _ y.of_first (omega arith) f; until = l }, record { from = f; until = through _ _ _ _ _ _ x.of_last l q })
      go (fails p) (fails q) f l = (record { from = through _ _ _ _ _ _ y.of_first (omega arith) f; until = through _ _ _ _ _ _ y.of_last l (omega arith) }, record { from = f; until = l })

-- both conditions hold just at the times of both
pub meet : {G S : Time → Type 0} {s t : Times} → Exactly G s → Cuts G S t → Exactly (λ u. G u × S u) (both s t)
meet x y = record {
  sound = both_each Whole x.sound y.sound;
  only = (λ u w. both_in x.sound y.sound u (x.only u w.0) (y.only u w.0 w.1));
  all = (λ u z.
      let w = both_out x.sound y.sound u z in
      let g = x.all u w.0 in (g, y.all u g w.1));
}

-- ---- the first time
abbrev pub time_of : (f : Fraction) → 1 ≤ f.den → Time
time_of f h = record { p = f.num; q = f.den; whole = h }

pub record First (S : Time → Type 0) (f : Fraction) : Type 0 where
  pub some_den : 1 ≤ f.den
  pub here : S (time_of f some_den)
  pub earliest : (u : Time) → S u → f.num * u.q ≤ u.p * f.den

-- what an answer says of the times of S
abbrev pub Said : (Time → Type 0) → Option Fraction → Type 0
Said S none = (u : Time) → S u → ⊥
Said S (some f) = First S f

pub said_first : {S : Time → Type 0} {t : Times} → Exactly S t → Said S (first_of t)
unfolding first_of
said_first {S} {t} x = go (test (t.first.num * t.last.den) (t.last.num * t.first.den))
  where
    go : {b : Bool} → Test (t.first.num * t.last.den) (t.last.num * t.first.den) b → Said S (cond b (some t.first) none)
    go (holds h) = record {
      some_den = x.sound.of_first;
      here = x.all (time_of t.first x.sound.of_first) (record { from = omega arith; until = omega arith });
      earliest = (λ u s. (x.only u s).from);
    }
    go (fails h) = (λ u s. let w = x.only u s in omega (arith, through _ _ _ _ _ _ u.whole w.from w.until))

pub said_as : {S R : Time → Type 0} (o : Option Fraction) → ((u : Time) → S u → R u) → ((u : Time) → R u → S u) → Said S o → Said R o
said_as none f g x = (λ u r. x u (g u r))
said_as (some t) f g x = record { some_den = x.some_den; here = f _ x.here; earliest = (λ u r. x.earliest u (g u r)) }

-- ---- what holds of both fractions holds of the first time that is given
abbrev pub IfSome : (Fraction → Type 0) → Option Fraction → Type 0
IfSome P none = Unit {0}
IfSome P (some f) = P f

pub first_each : (P : Fraction → Type 0) {t : Times} → Each P t → IfSome P (first_of t)
unfolding first_of
first_each P {t} x = go (leb (t.first.num * t.last.den) (t.last.num * t.first.den))
  where
    go : (b : Bool) → IfSome P (cond b (some t.first) none)
    go true = x.of_first
    go false = tt
