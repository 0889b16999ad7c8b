-- The question's checks, and what it gives when none of them turns the call away.
use Rattle.std.specs.Prelude.{◌≡◌, Bool, true, false, ◌||◌, List, [], ◌∷◌, ◌++◌, ℕ, ◌*◌, ◌≤◌, ◌<◌, ltb, ℤ, nat_abs}
use Rattle.std.proofs.Math.Path.{refl}
use Rattle.std.proofs.Common.{sym, ◌∙◌, arith, ltb-false}
use Rattle.std.proofs.Math.Option.{Option, some, none}
use Rattle.distance.specs.Fix.{widest}
use Rattle.distance.specs.Place.{after_first, Point}
use Rattle.distance.specs.Integers.Tests.{neither}
use Rattle.format.specs.Format.{kind_of, count_field, fixes}
use Rattle.format.proofs.Laws.Kinds.{kind_of_is}
use Rattle.record.specs.Checks.{Check, bad_point, first, sentence, head_checks, fix_checks, read_refusal, IsAccepted, approaching, checks, outside}
use Rattle.record.specs.Answers.{Answer, gives, turns_away, answer}
use Rattle.record.proofs.Laws.First.{stops, passes, first_none, some_first, none_first, none_front, none_holds, NoneHolds, no_check, and_not, reading_alone, first_exactly}
use Rattle.record.proofs.Laws.Head.{asks}
use Rattle.record.proofs.Laws.Accepted.{accepted_good, times_good, inside_bound}
use Rattle.record.specs.Laws.Trail.{from, fix_in}
use Rattle.record.proofs.Laws.Trail.{from_next, from_end, fixes_from}
use Rattle.approach.specs.declared.Approach.{Approach}
use Rattle.approach.specs.Approach.{Comes, ToldNear, told_on, leg_near, near_from, first_near, asked_near, near_refusal, near_answer, MeansNear, NearMeans}
use Rattle.approach.specs.Laws.Ranges.{PointFits}
use Rattle.approach.proofs.Laws.Trail.{near_means, trail_comes}
use Rattle.approach.specs.Laws.Checking.{point_outside}

-- what a point and a radius that pass have
pub point_good : (limit : ℕ) → limit ≤ widest → (c : Point) (r : ℕ) → point_outside limit c r ≡ false → PointFits c r
point_good limit wide c r h =
    let a = neither (outside limit c.x) (outside limit c.y || ltb (2 * limit) r) h in
    let b = neither (outside limit c.y) (ltb (2 * limit) r) a.1 in
    record { cx = good c.x a.0; cy = good c.y b.0; near_enough = omega (arith, ltb-false (2 * limit) r b.1) }
  where
    good : (z : ℤ) → outside limit z ≡ false → nat_abs z ≤ widest
    good z k = omega (arith, inside_bound limit z k)

-- the check of the question itself
abbrev pub own_check : List Check
own_check = bad_point ∷ []

module _ (b : List ℕ) (c : Point) (r : ℕ) where
  abbrev pub asks_near : Check → Bool
  asks_near = asks b (asked_near c r)

  -- one of the reader's checks turns the bytes away
  pub near_refused : (k : ℕ) → read_refusal b ≡ some k → near_refusal b c r ≡ some k
  near_refused k h = some_first asks_near (head_checks ++ fix_checks) own_check k (reading_alone b (asked_near c r) ∙ h)

  point_says : asks_near bad_point ≡ point_outside (kind_of b).limit c r
  unfolding sentence
  point_says = refl

  module _ (accepted : IsAccepted b) where
    -- an accepted record leaves check 16
    pub one_left : first asks_near ((head_checks ++ fix_checks) ++ own_check) ≡ first asks_near own_check
    one_left = none_first asks_near (head_checks ++ fix_checks) own_check (reading_alone b (asked_near c r) ∙ accepted.accepted)

    pub near_16 : point_outside (kind_of b).limit c r ≡ true → near_refusal b c r ≡ some 16
    near_16 h = one_left ∙ stops asks_near bad_point [] (point_says ∙ h)

    pub near_none : point_outside (kind_of b).limit c r ≡ false → near_refusal b c r ≡ none
    near_none h = one_left ∙ passes asks_near bad_point [] (point_says ∙ h) ∙ first_none asks_near

-- ---- what a question that none of its checks turns away has
pub record Askable (b : List ℕ) (c : Point) (r : ℕ) : Type 0 where
  pub is_accepted : IsAccepted b
  pub point_fits : PointFits c r

pub near_passed : (b : List ℕ) (c : Point) (r : ℕ) → near_refusal b c r ≡ none → Askable b c r
near_passed b c r n =
    let front = none_front (asks_near b c r) (head_checks ++ fix_checks) own_check n in
    let accepted : IsAccepted b = record { accepted = sym (reading_alone b (asked_near c r)) ∙ front } in
    let p = own (none_holds (asks_near b c r) own_check (sym (none_first (asks_near b c r) (head_checks ++ fix_checks) own_check front) ∙ n)) in
    record { is_accepted = accepted; point_fits = point_good (kind_of b).limit (kind_of_is b).within_widest c r (sym (point_says b c r) ∙ p) }
  where
    own : NoneHolds (asks_near b c r) own_check → asks_near b c r bad_point ≡ false
    own (and_not p no_check) = p

-- ---- THE ANSWER ON LENT BYTES MEANS IT
accepted_means : (b : List ℕ) (c : Point) (r : ℕ) → IsAccepted b → MeansNear (fixes b) c r (first_near (fixes b) c r)
accepted_means b c r a =
    let g = accepted_good b a in
    rw (fixes_from b g.head.some_fix) (near_means _ _ c r (rw (fixes_from b g.head.some_fix) at (times_good (fixes b) g.trail_good.ordered)))

-- a yes is of a time at which the trail comes near
pub accepted_comes : (b : List ℕ) (c : Point) (r : ℕ) (A : Approach) → IsAccepted b → (t : ToldNear (fixes b) c r A.leg A.num A.den) → Comes (fixes b) c r (after_first (fixes b) A.num A.den t.some_denominator)
accepted_comes b c r A a t = trail_comes (fixes b) c r A.leg A.num A.den (times_good (fixes b) (accepted_good b a).trail_good.ordered) t

pub given_means : (b : List ℕ) (c : Point) (r : ℕ) → near_refusal b c r ≡ none → MeansNear (fixes b) c r (first_near (fixes b) c r)
given_means b c r n = accepted_means b c r (near_passed b c r n).is_accepted

pub near_answer_means : (b : List ℕ) (c : Point) (r : ℕ) → NearMeans b c r (near_answer b c r)
near_answer_means b c r = go (near_refusal b c r) refl
  where
    go : (o : Option ℕ) → near_refusal b c r ≡ o → NearMeans b c r (answer o (first_near (fixes b) c r))
    go none n = given_means b c r n
    go (some k) n = (first_exactly (asks_near b c r) k (checks approaching)).0 n

-- so do the two ways in which the call answers: a refusal, and what is computed where there is none
pub refused_means : (b : List ℕ) (c : Point) (r k : ℕ) → near_refusal b c r ≡ some k → (turns_away k ≡ near_answer b c r) × NearMeans b c r (turns_away k)
refused_means b c r k h = (rw h refl, (first_exactly (asks_near b c r) k (checks approaching)).0 h)

pub asked_means : (b : List ℕ) (c : Point) (r : ℕ) (a : Answer (Option Approach)) → a ≡ near_answer b c r → (a ≡ near_answer b c r) × NearMeans b c r a
asked_means b c r a h = (h, rw h (near_answer_means b c r))

-- what is computed where no check turns the question away: of a lone fix, and of more
module _ (b : List ℕ) (c : Point) (r : ℕ) (n : near_refusal b c r ≡ none) where
  some_fix : 1 ≤ count_field b
  some_fix = (accepted_good b (near_passed b c r n).is_accepted).head.some_fix

  pub lone_gives : count_field b ≡ 1 → near_answer b c r ≡ gives (told_on (fix_in b 0).t 0 (fix_in b 0) (fix_in b 0) (leg_near (fix_in b 0) (fix_in b 0) c r))
  unfolding first_near
  lone_gives e = rw (n, fixes_from b some_fix, e, from_end (fix_in b) 1) refl

  pub first_gives : 1 < count_field b → near_answer b c r ≡ gives (near_from (fix_in b 0).t 0 (fix_in b 0) (from (fix_in b) 1 (count_field b)) c r)
  unfolding first_near
  first_gives h = rw (n, fixes_from b some_fix, from_next (fix_in b) 1 (count_field b) h) refl
