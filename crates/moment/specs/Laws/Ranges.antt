-- What the functions ask of their callers and of the code's widths, one list of facts for each function, proved once.
use Rattle.std.specs.Prelude.{◌≡◌, Bool, true, false, List, ℕ, ◌*◌, ◌≤◌}
use Rattle.distance.specs.Fix.{Fix, widest}
use Rattle.distance.specs.Place.{Place}
use Rattle.format.specs.Kinds.{Kind}
use Rattle.format.specs.Format.{kind_of, count_field}
use Rattle.record.specs.Checks.{IsAccepted}
use Rattle.record.specs.Answers.{Answer, gives, turns_away}
use Rattle.moment.specs.Moment.{Standing, beside}
use Rattle.record.specs.Laws.Trail.{Leg, fix_in}

-- what the question gives where check 21 alone is left: the place, unless the moment is silent
abbrev pub unless_silent : Bool → Place → Answer Standing
unless_silent true P = turns_away 21
unless_silent false P = gives (beside P)

-- u thousandths are on the leg from a to b
pub record OnLeg (a b : Fix) (u : ℕ) : Type 0 where
  pub leg : Leg widest a b
  pub from : 1000 * a.t ≤ u
  pub until : u ≤ 1000 * b.t

-- u thousandths are not before the first fix of an accepted record of n fixes, its kind K
pub record Reached (K : Kind) (b : List ℕ) (n u : ℕ) : Type 0 where
  pub is_accepted : IsAccepted b
  pub kind : K ≡ kind_of b
  pub count : n ≡ count_field b
  pub from : 1000 * (fix_in b 0).t ≤ u
