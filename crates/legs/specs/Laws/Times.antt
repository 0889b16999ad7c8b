-- Sets of fractional times that are closed intervals, and the first time of one. n/d ≤ p/q is n·q ≤ p·d throughout.
use Rattle.legs.specs.declared.Fraction.{Fraction}
use Rattle.legs.specs.declared.Times.{Times}

-- P holds of both fractions
pub record Each (P : Fraction → Type 0) (t : Times) : Type 0 where
  pub of_first : P t.first
  pub of_last : P t.last
