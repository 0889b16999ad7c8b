-- What the structs and enums of the code say, as the papers' numbers and values.
-- `declared.X` is the struct or enum X of the code, `TheVariants` the cases of an enum, and `.0` the number in a struct of one field.
use Rattle.std.specs.Prelude.{ℤ, Option as Optional}
use Rattle.std.proofs.Math.Option.{Option}
use Rattle.distance.specs.Options.{option_by}
use Rattle.distance.specs.Place.{Point, point_at, point_of}
use Rattle.record.specs.Answers.{Answer, answer_by}
use Rattle.anchors.specs.declared.State.{State}
use Rattle.anchors.specs.declared.Anchored.{Anchored}
use Rattle.anchors.specs.declared.count.Sixteenths.{Sixteenths}
use Rattle.anchors.specs.declared.count.Exact.{Exact}

-- What a reading answers, and the state that it leaves.
abbrev pub answered : Anchored → Answer Point
answered a = answer_by point_of a.place

abbrev pub state_left : Anchored → State
state_left a = a.state

-- A number of sixteenths, and two.
abbrev pub count_of : Optional Sixteenths → Option ℤ
count_of = option_by (λ (n : Sixteenths). n.0)

abbrev pub place_of : Exact → Point
place_of p = point_at p.x.0 p.y.0

abbrev pub exact_of : Optional Exact → Option Point
exact_of = option_by place_of
