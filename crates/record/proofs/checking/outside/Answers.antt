use mathlib.Core.Path.{refl}
use mir.Facts.{to_z-of_z}
use mir.Syntax.{w32}
use mir.Val.{SFits}
use Rattle.distance.specs.Integers.Bounds.{BothSigns, both_signs}
use Rattle.record.proofs.Laws.Scan.{none_outside}
use borrow.Author.Rules.{rules}
use Rattle.record.proofs.checking.outside.Goals as goal
use Rattle.record.proofs.checking.outside.Goals.{Else-limit-gt2147483647, Start}

word : (s : Start) → SFits w32 s.args.c.0
word s = search rules

pub returns-then-limit-gt2147483647 : goal.returns-then-limit-gt2147483647
returns-then-limit-gt2147483647 c = none_outside _ _ (word (goal.at-returns-then-limit-gt2147483647 c).Start) c.if-limit-gt2147483647.true

ranges : (c : Else-limit-gt2147483647) → BothSigns c.args.limit
ranges c = both_signs c.if-limit-gt2147483647.false

pub overflow_sub-result : goal.overflow_sub-result
overflow_sub-result c = let k = ranges c in rw k.plus k.minus

pub returns : goal.returns
returns c =
    let s = (goal.at-returns c).Start in
    let z = word s in
    let k = ranges (goal.at-returns c).Else-limit-gt2147483647 in
    rw k.plus (simp (to_z-of_z, z, k.minus) (rw k.opposite refl))
