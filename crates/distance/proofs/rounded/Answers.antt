use mathlib.Core.Path.{◌≡◌, ◌∙◌, ap}
use Prim.Native.Nat.{ℕ}
use mathlib.Core.Bool.{true, false}
use lib.IntN.{pos, nat_abs}
use lib.Signed.{lt_z}
use mir.Facts.{to_z-of_z}
use Rattle.distance.specs.Rounding.{half_up}
use Rattle.distance.proofs.Laws.Ranges.{RoundedFits, rounded_fits, HalfUpFits, half_up_fits, below_rounded, above_rounded}
use borrow.Author.Rules.{rules}
use Rattle.distance.proofs.rounded.Goals as goal
use Rattle.distance.proofs.rounded.Goals.{After-half_up-whole, After-unsigned_abs, Else-n-lt0, Start, Then-n-lt0}

ranges : (s : Start) → RoundedFits s.args.n s.args.d
ranges s = rounded_fits (search rules) s.requires

magnitude_is : (c : After-unsigned_abs) → c.unsigned_abs.result ≡ nat_abs c.args.n
magnitude_is c = let k = ranges (goal.at-After-unsigned_abs c).Start in simp (to_z-of_z, k.n64) at c.unsigned_abs.ensures.value

-- the whole number before it gets its sign, and that it fits
whole_is : (c : After-half_up-whole) → c.half_up-whole.result ≡ pos (half_up (nat_abs c.args.n) c.args.d)
whole_is c = c.half_up-whole.ensures ∙ ap (λ (k : ℕ). pos (half_up k c.args.d)) (magnitude_is (goal.at-After-half_up-whole c).After-unsigned_abs)

whole_fits : (c : After-half_up-whole) → HalfUpFits (nat_abs c.args.n) c.args.d
whole_fits c = half_up_fits (ranges (goal.at-After-half_up-whole c).Start).roundable

-- on which side of 0 the fraction is
below : (c : Then-n-lt0) → lt_z c.args.n (pos 0) ≡ true
below c = let k = ranges (goal.at-Then-n-lt0 c).Start in simp (to_z-of_z, k.n64) at c.if-n-lt0.true

above : (c : Else-n-lt0) → lt_z c.args.n (pos 0) ≡ false
above c = let k = ranges (goal.at-Else-n-lt0 c).Start in simp (to_z-of_z, k.n64) at c.if-n-lt0.false

pub half_up-whole-requires : goal.half_up-whole-requires
half_up-whole-requires c = rw (magnitude_is c) (ranges (goal.at-half_up-whole-requires c).Start).roundable

pub overflow_sub-result : goal.overflow_sub-result
overflow_sub-result c = let k = ranges (goal.at-overflow_sub-result c).Start in let h = whole_fits (goal.at-overflow_sub-result c).After-half_up-whole in simp (whole_is (goal.at-overflow_sub-result c).After-half_up-whole, to_z-of_z, h.whole32) k.less32

pub returns-then-n-lt0 : goal.returns-then-n-lt0
returns-then-n-lt0 c =
    let s = (goal.at-returns-then-n-lt0 c).Start in
    let k = ranges s in
    let h = whole_fits (goal.at-returns-then-n-lt0 c).After-half_up-whole in
    simp (whole_is (goal.at-returns-then-n-lt0 c).After-half_up-whole, to_z-of_z, h.whole32, k.less32) (below_rounded s.args.n s.args.d (below c))

pub returns-else-n-lt0 : goal.returns-else-n-lt0
returns-else-n-lt0 c =
    let s = (goal.at-returns-else-n-lt0 c).Start in
    let h = whole_fits (goal.at-returns-else-n-lt0 c).After-half_up-whole in
    simp (whole_is (goal.at-returns-else-n-lt0 c).After-half_up-whole, to_z-of_z, h.whole32) (above_rounded s.args.n s.args.d (above c))
