use mathlib.Core.Path.{◌≡◌, refl, sym, ◌∙◌, ap}
use mathlib.Core.Bool.{Bool, false}
use mathlib.Core.List.{List}
use Prim.Native.Nat.{ℕ, ◌≤◌}
use native.Mathlib.Omega.{arith}
use Rattle.distance.specs.Fix.{Fix}
use Rattle.format.specs.Kinds.{Kind}
use Rattle.format.specs.Format.{kind_of}
use Rattle.record.proofs.Laws.Accepted.{accepted_good}
use Rattle.record.proofs.Laws.Trail.{first_second, last_second}
use Rattle.crossing.specs.Answers.{box_of}
use Rattle.crossing.specs.Laws.Search.{window_outside, edges_outside}
use Rattle.crossing.proofs.Laws.Checking.{cross_13, cross_14, cross_none}
use Rattle.crossing.proofs.question_says.Goals as goal
use Rattle.crossing.proofs.question_says.Goals.{After-edges_outside, After-window_outside, Else-window_outside, Start}

abbrev bytes : Start → List ℕ
bytes s = s.args.fixes.bytes.now

some_fix : (s : Start) → 1 ≤ s.args.fixes.count
some_fix s = rw s.requires.own.count_is (accepted_good (bytes s) s.requires.accepted).head.some_fix

-- what is asked: the window of the trail's times, and the box of its kind's limit
abbrev window_asked : Start → Bool
window_asked s = window_outside s.args.w.start.0 s.args.w.end.0 (first_second (bytes s)) (last_second (bytes s))

abbrev box_asked : Start → Bool
box_asked s = edges_outside (kind_of (bytes s)).limit (box_of s.args.e)

-- what the two tests said
window_said : (c : After-window_outside) → c.window_outside.result ≡ window_asked (goal.at-After-window_outside c).Start
window_said c =
    let first = ap (λ (f : Fix). f.t) (rw c.requires.own.kind_is at c.at.ensures) in
    let last = ap (λ (f : Fix). f.t) (rw (c.requires.own.kind_is, c.requires.own.count_is) at c.at-2.ensures) in
    c.window_outside.ensures ∙ rw (first, last) refl

box_said : (c : After-edges_outside) → c.edges_outside.result ≡ box_asked (goal.at-After-edges_outside c).Start
box_said c =
    c.edges_outside.ensures ∙ ap (λ (l : ℕ). edges_outside l (box_of c.args.e)) (c.limit_of.ensures ∙ ap (λ (K : Kind). K.limit) c.requires.own.kind_is)

window_passed : (c : Else-window_outside) → window_asked (goal.at-Else-window_outside c).Start ≡ false
window_passed c = sym (window_said (goal.at-Else-window_outside c).After-window_outside) ∙ c.if-window_outside.false

pub at-requires : goal.at-requires
at-requires c = some_fix (goal.at-at-requires c).Start

pub overflow_sub-fixes : goal.overflow_sub-fixes
overflow_sub-fixes c = some_fix (goal.at-overflow_sub-fixes c).Start

pub at-requires-2 : goal.at-requires-2
at-requires-2 c = omega (arith, some_fix (goal.at-at-requires-2 c).Start)

pub returns-then-window_outside : goal.returns-then-window_outside
returns-then-window_outside c =
    let s = (goal.at-returns-then-window_outside c).Start in
    sym (cross_13 (bytes s) _ _ (box_of s.args.e) s.requires.accepted (sym (window_said (goal.at-returns-then-window_outside c).After-window_outside) ∙ c.if-window_outside.true))

pub returns-then-edges_outside : goal.returns-then-edges_outside
returns-then-edges_outside c =
    let s = (goal.at-returns-then-edges_outside c).Start in
    sym (cross_14 (bytes s) _ _ (box_of s.args.e) s.requires.accepted (window_passed (goal.at-returns-then-edges_outside c).Else-window_outside) (sym (box_said (goal.at-returns-then-edges_outside c).After-edges_outside) ∙ c.if-edges_outside.true))

pub returns : goal.returns
returns c =
    let s = (goal.at-returns c).Start in
    sym (cross_none (bytes s) _ _ (box_of s.args.e) s.requires.accepted (window_passed (goal.at-returns c).Else-window_outside) (sym (box_said (goal.at-returns c).After-edges_outside) ∙ c.if-edges_outside.false))
