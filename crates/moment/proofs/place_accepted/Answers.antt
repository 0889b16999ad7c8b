use mathlib.Core.Path.{◌≡◌, refl, sym, ◌∙◌, ap}
use mathlib.Core.List.{List}
use Prim.Native.Nat.{ℕ, ◌*◌, ◌-◌, ◌≤◌}
use native.Mathlib.Omega.{arith}
use Rattle.std.proofs.lemmas.Bool.Decides.{nat_tests}
use Rattle.distance.specs.Fix.{Fix}
use Rattle.format.specs.Format.{count_field}
use Rattle.record.proofs.Laws.Accepted.{accepted_good}
use Rattle.record.specs.Laws.Trail.{fix_in}
use Rattle.moment.proofs.Laws.Placing.{place_11, place_early, place_late, place_heard}
use Rattle.moment.proofs.place_accepted.Goals as goal
use Rattle.moment.proofs.place_accepted.Goals.{After-new-end, Start, then-lt-via-then-lt, then-lt-via-else-lt+then-lt-2}

abbrev bytes : Start → List ℕ
bytes s = s.args.fixes.bytes.now

some_fix : (s : Start) → 1 ≤ s.args.fixes.count
some_fix s = rw s.requires.own.count_is (accepted_good (bytes s) s.requires.accepted).head.some_fix

-- the first and the last moment, and the one asked
starts : (c : After-new-end) → c.new-start.result.0 ≡ 1000 * (fix_in (bytes (goal.at-After-new-end c).Start) 0).t
starts c = let e = ap (λ (f : Fix). f.t) (rw c.requires.own.kind_is at c.at.ensures) in omega (arith, c.new-start.ensures, e)

ends : (c : After-new-end) → c.new-end.result.0 ≡ 1000 * (fix_in (bytes (goal.at-After-new-end c).Start) (count_field (bytes (goal.at-After-new-end c).Start) - 1)).t
ends c = let e = ap (λ (f : Fix). f.t) (rw (c.requires.own.kind_is, c.requires.own.count_is) at c.at-2.ensures) in omega (arith, c.new-end.ensures, e)

pub returns-then-thousandths-gt999 : goal.returns-then-thousandths-gt999
returns-then-thousandths-gt999 c = sym (place_11 _ _ _ c.requires.accepted c.if-thousandths-gt999.true)

pub at-requires : goal.at-requires
at-requires c = some_fix (goal.at-at-requires c).Start

pub overflow_sub-fixes : goal.overflow_sub-fixes
overflow_sub-fixes c = some_fix (goal.at-overflow_sub-fixes c).Start

pub at-requires-2 : goal.at-requires-2
at-requires-2 c = omega (arith, some_fix (goal.at-at-requires-2 c).Start)

pub returns-then-lt : goal.returns-then-lt
returns-then-lt c =
    let s = (goal.at-returns-then-lt c).After-new-end in
    elim c.then-lt.branch [
      | then-lt-via-then-lt w ↦ sym (place_early _ _ _ c.requires.accepted c.if-thousandths-gt999.false (grind (arith, nat_tests, w.if-lt.ensures, c.new-u.ensures, starts s)))
      | then-lt-via-else-lt+then-lt-2 w ↦ sym (place_late _ _ _ c.requires.accepted c.if-thousandths-gt999.false (grind (arith, nat_tests, w.if-lt.ensures, c.new-u.ensures, starts s)) (grind (arith, nat_tests, w.if-lt-2.ensures, c.new-u.ensures, ends s)))
    ]

pub returns : goal.returns
returns c =
    let s = (goal.at-returns c).After-new-end in
    c.place_on.ensures ∙ rw s.new-u.ensures refl
    ∙ sym (place_heard _ _ _ s.requires.accepted s.if-thousandths-gt999.false
    (grind (arith, nat_tests, c.if-lt.ensures, s.new-u.ensures, starts s))
    (grind (arith, nat_tests, c.if-lt-2.ensures, s.new-u.ensures, ends s)))
