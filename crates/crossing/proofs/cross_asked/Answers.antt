use mathlib.Core.Path.{◌≡◌, refl, sym, ◌∙◌, ap, subst}
use mathlib.Core.List.{List}
use mathlib.Core.Option.{Option}
use Prim.Native.Nat.{ℕ, ◌-◌}
use native.Mathlib.Omega.{arith}
use Rattle.distance.specs.Integers.Differences.{sub_of_pos}
use Rattle.distance.specs.Fix.{Fix}
use Rattle.format.specs.Format.{kind_of, count_field}
use Rattle.record.specs.Checks.{IsAccepted}
use Rattle.record.specs.Answers.{gives}
use Rattle.record.proofs.Laws.Accepted.{accepted_good}
use Rattle.record.proofs.Laws.Trail.{first_second, last_second, span_is}
use Rattle.legs.specs.declared.Fraction.{Fraction}
use Rattle.legs.specs.Laws.Legs.{BoxInWidest}
use Rattle.legs.proofs.Laws.Ranges.{low_framed}
use Rattle.crossing.specs.Answers.{box_of}
use Rattle.crossing.proofs.Laws.Crossing.{GoodWindow}
use Rattle.format.proofs.Laws.Kinds.{kind_of_is}
use Rattle.crossing.proofs.Laws.Checking.{window_good, box_good, Askable, cross_passed, cross_gives}
use Rattle.crossing.proofs.cross_asked.Goals as goal
use Rattle.crossing.proofs.cross_asked.Goals.{After-at, After-since-closes, After-since-opens, Start}

abbrev bytes : Start → List ℕ
bytes s = s.args.b.now

passed : (s : Start) → Askable (bytes s) s.args.w.start.0 s.args.w.end.0 (box_of s.args.e)
passed s = cross_passed (bytes s) _ _ (box_of s.args.e) s.requires

window : (s : Start) → GoodWindow s.args.w.start.0 s.args.w.end.0 (first_second (bytes s)) (last_second (bytes s))
window s = window_good _ _ _ _ (passed s).window_passed

in_limit : (s : Start) → BoxInWidest (box_of s.args.e)
in_limit s = box_good (kind_of (bytes s)).limit (kind_of_is (bytes s)).within_widest (box_of s.args.e) (passed s).box_passed

pub fixes_in-fixes-requires : goal.fixes_in-fixes-requires
fixes_in-fixes-requires c = (passed (goal.at-fixes_in-fixes-requires c).Start).is_accepted

pub at-requires : goal.at-requires
at-requires c =
    let s = (goal.at-at-requires c).Start in
    rw c.fixes_in-fixes.ensures.count_is (accepted_good (bytes s) (passed s).is_accepted).head.some_fix

-- the first fix's second, and the window's ends after it
zero : (c : After-at) → c.at.result.t.0 ≡ first_second (bytes (goal.at-After-at c).Start)
zero c =
    let f = c.fixes_in-fixes.ensures in
    ap (λ (f : Fix). f.t) (rw (f.kind_is, f.bytes_are) at c.at.ensures)

pub since-opens-requires : goal.since-opens-requires
since-opens-requires c =
    let b = (goal.at-since-opens-requires c).Start in
    let w = window b in
    let s = span_is (bytes b) (passed b).is_accepted in
    (omega (arith, w.from, zero (goal.at-since-opens-requires c).After-at), omega (arith, w.order, w.to, zero (goal.at-since-opens-requires c).After-at))

pub since-closes-requires : goal.since-closes-requires
since-closes-requires c =
    let b = (goal.at-since-closes-requires c).Start in
    let w = window b in
    let s = span_is (bytes b) (passed b).is_accepted in
    (omega (arith, w.from, w.order, zero (goal.at-since-closes-requires c).After-at), omega (arith, w.order, w.to, zero (goal.at-since-closes-requires c).After-at))

opens : (c : After-since-opens) → c.since-opens.result.0 ≡ c.args.w.start.0 - first_second (bytes (goal.at-After-since-opens c).Start)
opens c =
    let w = window (goal.at-After-since-opens c).Start in
    sub_of_pos w.from (rw (← zero (goal.at-After-since-opens c).After-at) c.since-opens.ensures)

closes : (c : After-since-closes) → c.since-closes.result.0 ≡ c.args.w.end.0 - first_second (bytes (goal.at-After-since-closes c).Start)
closes c =
    let w = window (goal.at-After-since-closes c).Start in
    sub_of_pos (omega (arith, w.from, w.order)) (rw (← zero (goal.at-After-since-closes c).After-at) c.since-closes.ensures)

pub framed-requires : goal.framed-requires
framed-requires c = in_limit (goal.at-framed-requires c).Start

pub first_crossing-requires : goal.first_crossing-requires
first_crossing-requires c =
    let s = (goal.at-first_crossing-requires c).Start in
    let f = c.fixes_in-fixes.ensures in
    let e = sym f.bytes_are in
    record {
      is_accepted = subst (λ (b : List ℕ). IsAccepted b) e (passed s).is_accepted;
      kind = f.kind_is ∙ ap kind_of e;
      count = f.count_is ∙ ap count_field e;
      frame = rw c.framed.ensures (low_framed (box_of s.args.e) (in_limit s));
    }

pub returns : goal.returns
returns c =
    let s = (goal.at-returns c).Start in
    let f = c.fixes_in-fixes.ensures in
    ap (λ (o : Option Fraction). gives o)
    (c.first_crossing.ensures
    ∙ rw (f.kind_is, f.count_is, f.bytes_are, c.framed.ensures, closes (goal.at-returns c).After-since-closes, opens (goal.at-returns c).After-since-opens) refl)
    ∙ sym (cross_gives (bytes s) _ _ (box_of s.args.e) s.requires)
