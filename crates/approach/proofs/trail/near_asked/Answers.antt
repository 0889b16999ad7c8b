use mathlib.Core.Path.{◌≡◌, refl, sym, ◌∙◌, ap, subst}
use mathlib.Core.List.{List}
use Prim.Native.Nat.{ℕ}
use native.Mathlib.Omega.{arith}
use Rattle.distance.specs.Fix.{Fix, fix_of}
use Rattle.distance.specs.Place.{point_of}
use Rattle.format.specs.Format.{kind_of, count_field}
use Rattle.record.specs.Answers.{gives}
use Rattle.record.specs.Checks.{IsAccepted}
use Rattle.record.specs.Laws.Trail.{fix_in}
use Rattle.record.proofs.Laws.Accepted.{accepted_good}
use Rattle.approach.specs.Approach.{told_on, leg_near}
use Rattle.approach.proofs.Laws.Checking.{Askable, near_passed, lone_gives, first_gives}
use Rattle.approach.proofs.Laws.Search.{lone_leg}
use Rattle.approach.proofs.trail.near_asked.Goals as goal
use Rattle.approach.proofs.trail.near_asked.Goals.{After-at, Start}

passed : (s : Start) → Askable s.args.b.now (point_of s.args.c) s.args.r.0
passed s = near_passed s.args.b.now (point_of s.args.c) s.args.r.0 s.requires

pub fixes_in-fixes-requires : goal.fixes_in-fixes-requires
fixes_in-fixes-requires c = (passed (goal.at-fixes_in-fixes-requires c).Start).is_accepted

-- the lone fix is the record's
alone : (c : After-at) → fix_of c.at.result ≡ fix_in c.args.b.now 0
alone c = rw (c.fixes_in-fixes.ensures.kind_is, c.fixes_in-fixes.ensures.bytes_are) at c.at.ensures

pub lone_near-requires : goal.lone_near-requires
lone_near-requires c =
    let p = passed (goal.at-lone_near-requires c).Start in
    rw (alone c) (lone_leg (record { is_accepted = p.is_accepted; kind = refl; count = refl; asked = p.point_fits }))

pub returns-then-fixes-eq1 : goal.returns-then-fixes-eq1
returns-then-fixes-eq1 c =
    let one = sym c.fixes_in-fixes.ensures.count_is ∙ c.if-fixes-eq1.true in
    let told = ap (λ (f : Fix). told_on f.t 0 f f (leg_near f f (point_of c.args.c) c.args.r.0)) (alone (goal.at-returns-then-fixes-eq1 c).After-at) in
    ap gives (c.lone_near.ensures ∙ told) ∙ sym (lone_gives c.args.b.now (point_of c.args.c) c.args.r.0 c.requires one)

pub first_near-requires : goal.first_near-requires
first_near-requires c =
    let p = passed (goal.at-first_near-requires c).Start in
    let f = c.fixes_in-fixes.ensures in
    let e = sym f.bytes_are in
    record {
      is_accepted = subst (λ (b : List ℕ). IsAccepted b) e p.is_accepted;
      kind = f.kind_is ∙ ap kind_of e;
      count = f.count_is ∙ ap count_field e;
      asked = p.point_fits;
    }

pub returns : goal.returns
returns c =
    let p = passed (goal.at-returns c).Start in
    let f = c.fixes_in-fixes.ensures in
    let some = (accepted_good c.args.b.now p.is_accepted).head.some_fix in
    ap gives c.first_near.ensures
    ∙ rw (f.kind_is, f.count_is, f.bytes_are) (sym (first_gives c.args.b.now (point_of c.args.c) c.args.r.0 c.requires (omega (arith, some, f.count_is, c.if-fixes-eq1.false))))
