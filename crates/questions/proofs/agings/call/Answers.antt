use mathlib.Core.Path.{sym, ◌∙◌, ap}
use Prim.Native.Nat.{◌%◌}
use Rattle.aging.specs.Aging.{by_days, left_by, answered}
use Rattle.questions.proofs.Laws.Calls.{is_tolerance, is_days}
use Rattle.questions.proofs.agings.call.Goals as goal

pub returns-then-n-lt65536 : goal.returns-then-n-lt65536
returns-then-n-lt65536 c =
    let s = c in
    let is = sym (is_tolerance s.args.tables.now s.args.n c.if-n-lt65536.true) in
    let done = c.age.ensures in
    (done.answer ∙ ap (answered s.args.b.now) is, done.bytes ∙ ap (left_by s.args.b.now) is)

pub returns : goal.returns
returns c =
    let s = c in
    let is = ap (by_days (s.args.n % 65536)) c.lent-t.ensures ∙ sym (is_days s.args.tables.now s.args.n c.if-n-lt65536.false) in
    let done = c.age_by_days.ensures in
    (done.answer ∙ ap (answered s.args.b.now) is, done.bytes ∙ ap (left_by s.args.b.now) is)
