use mathlib.Core.Path.{◌≡◌, refl, sym, ◌∙◌, ap}
use mathlib.Core.Bool.{true, false}
use mathlib.Core.List.{List}
use Prim.Native.Nat.{ℕ, ◌+◌, ◌<◌}
use native.Mathlib.Omega.{arith}
use lib.ListN.{length, get_or, take}
use Rattle.std.specs.Prelude.{Result, Ok, Err, is_err}
use Rattle.record.specs.declared.refusal.Refusal.{Refusal}
use Rattle.format.proofs.Laws.Numbers.{false_true}
use Rattle.aging.specs.Aging.{left_by, answered}
use Rattle.aging.specs.Answers.{counted}
use Rattle.questions.specs.Agings.{run, one_if_refused, call_of, calls_of}
use Rattle.questions.proofs.Laws.Agings.{at_most_one}
use Rattle.questions.proofs.Laws.Calls.{run_none, run_next, run_all, refused_first, refused_next, refused_all}
use Rattle.questions.proofs.agings.call_each.Goals as goal
use Rattle.questions.proofs.agings.call_each.Goals.{then-is_err, else-is_err}

pub loop-n-init : goal.loop-n-init
loop-n-init c =
    let s = c in
    (refl, run_none s.args.tables.now s.args.b.now s.args.calls.now, refused_first s.args.tables.now s.args.b.now s.args.calls.now, omega arith)

-- a call that answers with a refusal counts one, and no other
counts : (r : Result ℕ Refusal) → is_err r ≡ true → 1 ≡ one_if_refused (counted r)
counts (Ok n) h = absurd (false_true h)
counts (Err e) h = refl

counts_none : (r : Result ℕ Refusal) → is_err r ≡ false → 0 ≡ one_if_refused (counted r)
counts_none (Ok n) h = refl
counts_none (Err e) h = absurd (false_true (sym h))

pub loop-n-preserved : goal.loop-n-preserved
loop-n-preserved c =
    let tables = c.args.tables.now in
    let b₀ = c.args.b.now in
    let calls = c.args.calls.now in
    let k = c.loop-n.n-index in
    let inv = c.loop-n.invariant in
    let next = call_of tables (get_or calls k 0) in
    let in_range : k < length calls = omega arith in
    let so_far = run b₀ (calls_of tables (take k calls)) in
    let answer = c.call.ensures.0 ∙ ap (λ (l : List ℕ). answered l next) inv.1 in
    let one : c.if-is_err.refused ≡ c.loop-n.refused + one_if_refused (answered so_far next) = elim c.if-is_err.branch [
      | then-is_err w ↦ w.refused-is ∙ ap (λ (n : ℕ). c.loop-n.refused + n) (counts _ (sym c.is_err.ensures.value ∙ w.if-is_err.true) ∙ ap one_if_refused answer)
      | else-is_err w ↦
          let none : 0 ≡ one_if_refused (answered so_far next) = counts_none _ (sym c.is_err.ensures.value ∙ w.if-is_err.false) ∙ ap one_if_refused answer in
          omega (arith, none, w.refused-is)
    ] in
    let few = at_most_one (answered so_far next) in (
      c.call.auto.b ∙ inv.0,
      c.call.ensures.1 ∙ ap (λ (l : List ℕ). left_by l next) inv.1 ∙ run_next tables b₀ calls k in_range,
      one ∙ ap (λ (n : ℕ). n + one_if_refused (answered so_far next)) inv.2 ∙ refused_next tables b₀ calls k in_range,
      omega (arith, one, few, inv.3),
    )

pub returns : goal.returns
returns c =
    let s = c in
    let inv = c.loop-n.invariant in
    (inv.2 ∙ refused_all s.args.tables.now s.args.b.now s.args.calls.now c.loop-n.n-index (omega arith), inv.1 ∙ run_all s.args.tables.now s.args.b.now s.args.calls.now c.loop-n.n-index (omega arith))
