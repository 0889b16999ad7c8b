use mathlib.Core.Path.{◌≡◌, sym, ◌∙◌}
use mathlib.Core.Option.{none}
use native.Mathlib.Omega.{arith}
use Rattle.format.specs.Format.{kind_of, count_field, fix_at}
use Rattle.record.specs.Checks.{first, head_checks, fix_checks, asked_of, nothing}
use Rattle.format.proofs.Laws.Each.{each_first}
use Rattle.record.proofs.Laws.First.{none_first, some_first}
use Rattle.record.proofs.Laws.Answers.{passed_on}
use Rattle.record.proofs.Laws.Head.{says, head_passed}
use Rattle.record.proofs.checking.check.Goals as goal
use Rattle.record.proofs.checking.check.Goals.{In_ok-head_says}

-- below the head's checks the head is accepted
head_none : (c : In_ok-head_says) → first (says c.args.b.now) head_checks ≡ none
head_none c = sym c.in_ok-head_says.ensures

pub scan_all-requires : goal.scan_all-requires
scan_all-requires c =
    let h = head_passed c.args.b.now (head_none (goal.at-scan_all-requires c).In_ok-head_says) in
    let e = c.fixes_of.ensures.count_is in
    (omega (arith, h.some_fix), omega (arith, h.few_fixes))

pub returns-in_err-head_says : goal.returns-in_err-head_says
returns-in_err-head_says c =
    let b = c.args.b.now in
    passed_on c.from_residual.result _ c.from_residual.ensures.1 ∙ sym (some_first (says b) head_checks fix_checks _ (sym c.in_err-head_says.ensures))

pub returns : goal.returns
returns c =
    let b = c.args.b.now in
    let none = head_none (goal.at-returns c).In_ok-head_says in
    let s = c.fixes_of.ensures in
    c.scan_says.ensures (kind_of b) (asked_of b nothing) _ _ (each_first (fix_at (kind_of b) b) 0 (count_field b) (head_passed b none).some_fix)
    (rw (s.kind_is, s.count_is, s.bytes_are) at c.scan_all.ensures)
    ∙ sym (none_first (says b) head_checks fix_checks none)
