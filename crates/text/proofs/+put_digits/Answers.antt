use Rattle.std.proofs.Common.{◌∙◌, ◌/◌, ap, length, arith, rules}
use Rattle.std.proofs.Math.Seq.{length-sets}
use Rattle.text.specs.Text.{decimal}
use Rattle.text.proofs.Laws.Text.{length_one, length_last, store_one, store_last}
use Rattle.text.proofs.+put_digits.Goals as goal

pub bounds-out-at : goal.bounds-out-at
bounds-out-at t c = let h = length_one c.args.n c.if-n-lt10.true in omega arith

pub returns-then-n-lt10 : goal.returns-then-n-lt10
returns-then-n-lt10 t c = let h = length_one c.args.n c.if-n-lt10.true in record { ends = omega arith; holds_it = store_one _ _ _ c.if-n-lt10.true }

pub put_digits-end-requires : goal.put_digits-end-requires
put_digits-end-requires t c = let h = length_last c.args.n c.if-n-lt10.false in (omega arith, omega arith)

pub bounds-out-end : goal.bounds-out-end
bounds-out-end t c =
    let h = length_last c.args.n c.if-n-lt10.false in
    let l = ap length c.put_digits-end.ensures.holds_it ∙ length-sets c.args.out.now c.args.at (decimal (c.args.n / 10)) in
    omega (arith, c.put_digits-end.ensures.ends)

pub overflow_add-result-2 : goal.overflow_add-result-2
overflow_add-result-2 t c =
    let h = length_last c.args.n c.if-n-lt10.false in
    let e = c.put_digits-end.ensures.ends in
    let l = ap length c.put_digits-end.ensures.holds_it ∙ length-sets c.args.out.now c.args.at (decimal (c.args.n / 10)) in
    search rules

pub returns : goal.returns
returns t c =
    let h = length_last c.args.n c.if-n-lt10.false in
    let e = c.put_digits-end.ensures.ends in
    record { ends = omega (arith, e); holds_it = store_last _ _ _ _ _ c.if-n-lt10.false e c.put_digits-end.ensures.holds_it }
