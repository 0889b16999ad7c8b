use Prim.Native.Nat.{◌≤◌}
use mathlib.Core.Path.{◌≡◌, ◌∙◌}
use native.Mathlib.Omega.{arith}
use lib.ListN.{length}
use Rattle.record.specs.Answers.{number_of}
use Rattle.text.specs.Text.{decimal}
use Rattle.text.proofs.Laws.Listing.{Within, begun, goes_on, room_in}
use Rattle.text.proofs.Laws.Text.{decimal_short, stored_then, refusal_line_is}
use Rattle.text.proofs.Listing.put_refusal.Goals as goal
use Rattle.text.proofs.Listing.put_refusal.Goals.{After-from, After-put_decimal, After-put_word}

-- a refusal's number has at most three digits
three : (c : After-from) → length (decimal c.from.result) ≤ 3
three c = decimal_short 2 _ (omega (arith, c.from.ensures, c.number.type_inv))

-- how far each piece goes at most
to_number : (c : After-put_word) → Within 8 c.args.self.now c.put_word.new.self
to_number c = goes_on 8 begun c.put_word.ensures.text (omega (arith, c.put_word.ensures.text.ends))

to_end : (c : After-put_decimal) → Within 11 c.args.self.now c.put_decimal.new.self
to_end c =
    let at = goal.at-After-put_decimal c in
    goes_on 3 (to_number at.After-put_word) c.put_decimal.ensures.text (omega (arith, c.put_decimal.ensures.text.ends, three at.After-from))

pub put_decimal-requires : goal.put_decimal-requires
put_decimal-requires c =
    let at = goal.at-put_decimal-requires c in
    room_in _ (to_number at.After-put_word) (omega (arith, c.requires, three at.After-from))

pub put_word-requires-2 : goal.put_word-requires-2
put_word-requires-2 c = room_in 1 (to_end (goal.at-put_word-requires-2 c).After-put_decimal) c.requires

pub returns-clause-text : goal.returns-clause-text
returns-clause-text c =
    let e : c.from.result ≡ number_of c.args.refusal = c.from.ensures ∙ c.number.ensures in
    let number = rw e at c.put_decimal.ensures.text in
    rw (refusal_line_is _) (stored_then c.put_word.ensures.text (stored_then number c.put_word-2.ensures.text))

pub returns-clause-short : goal.returns-clause-short
returns-clause-short c = omega (arith, c.put_word-2.ensures.text.ends, (to_end (goal.at-returns-clause-short c).After-put_decimal).short)
