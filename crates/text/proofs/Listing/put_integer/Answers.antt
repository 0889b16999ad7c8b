use mathlib.Core.Path.{◌≡◌, ap, ◌∙◌}
use mathlib.Core.List.{List, ◌∷◌, [], ◌++◌}
use Prim.Native.Nat.{ℕ}
use native.Mathlib.Omega.{arith}
use lib.ListN.{length, length-append}
use mir.Facts.{to_z-of_z}
use mir.Syntax.{w32}
use mir.Val.{SFits}
use borrow.Author.Rules.{rules}
use Rattle.text.specs.Text.{decimal, integer}
use Rattle.text.specs.Listing.{Adds}
use Rattle.text.proofs.Laws.Listing.{room_after}
use Rattle.text.proofs.Laws.Text.{sign_below, no_sign, nothing_stored, stored_then}
use Rattle.text.proofs.Listing.put_integer.Goals as goal
use Rattle.text.proofs.Listing.put_integer.Goals.{Start, Then-c-lt0, After-unsigned_abs, then-c-lt0, else-c-lt0}

fits : (s : Start) → SFits w32 s.args.c.0
fits s = search rules

pub put_byte-requires : goal.put_byte-requires
put_byte-requires c =
    let k = fits (goal.at-put_byte-requires c).Start in
    let e = ap length (sign_below c.args.c.0 (simp (to_z-of_z, k) at c.if-c-lt0.true)) in
    omega (arith, e)

-- what stands before the magnitude: a sign, or nothing
signed : (c : After-unsigned_abs) → (l : List ℕ) × Adds c.args.self.now c.if-c-lt0.self l × (integer c.args.c.0 ≡ l ++ decimal c.unsigned_abs.result)
signed c =
    let k = fits (goal.at-After-unsigned_abs c).Start in
    let m = simp (to_z-of_z, k) at c.unsigned_abs.ensures.value in
    elim c.if-c-lt0.branch [
      | then-c-lt0 w ↦ (45 ∷ [], rw w.self-is w.put_byte.ensures.text, rw m (sign_below _ (simp (to_z-of_z, k) at w.if-c-lt0.true)))
      | else-c-lt0 w ↦ ([], rw w.self-is (nothing_stored _ _), rw m (no_sign _ (simp (to_z-of_z, k) at w.if-c-lt0.false)))
    ]

pub put_decimal-requires : goal.put_decimal-requires
put_decimal-requires c =
    let s = signed c in
    let e = ap length s.2 ∙ length-append s.0 (decimal c.unsigned_abs.result) in
    room_after c.args.self.now c.if-c-lt0.self _ s.1 (omega (arith, e))

pub returns-clause-text : goal.returns-clause-text
returns-clause-text c =
    let s = signed (goal.at-returns-clause-text c).After-unsigned_abs in
    rw s.2 (stored_then s.1 c.put_decimal.ensures.text)
