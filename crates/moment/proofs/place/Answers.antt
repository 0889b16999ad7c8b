use mathlib.Core.Path.{refl, sym, ◌∙◌, ap, subst}
use mathlib.Core.List.{List}
use Prim.Native.Nat.{ℕ}
use Rattle.format.specs.Format.{kind_of, count_field}
use Rattle.record.specs.Checks.{IsAccepted}
use Rattle.record.proofs.Laws.Answers.{turned_away}
use Rattle.moment.specs.Answers.{standing}
use Rattle.moment.proofs.Laws.Placing.{place_refused}
use Rattle.moment.proofs.place.Goals as goal

-- the fixes are of the bytes that have passed the reader's checks
pub place_accepted-requires : goal.place_accepted-requires
place_accepted-requires c =
    let f = c.in_ok-fixes.ensures.fixes in
    let e = sym f.bytes_are in
    record {
      accepted = subst (λ (b : List ℕ). IsAccepted b) e (record { accepted = sym c.in_ok-fixes.ensures.refusal });
      own = record { bytes_are = refl; kind_is = f.kind_is ∙ ap kind_of e; count_is = f.count_is ∙ ap count_field e };
    }

pub returns-in_err-fixes : goal.returns-in_err-fixes
returns-in_err-fixes c =
    turned_away standing c.from_residual.result _ c.from_residual.ensures.1 ∙ sym (place_refused c.args.b.now _ _ _ (sym c.in_err-fixes.ensures.refusal))
