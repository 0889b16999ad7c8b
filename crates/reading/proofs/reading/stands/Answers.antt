use mathlib.Core.Path.{◌≡◌, sym, ◌∙◌}
use mathlib.Core.Bool.{true}
use Prim.Native.Nat.{suc}
use native.Mathlib.Numerals.{add-one}
use native.Mathlib.Omega.{arith}
use lib.ListN.{length}
use borrow.Author.Tests.{ltb-true, ltb-false, leb-true}
use Rattle.format.specs.Kinds.{kinds, coded}
use Rattle.format.specs.Format.{kind_field, kind_of, record_length}
use Rattle.format.proofs.Laws.Numbers.{false_true}
use Rattle.reading.proofs.Laws.Reading.{stands_short, stands_unknown, stands_past, stands_if}
use Rattle.reading.proofs.reading.stands.Goals as goal
use Rattle.reading.proofs.reading.stands.Goals.{then-b-ge10, else-b-ge10, then-known_kind, else-known_kind}

pub returns-then-k-count_at : goal.returns-then-k-count_at
returns-then-k-count_at c =
    let b = c.args.b.now in
    let e : c.record_length.result ≡ record_length (kind_of b) (suc c.args.k) = rw (c.kind_at.ensures, add-one) at c.record_length.ensures in
    elim c.if-known_kind.branch [
      | then-known_kind w ↦
          let known : coded kinds (kind_field b) ≡ true = elim c.if-b-ge10.branch [
            | then-b-ge10 v ↦ sym v.known_kind.ensures ∙ sym v.value-is ∙ w.if-known_kind.true
            | else-b-ge10 v ↦ absurd (omega (arith, leb-true 10 (length b) (sym v.value-is ∙ w.if-known_kind.true), v.if-b-ge10.false))
          ] in
          let h = ltb-true c.args.k w.count_at.result (sym w.value-is ∙ c.if-k-count_at.true) in
          rw e (sym (stands_if b c.args.k known (omega (arith, h, w.count_at.ensures.0))))
      | else-known_kind w ↦ absurd (false_true (sym w.if-known_kind.false ∙ sym w.value-is ∙ c.if-k-count_at.true))
    ]

pub returns-else-k-count_at : goal.returns-else-k-count_at
returns-else-k-count_at c =
    let b = c.args.b.now in
    c.if-k-count_at.false
    ∙ sym (elim c.if-known_kind.branch [
      | then-known_kind w ↦
          let h = ltb-false c.args.k w.count_at.result (sym w.value-is ∙ c.if-k-count_at.false) in
          stands_past b c.args.k (omega (arith, h, w.count_at.ensures.0))
      | else-known_kind w ↦ elim c.if-b-ge10.branch [
        | then-b-ge10 v ↦ stands_unknown b c.args.k (sym v.known_kind.ensures ∙ sym v.value-is ∙ w.if-known_kind.false)
        | else-b-ge10 v ↦ stands_short b c.args.k (omega (arith, v.if-b-ge10.false))
      ]
    ])
