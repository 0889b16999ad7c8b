use mathlib.Core.Path.{◌≡◌, sym, ◌∙◌}
use mathlib.Core.List.{List, []}
use Prim.Native.Nat.{ℕ}
use native.Mathlib.Omega.{arith}
use Rattle.format.specs.Format.{kind_of, record_length, count_field}
use Rattle.record.specs.Checks.{Check, few_bytes, other_kind, bad_count, bad_length, short_record, bad_mark, first, head_checks}
use Rattle.record.proofs.Laws.First.{stops, passes}
use Rattle.record.proofs.Laws.Head.{says, from_2, from_3, from_4, from_5, from_6, few, not_few, other, not_other, count_zero, count_high, count_good, length_other, length_same, short, not_short, mark_high, mark_never, mark_low}
use Rattle.record.proofs.checking.head_says.Goals as goal
use Rattle.record.proofs.checking.head_says.Goals.{After-record_length, After-top_of, Else-length-record_length, Else-lent-length, Else-lent-lt10, Else-n-gt4096, Else-not-known_kind}

-- what is left to ask once a check has turned nothing away
abbrev Left : List ℕ → List Check → Type 0
Left b l = first (says b) head_checks ≡ first (says b) l

left_1 : (c : Else-lent-lt10) → Left c.args.b.now from_2
left_1 c = passes _ few_bytes from_2 (not_few c.args.b.now c.if-lent-lt10.false)

left_2 : (c : Else-not-known_kind) → Left c.args.b.now from_3
left_2 c = left_1 (goal.at-Else-not-known_kind c).Else-lent-lt10 ∙ passes _ other_kind from_3 (not_other c.args.b.now (sym c.known_kind.ensures ∙ c.if-not-known_kind.false))

left_3 : (c : Else-n-gt4096) → Left c.args.b.now from_4
left_3 c =
    let e = c.count_at-n.ensures.0 in
    left_2 (goal.at-Else-n-gt4096 c).Else-not-known_kind ∙ passes _ bad_count from_4 (count_good c.args.b.now (λ z. c.if-n-eq0.false (e ∙ z)) (omega arith))

-- the length that the code compares with
long : (c : After-record_length) → c.record_length.result ≡ record_length (kind_of c.args.b.now) (count_field c.args.b.now)
long c = rw (c.kind_at-kind.ensures, c.count_at-n.ensures.0) at c.record_length.ensures

left_4 : (c : Else-length-record_length) → Left c.args.b.now from_5
left_4 c =
    let e = long (goal.at-Else-length-record_length c).After-record_length in
    left_3 (goal.at-Else-length-record_length c).Else-n-gt4096 ∙ passes _ bad_length from_5 (length_same c.args.b.now (omega arith))

left_5 : (c : Else-lent-length) → Left c.args.b.now from_6
left_5 c = left_4 (goal.at-Else-lent-length c).Else-length-record_length ∙ passes _ short_record from_6 (not_short c.args.b.now (omega arith))

-- the greatest tolerance that the code compares with
greatest : (c : After-top_of) → c.top_of.result ≡ (kind_of c.args.b.now).top
greatest c = rw c.kind_at-kind.ensures at c.top_of.ensures

pub returns-then-lent-lt10 : goal.returns-then-lent-lt10
returns-then-lent-lt10 c = sym (stops _ few_bytes _ (few c.args.b.now c.if-lent-lt10.true))

pub returns-then-not-known_kind : goal.returns-then-not-known_kind
returns-then-not-known_kind c = sym (left_1 (goal.at-returns-then-not-known_kind c).Else-lent-lt10 ∙ stops _ other_kind _ (other c.args.b.now (sym c.known_kind.ensures ∙ c.if-not-known_kind.true)))

pub returns-then-n-eq0 : goal.returns-then-n-eq0
returns-then-n-eq0 c =
    sym (left_2 (goal.at-returns-then-n-eq0 c).Else-not-known_kind ∙ stops _ bad_count _ (count_zero c.args.b.now (sym c.count_at-n.ensures.0 ∙ c.if-n-eq0.true)))

pub returns-then-n-gt4096 : goal.returns-then-n-gt4096
returns-then-n-gt4096 c =
    sym (left_2 (goal.at-returns-then-n-gt4096 c).Else-not-known_kind ∙ stops _ bad_count _ (count_high c.args.b.now (omega (arith, c.count_at-n.ensures.0))))

pub returns-then-length-record_length : goal.returns-then-length-record_length
returns-then-length-record_length c =
    let e = long (goal.at-returns-then-length-record_length c).After-record_length in
    sym (left_3 (goal.at-returns-then-length-record_length c).Else-n-gt4096 ∙ stops _ bad_length _ (length_other c.args.b.now (λ z. c.if-length-record_length.true (omega arith))))

pub returns-then-lent-length : goal.returns-then-lent-length
returns-then-lent-length c = sym (left_4 (goal.at-returns-then-lent-length c).Else-length-record_length ∙ stops _ short_record _ (short c.args.b.now (omega arith)))

pub returns-then-mark-top_of : goal.returns-then-mark-top_of
unfolding first
returns-then-mark-top_of c =
    let e = greatest (goal.at-returns-then-mark-top_of c).After-top_of in
    sym (left_5 (goal.at-returns-then-mark-top_of c).Else-lent-length ∙ passes (says c.args.b.now) bad_mark [] (mark_low c.args.b.now (omega arith)))

pub returns-then-mark-eq65535 : goal.returns-then-mark-eq65535
unfolding first
returns-then-mark-eq65535 c =
    sym (left_5 (goal.at-returns-then-mark-eq65535 c).Else-lent-length ∙ passes (says c.args.b.now) bad_mark [] (mark_never c.args.b.now (omega arith)))

pub returns : goal.returns
returns c =
    let e = greatest (goal.at-returns c).After-top_of in
    sym (left_5 (goal.at-returns c).Else-lent-length ∙ stops _ bad_mark _ (mark_high c.args.b.now (omega arith) (λ z. c.if-mark-eq65535.false (omega arith))))
