use Rattle.std.proofs.Common.{sym, ◌∙◌, w32, SFits, to_z-of_z, rules}
use Rattle.anchors.specs.declared.count.Sixteenths.{Sixteenths}
use Rattle.anchors.proofs.Laws.Count.{none_counted, finite_told, Finite, high_counted, low_counted, Cut, cutting, cut_casts, cut_counted}
use Rattle.anchors.proofs.count.count.Goals as goal
use Rattle.anchors.proofs.count.count.Goals.{Else-not-is_finite, Else-v-2}

pub returns-then-not-is_finite : goal.returns-then-not-is_finite
returns-then-not-is_finite c = none_counted c.args.v (sym c.is_finite.ensures.value ∙ c.if-not-is_finite.true)

-- past the first test
finite_so : (c : Else-not-is_finite) → Finite c.args.v
finite_so c = finite_told _ (sym c.is_finite.ensures.value ∙ c.if-not-is_finite.false)

-- that v fits an f32 is what owning the parameter tells
pub returns-then-v : goal.returns-then-v
returns-then-v c = high_counted _ c.well_formed.0.1 (finite_so (goal.at-returns-then-v c).Else-not-is_finite) c.if-v.true

pub returns-then-v-2 : goal.returns-then-v-2
returns-then-v-2 c = low_counted _ c.well_formed.0.1 (finite_so (goal.at-returns-then-v-2 c).Else-not-is_finite) c.if-v-2.true

-- past the three tests
scaled : (c : Else-v-2) → Cut c.args.v
scaled c = cutting _ c.well_formed.0.1 (finite_told _ (sym c.is_finite.ensures.value ∙ c.if-not-is_finite.false)) c.if-v.false c.if-v-2.false

pub int_to_float-n : goal.int_to_float-n
int_to_float-n c =
    let short : SFits w32 c.saturating_f32_to_i32-n.result = search rules in
    simp (to_z-of_z, short) (cut_casts _ (scaled (goal.at-int_to_float-n c).Else-v-2) (record { 0 = c.saturating_f32_to_i32-n.result }) c.saturating_f32_to_i32-n.ensures)

pub returns : goal.returns
returns c =
    let short : SFits w32 c.saturating_f32_to_i32-n.result = search rules in
    let n : Sixteenths = record { 0 = c.saturating_f32_to_i32-n.result } in
    cut_counted _ (scaled (goal.at-returns c).Else-v-2) n c.saturating_f32_to_i32-n.ensures _ (simp (to_z-of_z, short) at c.then_some.ensures)
