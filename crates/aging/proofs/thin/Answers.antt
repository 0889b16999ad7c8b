use mathlib.Core.Path.{refl, ◌∙◌}
use mathlib.Core.Bool.{false}
use Prim.Native.Nat.{◌≤◌}
use native.Mathlib.Omega.{arith}
use lib.ListN.{length, length-replicate}
use Rattle.format.specs.Kinds.{layout}
use Rattle.format.specs.Format.{record_length}
use Rattle.record.proofs.Laws.Head.{Head}
use Rattle.record.proofs.Laws.Accepted.{accepted_good}
use Rattle.thinning.proofs.Laws.Spans.{accepted_spans}
use Rattle.thinning.proofs.Laws.KeptBy.{cleared_anew}
use Rattle.aging.proofs.Laws.Aging.{record_is}
use Rattle.aging.proofs.thin.Goals as goal
use Rattle.aging.proofs.thin.Goals.{After-fixes_in-kind, Start}

-- what acceptance gives
head : (s : Start) → Head s.args.b.now
head s = (accepted_good s.args.b.now s.requires).head

few : (c : After-fixes_in-kind) → c.fixes_in-kind.result.count ≤ 4096
few c = rw c.fixes_in-kind.ensures.count_is (head (goal.at-After-fixes_in-kind c).Start).few_fixes

whole : (c : After-fixes_in-kind) → let s = c.fixes_in-kind.result in record_length (layout s.kind) s.count ≤ length c.args.b.now
whole c = rw c.fixes_in-kind.ensures.bytes_are at c.fixes_in-kind.result.whole

pub mark_at-requires : goal.mark_at-requires
mark_at-requires c = (head (goal.at-mark_at-requires c).Start).ten

pub mark_kept-count-requires : goal.mark_kept-count-requires
mark_kept-count-requires c =
    let n = (goal.at-mark_kept-count-requires c).After-fixes_in-kind in
    let h = head (goal.at-mark_kept-count-requires c).Start in
    let f = c.fixes_in-kind.ensures in (
      rw f.count_is h.some_fix,
      few n,
      rw (length-replicate 4096 false) (few n),
      cleared_anew 4096,
      whole n,
      rw (f.kind_is, f.count_is) (accepted_spans c.args.b.now c.requires),
    )

pub pack-kept-requires : goal.pack-kept-requires
pack-kept-requires c =
    let n = (goal.at-pack-kept-requires c).After-fixes_in-kind in
    record { few = few n; marks = rw (c.mark_kept-count.auto.keep ∙ length-replicate 4096 false) (few n); whole = whole n }

pub overflow_cast-kept : goal.overflow_cast-kept
overflow_cast-kept c = record { fits = omega (arith, few (goal.at-overflow_cast-kept c).After-fixes_in-kind, c.pack-kept.ensures.few) }

pub put_head-requires : goal.put_head-requires
put_head-requires c =
    (omega (arith, few (goal.at-put_head-requires c).After-fixes_in-kind, c.pack-kept.ensures.few), rw c.pack-kept.auto.b (head (goal.at-put_head-requires c).Start).ten)

pub returns : goal.returns
returns c =
    let f = c.fixes_in-kind.ensures in
    let done = record_is c.args.b.now c.args.e.0 c.fixes_in-kind.result.count f.kind_is f.count_is (whole (goal.at-returns c).After-fixes_in-kind) c.mark_kept-count.ensures c.pack-kept.ensures
    (c.put_head.ensures ∙ rw (c.new_mark-mark.ensures.mark, c.mark_at.ensures.0) refl) in
    record { count = done.0; bytes = done.1 }
