-- FROM ANCHORS TO TRAILS: a place that a reading yields is one that a writer of centimetres accepts.
use Rattle.std.specs.Prelude.{◌≡◌, ◌+◌, ◌*◌, ◌/◌, false, List, ℤ, pos, unsigned_abs, refl}
use Rattle.std.proofs.Common.{sym, ap, ◌∙◌, arith, le-ltb}
use Rattle.std.proofs.Math.Option.{Option, some, none}
use Rattle.distance.specs.Fix.{Fix}
use Rattle.distance.specs.Place.{Point}
use Rattle.distance.specs.Rounding.{half_up, with_sign_of, rounded}
use Rattle.distance.specs.Integers.Tests.{neither}
use Rattle.distance.specs.Laws.All.{All, all_none, all_more}
use Rattle.format.specs.Kinds.{trail, silence_trail}
use Rattle.record.specs.Checks.{outside, far, new_place, anchor_refusal, some_outside}
use Rattle.record.specs.Answers.{gives}
use Rattle.record.proofs.Laws.Accepted.{outside_size, inside_bound}
use Rattle.record.proofs.Laws.First.{answer_gives}
use Rattle.anchors.specs.declared.State.{State}
use Rattle.anchors.specs.declared.Reading.{Reading}
use Rattle.anchors.specs.Anchors.{report, rounded_count, rounded_place, anchor_answer}
use Rattle.anchors.proofs.Laws.Reading.{size_of}
use Rattle.anchors.proofs.Laws.Claim.{passes}

-- half a centimetre at most is added, so what is within 16,000 stays there
rounded_inside : (z : ℤ) → outside 256000 z ≡ false → outside 16000 (rounded z (pos 16)) ≡ false
unfolding rounded half_up
rounded_inside z h =
    outside_size 16000 (with_sign_of z ((2 * unsigned_abs z + 16) / 32))
    ∙ le-ltb 16000 (unsigned_abs (with_sign_of z ((2 * unsigned_abs z + 16) / 32))) (omega (arith, size_of z ((2 * unsigned_abs z + 16) / 32), inside_bound 256000 z h))

count_inside : (o : Option ℤ) → far o ≡ false → outside 16000 (rounded_count o) ≡ false
count_inside none h = refl
count_inside (some z) h = rounded_inside z h

pub yielded_inside : (s : State) (r : Reading) (P : Point) → anchor_answer s r ≡ gives P → (outside 16000 P.x ≡ false) × (outside 16000 P.y ≡ false)
yielded_inside s r P h =
    let g = answer_gives (anchor_refusal (report s r)) (rounded_place (new_place (report s r))) P h in
    let n = neither (far (new_place (report s r)).x) (far (new_place (report s r)).y) (passes (report s r) g.0).inside in (
      ap (λ (Q : Point). outside 16000 Q.x) (sym g.1) ∙ count_inside (new_place (report s r)).x n.0,
      ap (λ (Q : Point). outside 16000 Q.y) (sym g.1) ∙ count_inside (new_place (report s r)).y n.1,
    )

-- a fix whose place is yielded, at whatever second, whether a silence follows or not
pub record Yielded (f : Fix) : Type 0 where
  pub state : State
  pub reading : Reading
  pub place : Point
  pub answered : anchor_answer state reading ≡ gives place
  pub x : f.x ≡ place.x
  pub y : f.y ≡ place.y

inside_all : {l : List Fix} → All Yielded l → some_outside 16000 l ≡ false
unfolding some_outside
inside_all all_none = refl
inside_all (all_more {m = f} h t) =
    let i = yielded_inside h.state h.reading h.place h.answered in
    rw (h.x, h.y, i.0, i.1) (inside_all t)

-- THE LAW: check 7 turns no list of such fixes away, of either kind that is in centimetres.
pub never_misplaced : {l : List Fix} → All Yielded l → (some_outside trail.limit l ≡ false) × (some_outside silence_trail.limit l ≡ false)
never_misplaced a = (inside_all a, inside_all a)
