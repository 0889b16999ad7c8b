-- WHAT THE CLAIM GIVES, written out in names that Claim.antt doesn't define: fixes, mark, bytes, places and what every answer means. A part less of the claim, or one
-- that says less, doesn't give it.
use Rattle.std.specs.Prelude.{◌≡◌, refl, ◌⊎◌, List, [], ◌∷◌, ◌++◌, ℕ, ◌+◌, ◌≤◌, length, drop}
use Rattle.std.proofs.Common.{◌∙◌, ap, subst, ⊎_elim, inl, inr}
use Rattle.std.proofs.Math.Option.{Option, some, none, Option-elim, get_or}
use Rattle.distance.specs.Fix.{Fix}
use Rattle.distance.specs.Place.{Time, From, Until, AskedOf, after_first, Point, place, Proper, Near}
use Rattle.distance.specs.Silence.{in_silence, OutsideSilences}
use Rattle.distance.specs.Box.{Box, In, NearBox, NearSide}
use Rattle.format.specs.Kinds.{Kind}
use Rattle.format.specs.Format.{kind_of, mark_field, length_field, fixes}
use Rattle.record.specs.Checks.{FirstHolds, IsAccepted, bad_window, bad_box, bad_point, sentence, asked_of}
use Rattle.record.specs.Answers.{gives, turns_away}
use Rattle.thinning.specs.Thinning.{thinned}
use Rattle.aging.specs.Aging.{Call, applies}
use Rattle.legs.specs.declared.Fraction.{Fraction}
use Rattle.crossing.specs.Crossing.{Told, Denied, asked_crossing, cross_answer}
use Rattle.approach.specs.declared.Approach.{Approach}
use Rattle.approach.specs.Approach.{Comes, ToldNear, DeniedNear, asked_near, near_answer}
use Rattle.questions.specs.Agings.{Book, new_book, fed_all, run, after_answer, near_after_answer, kept_at, mark_of, counts_as}
use Rattle.questions.specs.Claim.{CrossingSays, says_refused, says_told, says_denied, NearSays, says_outside, says_near, says_far, Claim}
use Rattle.questions.proofs.Laws.Agings.{Applied, this_call, later_call, E_applied}

-- ---- what an answer says, by matching on all that `CrossingSays` can be: another way to say one would leave a case open here
module _ {E : ℕ} {original : List Fix} {c : List ℕ} {s e : ℕ} {box : Box} where
  -- told: the time is of the window, no earlier one crosses, and at that time, outside its silences, the original is at most E from a place in the box
  pub says_told_gives : {f : Fraction} → CrossingSays E original c s e box (gives (some f))
      → (t : Told (kind_of c).limit (fixes c) box s e f.num f.den) × OutsideSilences original (after_first (fixes c) f.num f.den t.some_denominator)
      × NearBox E box (place original (after_first (fixes c) f.num f.den t.some_denominator))
  says_told_gives (says_told t h n) = (t, h, n)

  -- denied: no time of the window crosses, and whenever in the window, outside its silences, the original is in the box, it is at most E from one of its sides
  pub says_denied_gives : CrossingSays E original c s e box (gives none)
      → Denied (fixes c) box s e × ((u : Time) → From s u → Until e u → OutsideSilences original u → In box (place original u) → NearSide E box (place original u))
  says_denied_gives (says_denied d n) = (d, n)

  -- refused: the number is that of the first of checks 13 and 14 whose sentence holds
  pub says_refused_gives : {k : ℕ} → CrossingSays E original c s e box (turns_away k)
      → FirstHolds (sentence (kind_of c) (asked_of c (asked_crossing s e box))) k (bad_window ∷ bad_box ∷ [])
  says_refused_gives (says_refused h) = h

-- .. and `NearSays`
module _ {E : ℕ} {original : List Fix} {c : List ℕ} {p : Point} {r : ℕ} where
  -- yes: the first leg and the earliest time of closest approach on it, at which, outside its silences, the original is within r + E
  pub says_near_gives : {A : Approach} → NearSays E original c p r (gives (some A))
      → (t : ToldNear (fixes c) p r A.leg A.num A.den) × Comes original p (r + E) (after_first (fixes c) A.num A.den t.some_denominator)
  says_near_gives (says_near t h) = (t, h)

  -- no: at no time, and the original is at no time outside its silences within r − E
  pub says_far_gives : NearSays E original c p r (gives none) → DeniedNear (fixes c) p r × ((s : ℕ) → s + E ≤ r → DeniedNear original p s)
  says_far_gives (says_far f g) = (f, g)

  -- refused: by 16, whose sentence holds
  pub says_outside_gives : {k : ℕ} → NearSays E original c p r (turns_away k) → FirstHolds (sentence (kind_of c) (asked_of c (asked_near p r))) k (bad_point ∷ [])
  says_outside_gives (says_outside h) = h

-- ---- E, or none, as plain numbers
kept_plainly : (E : Option ℕ) (l : List Fix) → kept_at E l ≡ Option-elim E l (λ (e : ℕ). thinned e l)
unfolding kept_at Option-elim
kept_plainly none l = refl
kept_plainly (some e) l = refl

mark_plainly : (E : Option ℕ) → mark_of E ≡ get_or E 65535
unfolding mark_of
mark_plainly none = refl
mark_plainly (some e) = refl

bound_plainly : (E : Option ℕ) → counts_as E ≡ get_or E 0
unfolding counts_as
bound_plainly none = refl
bound_plainly (some e) = refl

-- ---- THE CLAIM: `original` is the fixes of b, `left` the buffer after the list, and E the greatest tolerance applied, or none. `Option.get_or E n` is the number E, and n
-- if there is none.
module _ (b : List ℕ) (calls : List Call) (holds : Claim b calls) where
  pub claim_gives : (original : List Fix) → original ≡ fixes b
      → (left : List ℕ) → left ≡ run b calls
      → (E : Option ℕ) → E ≡ (fed_all (new_book (kind_of b) (fixes b)) calls).E
      -- the record is accepted, of its kind, and has the fixes that Douglas-Peucker keeps of the original at E, under the mark E
      → IsAccepted left
      × (kind_of left ≡ kind_of b)
      × (fixes left ≡ Option-elim E original (λ (e : ℕ). thinned e original))
      × (mark_field left ≡ get_or E 65535)
      -- the buffer is as long as it was, and as it was behind the original's record
      × (length left ≡ length b)
      × (drop (length_field b) left ≡ drop (length_field b) b)
      -- it is silent when the original is, and else at every time of the trail at most E from it
      × ((u : Time) → in_silence (fixes left) u ≡ in_silence original u)
      × ((u : Time) → Proper (place original u) × Proper (place (fixes left) u))
      × ((u : Time) → AskedOf original u → OutsideSilences original u → Near (get_or E 0) (place original u) (place (fixes left) u))
      -- a crossing after the list is the crossing of what is left; told, denied or refused, it is true of the original within E
      × ((s e : ℕ) (box : Box)
      → (after_answer b calls s e box ≡ cross_answer left s e box)
      × ((f : Fraction) → cross_answer left s e box ≡ gives (some f)
      → (t : Told (kind_of left).limit (fixes left) box s e f.num f.den)
      × OutsideSilences original (after_first (fixes left) f.num f.den t.some_denominator)
      × NearBox (get_or E 0) box (place original (after_first (fixes left) f.num f.den t.some_denominator)))
      × (cross_answer left s e box ≡ gives none
      → Denied (fixes left) box s e
      × ((u : Time) → From s u → Until e u → OutsideSilences original u → In box (place original u) → NearSide (get_or E 0) box (place original u)))
      × ((k : ℕ) → cross_answer left s e box ≡ turns_away k → FirstHolds (sentence (kind_of left) (asked_of left (asked_crossing s e box))) k (bad_window ∷ bad_box ∷ [])))
      -- and so is a radius question
      × ((p : Point) (r : ℕ)
      → (near_after_answer b calls p r ≡ near_answer left p r)
      × ((A : Approach) → near_answer left p r ≡ gives (some A)
      → (t : ToldNear (fixes left) p r A.leg A.num A.den)
      × Comes original p (r + get_or E 0) (after_first (fixes left) A.num A.den t.some_denominator))
      × (near_answer left p r ≡ gives none → DeniedNear (fixes left) p r × ((s : ℕ) → s + get_or E 0 ≤ r → DeniedNear original p s))
      × ((k : ℕ) → near_answer left p r ≡ turns_away k → FirstHolds (sentence (kind_of left) (asked_of left (asked_near p r))) k (bad_point ∷ [])))
  claim_gives original o left is E at =
      let n = holds.never_changed in
      let bound = bound_plainly (fed_all (new_book (kind_of b) (fixes b)) calls).E in
      rw (o, is, at) (
        holds.still_accepted,
        holds.same_kind,
        holds.exactly ∙ kept_plainly _ _ ∙ rw n refl,
        holds.marked ∙ mark_plainly _,
        holds.same_size,
        holds.rest,
        λ u. rw n at (holds.same_silences u),
        λ u. rw n at (holds.denominators u),
        λ u. rw (n, bound) at (holds.near u),
        λ s e box.
            let says = rw (n, bound) at (holds.crossings s e box) in (
              holds.asked_then s e box,
              λ f h. says_told_gives (subst (CrossingSays _ _ _ s e box) h says),
              λ h. says_denied_gives (subst (CrossingSays _ _ _ s e box) h says),
              λ k h. says_refused_gives (subst (CrossingSays _ _ _ s e box) h says),
            ),
        λ p r.
            let says = rw (n, bound) at (holds.approaches p r) in (
              holds.near_asked_then p r,
              λ A h. says_near_gives (subst (NearSays _ _ _ p r) h says),
              λ h. says_far_gives (subst (NearSays _ _ _ p r) h says),
              λ k h. says_outside_gives (subst (NearSays _ _ _ p r) h says),
            ),
      )

  -- .. so at every time of the trail outside silences the two places are at most e apart, the greatest tolerance applied, and where none was it is the same place
  pub distance_gives : (u : Time) → AskedOf (fixes b) u → OutsideSilences (fixes b) u
      → ((e : ℕ) → (fed_all (new_book (kind_of b) (fixes b)) calls).E ≡ some e → Near e (place (fixes b) u) (place (fixes (run b calls)) u))
      × ((fed_all (new_book (kind_of b) (fixes b)) calls).E ≡ none → Near 0 (place (fixes b) u) (place (fixes (run b calls)) u))
  distance_gives u t h =
      let near = (claim_gives (fixes b) refl (run b calls) refl _ refl).8 u t h in
      (λ e is. rw is at near, λ is. rw is at near)

-- ---- E IS A CALL'S: a call of the list applied it, or none did and it is what it was
applied_gives : {K : Kind} {E : Option ℕ} {l : List Call} → Applied K E l
    → (before : List Call) × (c : Call) × (after : List Call) × (l ≡ before ++ c ∷ after) × (applies K c ≡ E)
applied_gives (this_call {c} {l} h) = ([], c, l, refl, h)
applied_gives (later_call {c} {l} r) = let p = applied_gives r in (c ∷ p.0, p.1, p.2, ap (λ (m : List Call). c ∷ m) p.3, p.4)

pub E_applied_gives : (k : Book) (calls : List Call)
    → ((fed_all k calls).E ≡ k.E)
    ⊎ ((before : List Call) × (c : Call) × (after : List Call) × (calls ≡ before ++ c ∷ after) × (applies k.kind c ≡ (fed_all k calls).E))
E_applied_gives k calls = ⊎_elim (λ h. inl h) (λ a. inr (applied_gives a)) (E_applied k calls)
