-- DEMAND 3, as one claim about a whole list of agings, with every question that may be asked of the record after it. Document 02, item 5: "The distance and
-- crossing promises hold outside silences." Inside one nothing is promised: where the cart was then no trail says.
-- b is any buffer that begins with an accepted record marked never, the original; calls is any list of agings.
use Rattle.std.specs.Prelude.{◌≡◌, List, [], ◌∷◌, ℕ, ◌+◌, ◌≤◌, length, drop}
use Rattle.std.proofs.Math.Option.{Option, some, none}
use Rattle.distance.specs.Fix.{Fix}
use Rattle.distance.specs.Place.{Time, From, Until, AskedOf, after_first, Point, place, Proper, Near}
use Rattle.distance.specs.Silence.{in_silence, OutsideSilences}
use Rattle.distance.specs.Box.{Box, In, NearBox, NearSide}
use Rattle.format.specs.Format.{kind_of, mark_field, length_field, fixes}
use Rattle.record.specs.Checks.{IsAccepted, bad_window, bad_box, bad_point, sentence, FirstHolds, asked_of}
use Rattle.record.specs.Answers.{Answer, gives, turns_away}
use Rattle.aging.specs.Aging.{Call}
use Rattle.legs.specs.declared.Fraction.{Fraction}
use Rattle.crossing.specs.Crossing.{Told, Denied, asked_crossing, cross_answer}
use Rattle.approach.specs.declared.Approach.{Approach}
use Rattle.approach.specs.Approach.{Comes, ToldNear, DeniedNear, asked_near, near_answer}
use Rattle.questions.specs.Agings.{Book, new_book, fed_all, run, after_answer, near_after_answer, kept_at, mark_of, counts_as}

-- What the crossing's answer on the aged record c says of the original, for one window from s to e and one box.
pub data CrossingSays (E : ℕ) (original : List Fix) (c : List ℕ) (s e : ℕ) (box : Box) : Answer (Option Fraction) → Type 0 where
  -- turned away by 13 or 14 and by nothing else, the first of the two whose sentence holds
  says_refused : {k : ℕ} → FirstHolds (sentence (kind_of c) (asked_of c (asked_crossing s e box))) k (bad_window ∷ bad_box ∷ []) → CrossingSays E original c s e box (turns_away k)
  -- told: true of the aged trail, and that time is outside the original's silences, and then the original is within E of the box
  says_told : {f : Fraction} (t : Told (kind_of c).limit (fixes c) box s e f.num f.den) → OutsideSilences original (after_first (fixes c) f.num f.den t.some_denominator)
      → NearBox E box (place original (after_first (fixes c) f.num f.den t.some_denominator)) → CrossingSays E original c s e box (gives (some f))
  -- denied: true of the aged trail, and whenever in the window, outside its silences, the original is in the box, it is at most E from one of the box's sides
  says_denied : Denied (fixes c) box s e → ((u : Time) → From s u → Until e u → OutsideSilences original u → In box (place original u) → NearSide E box (place original u))
      → CrossingSays E original c s e box (gives none)

-- What the radius question's answer on the aged record c says of the original, for one point and one radius. Document 02, item 2: "After any list of demand 3, a yes at
-- radius r means that the original came within r + E."
pub data NearSays (E : ℕ) (original : List Fix) (c : List ℕ) (p : Point) (r : ℕ) : Answer (Option Approach) → Type 0 where
  -- turned away by 16 and by nothing else, whose sentence holds
  says_outside : {k : ℕ} → FirstHolds (sentence (kind_of c) (asked_of c (asked_near p r))) k (bad_point ∷ []) → NearSays E original c p r (turns_away k)
  -- yes: true of the aged trail, and at that time, which is outside its silences, the original is within r + E of the point
  says_near : {A : Approach} (t : ToldNear (fixes c) p r A.leg A.num A.den) → Comes original p (r + E) (after_first (fixes c) A.num A.den t.some_denominator)
      → NearSays E original c p r (gives (some A))
  -- no: true of the aged trail, and at no time outside its silences is the original within r − E of the point: within no s that is at most r when E is added
  says_far : DeniedNear (fixes c) p r → ((s : ℕ) → s + E ≤ r → DeniedNear original p s) → NearSays E original c p r (gives none)

-- The book after the list, and the buffer. E and all lengths are in the original's unit.
abbrev pub book : List ℕ → List Call → Book
book b calls = fed_all (new_book (kind_of b) (fixes b)) calls

abbrev pub bound_after : List ℕ → List Call → ℕ
bound_after b calls = counts_as (book b calls).E

pub record Claim (b : List ℕ) (calls : List Call) : Type 0 where
  -- the record stays of its kind, and the book's fixes are the original's
  pub same_kind : kind_of (run b calls) ≡ kind_of b
  pub never_changed : (book b calls).original ≡ fixes b
  -- "After the list, the record's fixes equal those that thinning, as defined above, keeps of the book's fixes at E, and its mark is E." (Each with its silence
  -- byte.)
  pub still_accepted : IsAccepted (run b calls)
  pub exactly : fixes (run b calls) ≡ kept_at (book b calls).E (book b calls).original
  pub marked : mark_field (run b calls) ≡ mark_of (book b calls).E
  -- the buffer after the original's record is as it was
  pub same_size : length (run b calls) ≡ length b
  pub rest : drop (length_field b) (run b calls) ≡ drop (length_field b) b
  -- the places below have denominators of at least 1: comparisons are multiplied out by them, and of any two places over 0 `Near` would hold
  pub denominators : (u : Time) → Proper (place (book b calls).original u) × Proper (place (fixes (run b calls)) u)
  -- the record is silent at the times at which the original is, "both ends of a silence are always kept"
  pub same_silences : (u : Time) → in_silence (fixes (run b calls)) u ≡ in_silence (book b calls).original u
  -- at every fractional time from first to last, outside silences, the two places are at most E apart
  pub near : (u : Time) → AskedOf (book b calls).original u → OutsideSilences (book b calls).original u → Near (bound_after b calls) (place (book b calls).original u) (place (fixes (run b calls)) u)
  -- a crossing asked after the list is the crossing of what the list left ..
  pub asked_then : (s e : ℕ) (box : Box) → after_answer b calls s e box ≡ cross_answer (run b calls) s e box
  -- .. and a radius question likewise
  pub near_asked_then : (p : Point) (r : ℕ) → near_after_answer b calls p r ≡ near_answer (run b calls) p r
  -- and told or denied, each is true of the original, within E as its type says
  pub crossings : (s e : ℕ) (box : Box) → CrossingSays (bound_after b calls) (book b calls).original (run b calls) s e box (cross_answer (run b calls) s e box)
  pub approaches : (p : Point) (r : ℕ) → NearSays (bound_after b calls) (book b calls).original (run b calls) p r (near_answer (run b calls) p r)
