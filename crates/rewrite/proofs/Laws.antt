-- What is proved of the definitions.
use Rattle.std.specs.Prelude.{◌≡◌, List, [], ◌∷◌, ◌++◌, map, ℕ, zero, suc, ◌+◌, ◌*◌, ◌<◌, ◌≤◌, length, take, drop, set}
use Rattle.std.proofs.Math.Path.{refl}
use Rattle.std.proofs.Common.{sym, ◌∙◌, ap, arith, add-one, length-set, length-append}
use Rattle.std.proofs.Math.Option.{Option, none, some}
use Rattle.distance.specs.Fix.{Fix, Bounded}
use Rattle.distance.specs.Laws.All.{All}
use Rattle.format.specs.declared.Kind.{Kind as CodeKind}
use Rattle.format.specs.declared.Kind.TheVariants.{MillimetreTrail}
use Rattle.format.specs.declared.fixes.Fixes.{Fixes}
use Rattle.format.specs.Bytes.{InBytes}
use Rattle.format.specs.Fixes.{nth}
use Rattle.format.specs.Kinds.{Kind, layout}
use Rattle.format.specs.Format.{kind_of, never, record_length, HoldsLongest, each, fix_at, fixes, count_field, mark_field, record_bytes}
use Rattle.format.proofs.Laws.Kinds.{is_kind, of_code, kind_of_is, longer, longest}
use Rattle.format.proofs.Laws.Each.{each_more, length_each, all_at}
use Rattle.format.proofs.Laws.Layout.{length_record}
use Rattle.format.proofs.Laws.RoundTrip.{bounded_in_bytes}
use Rattle.record.specs.Answers.{Answer, gives, turns_away, answer, unless}
use Rattle.record.specs.Checks.{IsAccepted, read_refusal}
use Rattle.record.proofs.Laws.Accepted.{accepted_good, good_fixes, places_good}
use Rattle.record.proofs.Laws.First.{some_none, gives_no_refusal}
use Rattle.record.specs.Laws.Trail.{Lent, FixesOf}
use Rattle.record.proofs.Laws.Trail.{lent}
use Rattle.record.proofs.Laws.Silence.{fix_heard}
use Rattle.writing.specs.Writing.{asked_to_write, write_refusal, Writes}
use Rattle.writing.proofs.Laws.Writing.{writes_none}
use Rattle.rewrite.specs.Anew.{refused_or, anew_answer, anew, WrittenAnew}

-- ---- the list of a record's fixes, as it grows, of whatever struct
module _ {A : Type 0} (says_fix : A → Fix) where
  list_more : (l : List A) (k : ℕ) (f : A) → k < length l → map says_fix (take (suc k) (set l k f)) ≡ map says_fix (take k l) ++ says_fix f ∷ []
  list_more [] k f h = absurd (omega arith)
  list_more (g ∷ l) zero f h = refl
  list_more (g ∷ l) (suc k) f h = ap (λ (m : List Fix). says_fix g ∷ m) (list_more l k f (omega arith))

  -- its first k entries are the first k fixes of the bytes, and it has room for all n
  pub record Filled (K : Kind) (b : List ℕ) (n k : ℕ) (l : List A) : Type 0 where
    pub within : k ≤ n
    pub room : n ≤ length l
    pub holds : map says_fix (take k l) ≡ each (fix_at K b) 0 k

  module _ (K : Kind) (b : List ℕ) (n : ℕ) where
    pub filled_none : (l : List A) → n ≤ length l → Filled K b n 0 l
    unfolding each
    filled_none l room = record { within = omega arith; room = room; holds = refl }

    pub filled_more : (k : ℕ) (l : List A) (f : A) → Filled K b n k l → k < n → says_fix f ≡ fix_at K b k → Filled K b n (k + 1) (set l k f)
    filled_more k l f h less e = record {
      within = omega (arith, less);
      room = rw (length-set l k f) h.room;
      holds = let z : 0 + k ≡ k = omega arith in rw (add-one, each_more (fix_at K b) 0 k, z, ← e, ← h.holds) (list_more l k f (omega (arith, h.room, less)));
    }

    -- the whole of it
    pub filled_all : (k : ℕ) (l : List A) → Filled K b n k l → n ≤ k → map says_fix (take n l) ≡ each (fix_at K b) 0 n
    filled_all k l h end = let e : n ≡ k = omega (arith, h.within, end) in rw e h.holds

  -- the same of the list of 4,096 of lent bytes
  pub record Listed (K : Kind) (b : List ℕ) (n k : ℕ) (l : List A) : Type 0 where
    pub lent : Lent K b n
    pub within : k ≤ n
    pub room : length l ≡ 4096
    pub holds : map says_fix (take k l) ≡ each (fix_at K b) 0 k

  module _ (K : Kind) (b : List ℕ) (n : ℕ) where
    pub listed_none : (l : List A) → Lent K b n → length l ≡ 4096 → Listed K b n 0 l
    unfolding each
    listed_none l lent room = record { lent = lent; within = omega arith; room = room; holds = refl }

    pub listed_more : (k : ℕ) (l : List A) (f : A) → Listed K b n k l → k < n → says_fix f ≡ fix_at K b k → Listed K b n (k + 1) (set l k f)
    listed_more k l f h less e = record {
      lent = h.lent;
      within = omega (arith, less);
      room = length-set l k f ∙ h.room;
      holds = let z : 0 + k ≡ k = omega arith in rw (add-one, each_more (fix_at K b) 0 k, z, ← e, ← h.holds) (list_more l k f (omega (arith, h.room, h.lent.few, less)));
    }

    -- the whole of it
    pub listed_all : (k : ℕ) (l : List A) → Listed K b n k l → n ≤ k → map says_fix (take n l) ≡ each (fix_at K b) 0 n
    listed_all k l h end = let e : n ≡ k = omega (arith, h.within, end) in rw e h.holds

-- the fixes of an accepted record are within its kind's limit
pub bounded_fixes : {K : Kind} {b : List ℕ} {n : ℕ} → IsAccepted b → K ≡ kind_of b → n ≡ count_field b → All (Bounded K.limit) (each (fix_at K b) 0 n)
bounded_fixes {b} a k e = rw (k, e) (places_good (kind_of b).limit (fixes b) (accepted_good b a).trail_good.inside)

-- and so is each of their coordinates within its bytes
pub within_bytes : (κ : CodeKind) (b : List ℕ) (n k : ℕ) {f : Fix} → f ≡ fix_at (layout κ) b k → All (Bounded (layout κ).limit) (each (fix_at (layout κ) b) 0 n) → k < n
    → InBytes (layout κ).width f.x × InBytes (layout κ).width f.y
within_bytes κ b n k {f} e h less =
    let g : Bounded (layout κ).limit f = rw e (all_at (fix_at (layout κ) b) n k h less) in
    (bounded_in_bytes (layout κ) (is_kind κ) f.x g.x_low g.x_high, bounded_in_bytes (layout κ) (is_kind κ) f.y g.y_low g.y_high)

-- and a kind with no byte for silence says none, so a struct of its list can say the fix
pub listable : (κ : CodeKind) (b : List ℕ) (n k : ℕ) {f : Fix} → f ≡ fix_at (layout κ) b k → All (Bounded (layout κ).limit) (each (fix_at (layout κ) b) 0 n) → k < n
    → InBytes (layout κ).width f.x × InBytes (layout κ).width f.y × ((layout κ).silence_width ≡ 0 → f.silence ≡ 0)
listable κ b n k e h less =
    let in_bytes = within_bytes κ b n k e h less in
    (in_bytes.0, in_bytes.1, λ z. ap (λ (f : Fix). f.silence) e ∙ fix_heard (layout κ) b k z)

-- ---- the fixes of lent bytes that are accepted
module _ (s : Fixes) (b : List ℕ) (a : IsAccepted b) (is : FixesOf s b) where
  pub accepted_lent : Lent (layout s.kind) s.bytes.now s.count
  accepted_lent = rw is.bytes_are (lent a is.kind_is is.count_is)

  pub accepted_bounded : All (Bounded (layout s.kind).limit) (each (nth s) 0 s.count)
  accepted_bounded = rw is.bytes_are (bounded_fixes a is.kind_is is.count_is)

-- ---- what the writer says of the fixes, said of the record
-- an accepted record's fixes pass the writer's checks
writes_accepted : (b out : List ℕ) → HoldsLongest out → IsAccepted b → write_refusal (kind_of b) (fixes b) out ≡ none
writes_accepted b out room a =
    let g = accepted_good b a in
    let n : length (fixes b) ≡ count_field b = length_each (fix_at (kind_of b) b) 0 (count_field b) in
    let κ = of_code b in
    let longest : record_length (kind_of b) 4096 ≤ length out = rw κ.is (room κ.code_kind) in
    writes_none (kind_of b) (fixes b) (length out) (λ e. omega (arith, n, e, g.head.some_fix)) (omega (arith, n, g.head.few_fixes)) (good_fixes (kind_of b) (asked_to_write (fixes b) (length out)) g.trail_good)
    (rw n (omega (arith, longest, longer (kind_of b) (count_field b) 4096 g.head.few_fixes)))

pub anew_refused : (b out : List ℕ) (k : ℕ) → read_refusal b ≡ some k → WrittenAnew b out (turns_away k) out
unfolding anew_answer anew
anew_refused b out k h = (rw h refl, rw h refl, λ a. absurd (some_none (sym h ∙ a.accepted)))

pub anew_written : (b out : List ℕ) (K : Kind) (n : ℕ) (m : List Fix) (a : Answer ℕ) (l : List ℕ) → HoldsLongest out → IsAccepted b → K ≡ kind_of b → n ≡ count_field b → m ≡ each (fix_at K b) 0 n → Writes K m out a l → WrittenAnew b out a l
unfolding anew_answer anew
anew_written b out K n m a l room accepted k counted e w =
    let h = accepted.accepted in
    let all : m ≡ fixes b = e ∙ rw (k, counted) refl in
    let s = rw (k, all) at w in
    (s.0 ∙ rw h refl, s.1 ∙ rw h refl, λ _. s.2 (writes_accepted b out room accepted))

-- .. said of the fixes that lent bytes have
pub fixes_anew : (s : Fixes) (κ : CodeKind) (b out : List ℕ) (a : Answer ℕ) (l : List ℕ) → HoldsLongest out → IsAccepted b → FixesOf s b → s.kind ≡ κ → Writes (layout κ) (each (nth s) 0 s.count) out a l → WrittenAnew b out a l
fixes_anew s κ b out a l room accepted is kind w =
    let k : layout κ ≡ kind_of b = ap layout (sym kind) ∙ is.kind_is in
    anew_written b out (layout κ) s.count (each (nth s) 0 s.count) a l room accepted k is.count_is (rw (kind, is.bytes_are) refl) w

-- the record that it tells of lies in the output
pub answer_within : (b out l : List ℕ) (n : ℕ) → gives n ≡ anew_answer b out → l ≡ anew b out → n ≤ length l
unfolding anew_answer anew
answer_within b out l n e same = go (read_refusal b) (write_refusal (kind_of b) (fixes b) out) e same
  where
    go : (r w : Option ℕ) → gives n ≡ refused_or r (answer w (record_length (kind_of b) (length (fixes b)))) → l ≡ unless r out (unless w out (record_bytes (kind_of b) never (fixes b) ++ drop (record_length (kind_of b) (length (fixes b))) out)) → n ≤ length l
    go (some k) w f h = absurd (gives_no_refusal f)
    go none (some k) f h = absurd (gives_no_refusal f)
    go none none f h =
        let z : n ≡ record_length (kind_of b) (length (fixes b)) = cc in
        omega (arith, z, ap length h, length-append (record_bytes (kind_of b) never (fixes b)) (drop (record_length (kind_of b) (length (fixes b))) out), length_record (kind_of b) (kind_of_is b) never (fixes b))

-- ---- what the promises say, in the papers' numbers and in names that their files don't define
-- bytes that hold the longest record of every kind: as many as one of kind 2 with 4,096 fixes has, and no more are needed
pub holds_longest_gives : (l : List ℕ) → HoldsLongest l → 49162 ≤ length l
holds_longest_gives l h = h MillimetreTrail

pub gives_holds_longest : (l : List ℕ) → 49162 ≤ length l → HoldsLongest l
gives_holds_longest l h κ = omega (arith, longest (layout κ) (is_kind κ) 4096 (omega arith), h)

-- a record written anew: refused bytes leave the output, and of accepted ones the output has the record of their fixes, of their kind and marked never, in place
-- of as many of its own bytes, and it reads back
pub written_anew_gives : (b out : List ℕ) (a : Answer ℕ) (l : List ℕ) → 49162 ≤ length out → WrittenAnew b out a l
    → ((k : ℕ) → read_refusal b ≡ some k → (a ≡ turns_away k) × (l ≡ out))
    × (read_refusal b ≡ none → (a ≡ gives (10 + (kind_of b).size * length (fixes b)))
    × (l ≡ record_bytes (kind_of b) 65535 (fixes b) ++ drop (10 + (kind_of b).size * length (fixes b)) out)
    × (read_refusal l ≡ none)
    × (kind_of l ≡ kind_of b)
    × (mark_field l ≡ 65535)
    × (fixes l ≡ fixes b))
unfolding anew_answer anew
written_anew_gives b out a l room w = (
  (λ k h. let same : anew b out ≡ out = rw h refl in (w.0 ∙ rw h refl, w.1 ∙ same)),
  λ h.
      let accepted : IsAccepted b = record { accepted = h } in
      let none_of_them = writes_accepted b out (gives_holds_longest out room) accepted in
      let r = w.2 accepted in
      (w.0 ∙ rw (h, none_of_them) refl, w.1 ∙ rw (h, none_of_them) refl, r.is_accepted.accepted, r.of_kind, r.is_never, r.fixes_are),
)
