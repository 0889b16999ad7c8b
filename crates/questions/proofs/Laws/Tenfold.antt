-- CENTIMETRES AND MILLIMETRES: the claim, one call after the other.
use Rattle.std.specs.Prelude.{◌≡◌, refl, List, ℕ, ◌*◌}
use Rattle.std.proofs.Common.{ap, arith}
use Rattle.std.proofs.Math.Option.{Option, some, none}
use Rattle.distance.specs.Tenfold.{tenfold_fix, tenfold_box}
use Rattle.format.specs.Kinds.{trail, millimetre_trail}
use Rattle.format.specs.Format.{never, kind_of, mark_field, fixes}
use Rattle.format.proofs.Laws.RoundTrip.{AreBytes}
use Rattle.record.specs.Checks.{IsAccepted}
use Rattle.record.specs.Tenfold.{tenfold_record, Tenfold}
use Rattle.record.proofs.Laws.Tenfold.{tenfold_never, tenfold_bytes}
use Rattle.thinning.proofs.Laws.KeptBy.{same_positions}
use Rattle.aging.specs.Aging.{Call, applies, left_by}
use Rattle.aging.specs.Tenfold.{ten_times}
use Rattle.aging.proofs.Laws.Step.{left_bytes}
use Rattle.aging.proofs.Laws.Tenfold.{applies_tenfold, aged_tenfold}
use Rattle.moment.proofs.Laws.Tenfold.{place_answer_tenfold}
use Rattle.crossing.proofs.Laws.Tenfold.{cross_answer_tenfold}
use Rattle.questions.specs.Agings.{run, refused_calls, Book, new_book, greater, fed, fed_all, counts_as}
use Rattle.questions.specs.Claim.{book}
use Rattle.questions.specs.Tenfold.{TenfoldCalls, no_calls, and_then, all_answered, TenfoldClaim}
use Rattle.questions.proofs.Laws.Asked.{crossing_after}

-- ---- what a list leaves, and what its calls answer
run_tenfold : (b c : List ℕ) {calls tens : List Call} → AreBytes b → AreBytes c → Tenfold b c → TenfoldCalls calls tens → Tenfold (run b calls) (run c tens)
unfolding run
run_tenfold b c p q t no_calls = t
run_tenfold b c p q t (and_then {q = x} {r = y} k rest) = run_tenfold (left_by b x) (left_by c y) (left_bytes b x p) (left_bytes c y q) (aged_tenfold b c p q t k).same_trail rest

answered_tenfold : (b c : List ℕ) {calls tens : List Call} → AreBytes b → AreBytes c → Tenfold b c → TenfoldCalls calls tens → all_answered c tens ≡ all_answered b calls
unfolding all_answered
answered_tenfold b c p q t no_calls = refl
answered_tenfold b c p q t (and_then {q = x} {r = y} k rest) =
    let one = aged_tenfold b c p q t k in
    rw (one.same_answer, answered_tenfold (left_by b x) (left_by c y) (left_bytes b x p) (left_bytes c y q) one.same_trail rest) refl

refused_tenfold : (b c : List ℕ) {calls tens : List Call} → AreBytes b → AreBytes c → Tenfold b c → TenfoldCalls calls tens → refused_calls c tens ≡ refused_calls b calls
unfolding refused_calls
refused_tenfold b c p q t no_calls = refl
refused_tenfold b c p q t (and_then {q = x} {r = y} k rest) =
    let one = aged_tenfold b c p q t k in
    rw (one.same_answer, refused_tenfold (left_by b x) (left_by c y) (left_bytes b x p) (left_bytes c y q) one.same_trail rest) refl

-- ---- the book
greater_tenfold : (E e : Option ℕ) → greater (ten_times E) (ten_times e) ≡ ten_times (greater E e)
unfolding greater
greater_tenfold none none = refl
greater_tenfold (some E) none = refl
greater_tenfold none (some e) = refl
greater_tenfold (some E) (some e) = ap some (omega arith)

fed_tenfold : (h k : Book) {calls tens : List Call} → h.kind ≡ trail → k.kind ≡ millimetre_trail → k.E ≡ ten_times h.E → TenfoldCalls calls tens → (fed_all k tens).E ≡ ten_times (fed_all h calls).E
unfolding fed_all fed
fed_tenfold h k i j e no_calls = e
fed_tenfold h k i j e (and_then {q} {r} x rest) = fed_tenfold (fed h q) (fed k r) i j (rw (i, j, e, applies_tenfold x) (greater_tenfold h.E (applies trail q))) rest

counts_tenfold : (E : Option ℕ) → counts_as (ten_times E) ≡ 10 * counts_as E
unfolding counts_as
counts_tenfold none = refl
counts_tenfold (some E) = refl

-- ---- THE CLAIM, of the same trail in both units, ..
pub tenfold_claim : (b c : List ℕ) {calls tens : List Call} → AreBytes b → AreBytes c → Tenfold b c → TenfoldCalls calls tens → TenfoldClaim b c calls tens
unfolding new_book
tenfold_claim b c {calls} {tens} p q t k =
    let left = run_tenfold b c p q t k in
    let E : (book c tens).E ≡ ten_times (book b calls).E = fed_tenfold (new_book (kind_of b) (fixes b)) (new_book (kind_of c) (fixes c)) t.kind_before t.kind_tenfold refl k in
    record {
      same_counts = answered_tenfold b c p q t k;
      same_answer = rw (t.accepted_before.accepted, t.accepted_tenfold.accepted, refused_tenfold b c p q t k) refl;
      same_trail = left;
      positions = (λ marks e. same_positions marks tenfold_fix (fixes b) t.fixes_tenfold left.fixes_tenfold e);
      same_E = E;
      same_bound = rw E (counts_tenfold (book b calls).E);
      places = (λ s m. place_answer_tenfold left s m);
      crossings = (λ s e box. rw (crossing_after s e (tenfold_box box) c tens q, crossing_after s e box b calls p) (cross_answer_tenfold left s e box));
    }

-- .. and so of every accepted record of kind 1 that was never thinned, and of the one in millimetres that is made of it
pub made_tenfold : (b : List ℕ) {calls tens : List Call} → AreBytes b → IsAccepted b → kind_of b ≡ trail → mark_field b ≡ never → TenfoldCalls calls tens → TenfoldClaim b (tenfold_record b) calls tens
made_tenfold b bytes a kind m k = tenfold_claim b (tenfold_record b) bytes (tenfold_bytes b) (tenfold_never b bytes a kind m) k
