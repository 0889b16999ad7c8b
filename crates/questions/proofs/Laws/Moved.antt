-- A MOVED CLOCK AND A WHOLE LIST OF AGINGS: a crossing or a radius question asked after any list has the same answer.
use Rattle.std.specs.Prelude.{◌≡◌, List, [], ◌∷◌, ℕ, suc, ◌+◌, ℤ, pos, negsuc}
use Rattle.std.proofs.Common.{sym, ◌∙◌}
use Rattle.distance.specs.Box.{Box}
use Rattle.distance.specs.Place.{Point}
use Rattle.distance.specs.Clock.{moved, Stays, moved_fix}
use Rattle.format.proofs.Laws.RoundTrip.{AreBytes}
use Rattle.record.specs.Moved.{moved_record, Movable}
use Rattle.format.proofs.Laws.Changed.{changed_bytes}
use Rattle.record.proofs.Laws.Moved.{Later, moved_later, moved_earlier, either_way}
use Rattle.aging.specs.Aging.{Call, left_by}
use Rattle.aging.proofs.Laws.Step.{left_bytes}
use Rattle.aging.proofs.Laws.Moved.{left_later}
use Rattle.crossing.proofs.Laws.Moved.{cross_answer_later}
use Rattle.approach.proofs.Laws.Moved.{near_answer_later}
use Rattle.questions.specs.Agings.{run, after_answer, near_after_answer}
use Rattle.questions.proofs.Laws.Asked.{crossing_after, near_after}

-- what a list leaves is as much later, one call after the other
run_later : (k : ℕ) (b c : List ℕ) (calls : List Call) → Later k b c → AreBytes b → AreBytes c → Later k (run b calls) (run c calls)
unfolding run
run_later k b c [] l p q = l
run_later k b c (d ∷ calls) l p q = run_later k (left_by b d) (left_by c d) calls (left_later k b c l p q d) (left_bytes b d p) (left_bytes c d q)

after_answer_later : (k : ℕ) (b c : List ℕ) (calls : List Call) → Later k b c → AreBytes b → AreBytes c → (s e : ℕ) (box : Box) → after_answer c calls (s + k) (e + k) box ≡ after_answer b calls s e box
after_answer_later k b c calls l p q s e box =
    crossing_after (s + k) (e + k) box c calls q ∙ cross_answer_later k (run b calls) (run c calls) (run_later k b c calls l p q) s e box ∙ sym (crossing_after s e box b calls p)

-- THE LAW of the crossing ..
pub after_answer_moved : (s : ℤ) (b : List ℕ) (calls : List Call) → AreBytes b → Movable s b → (start end : ℕ) (box : Box) → Stays s start → Stays s end
    → after_answer (moved_record s b) calls (moved s start) (moved s end) box ≡ after_answer b calls start end box
after_answer_moved s b calls bytes stay start end box from to = either_way (λ b w v. after_answer b calls w v box) (λ k b c l p q w v. after_answer_later k b c calls l p q w v box) s b bytes stay start end from to

-- .. and of the radius question
near_after_later : (k : ℕ) (b d : List ℕ) (calls : List Call) → Later k b d → AreBytes b → AreBytes d → (c : Point) (r : ℕ) → near_after_answer d calls c r ≡ near_after_answer b calls c r
near_after_later k b d calls l p q c r = near_after c r d calls q ∙ near_answer_later k (run b calls) (run d calls) (run_later k b d calls l p q) c r ∙ sym (near_after c r b calls p)

pub near_after_moved : (s : ℤ) (b : List ℕ) (calls : List Call) → AreBytes b → Movable s b → (c : Point) (r : ℕ) → near_after_answer (moved_record s b) calls c r ≡ near_after_answer b calls c r
near_after_moved (pos k) b calls bytes stay c r = near_after_later k b (moved_record (pos k) b) calls (moved_later k b bytes stay) bytes (changed_bytes (moved_fix (pos k)) b bytes) c r
near_after_moved (negsuc k) b calls bytes stay c r =
    sym (near_after_later (suc k) (moved_record (negsuc k) b) b calls (moved_earlier k b bytes stay) (changed_bytes (moved_fix (negsuc k)) b bytes) bytes c r)
