-- A caller's errors by their numbers: what a call hands on with `?`, and that refusals alone have the paper's numbers.
use Rattle.std.specs.Prelude.{◌≡◌, ℕ, Result, Ok, Err, IsErrAnd}
use Rattle.std.proofs.Common.{refl, ap}
use Rattle.record.specs.declared.refusal.Refusal.{Refusal}
use Rattle.record.specs.Answers.{refused, number_of}
use Rattle.writing.specs.Answers.{wrote, Numbers, refused_by, wrote_by}

-- the error that was handed on is the one that was met
pub handed_on : {A E : Type 0} (r : Result A E) (e : E) → IsErrAnd r (λ f. f ≡ e) → r ≡ Err e
handed_on (Ok a) e h = absurd h
handed_on (Err f) e h = ap Err h

-- a refusal that is taken up as it is keeps its number
pub own_numbers : Numbers (λ (r e : Refusal). e ≡ r) number_of
own_numbers r e h = ap number_of h

-- by the paper's numbers the number of a refusal is the record's `refused`, and the answer is `wrote`: so at refusals the
-- clause of `begin_record` speaks of these
pub refused_plainly : {A : Type 0} (r : Result A Refusal) → refused_by number_of r ≡ refused r
refused_plainly (Ok a) = refl
refused_plainly (Err e) = refl

pub wrote_plainly : (r : Result ℕ Refusal) → wrote_by number_of r ≡ wrote r
wrote_plainly (Ok n) = refl
wrote_plainly (Err e) = refl
