-- What a call hands on with `?`.
use Rattle.std.specs.Prelude.{◌≡◌, Result, Ok, Err, IsErrAnd}
use Rattle.std.proofs.Common.{ap}
use Rattle.std.proofs.Math.Option.{some}
use Rattle.record.specs.declared.refusal.Refusal.{Refusal}
use Rattle.record.specs.Answers.{refused, number_of, turns_away, answer_by}

-- the refusal that was handed on is the one that was met
pub passed_on : {A : Type 0} (r : Result A Refusal) (e : Refusal) → IsErrAnd r (λ f. f ≡ e) → refused r ≡ some (number_of e)
passed_on (Ok a) e h = absurd h
passed_on (Err f) e h = ap (λ (x : Refusal). some (number_of x)) h

pub turned_away : {A B : Type 0} (value : A → B) (r : Result A Refusal) (e : Refusal) → IsErrAnd r (λ f. f ≡ e) → answer_by value r ≡ turns_away (number_of e)
turned_away value (Ok a) e h = absurd h
turned_away value (Err f) e h = ap (λ (x : Refusal). turns_away (number_of x)) h
