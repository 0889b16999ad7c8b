-- WHAT A WORKED ROW SAYS, TAKEN APART: the definition's answer is the table's, question by question. A statement over rows that says less doesn't give it.
use Rattle.std.specs.Prelude.{◌≡◌, refl, List, [], ◌∷◌, ℕ, ◌*◌, ◌≤◌}
use Rattle.std.proofs.Common.{sym, ◌∙◌}
use Rattle.std.proofs.Math.Option.{Option, some, none, some-injective}
use Rattle.distance.specs.Fix.{Fix}
use Rattle.distance.specs.Box.{Box}
use Rattle.distance.specs.Laws.All.{All, all_none, all_more}
use Rattle.format.specs.Kinds.{Kind}
use Rattle.format.specs.Format.{record_bytes}
use Rattle.record.specs.Checks.{read_refusal}
use Rattle.record.specs.Answers.{Answer, gives, turns_away, answer, SameAnswer}
use Rattle.record.proofs.Laws.First.{some_none}
use Rattle.writing.specs.Writing.{write_refusal}
use Rattle.moment.specs.Moment.{Standing, place_answer}
use Rattle.legs.specs.declared.Fraction.{Fraction}
use Rattle.crossing.specs.Crossing.{cross_answer}
use Rattle.questions.specs.Worked.{Question, age_at, place_at, cross, write, read, Left, Reply, Kept, WorkedRow, row_of, output, recorded, aged_all, reply, at_positions, Is, Agrees, Holds, AllHold}

-- every row of a list holds
pub all_hold_gives : (rows : List WorkedRow) → AllHold rows → All Holds rows
all_hold_gives [] h = all_none
all_hold_gives (r ∷ rows) h = all_more h.0 (all_hold_gives rows h.1)

-- a number that the table has is the definition's
is_gives : (n : ℕ) (o : Option ℕ) → Is n o → (k : ℕ) → o ≡ some k → n ≡ k
is_gives n none h k e = absurd (some_none (sym e))
is_gives n (some j) h k e = h ∙ some-injective j k e

module _ (K : Kind) (l : List Fix) where
  -- agings: the fixes at the table's positions stay, with its count and its mark where it has them
  pub aged_row_gives : (es : List ℕ) (g : Kept) → Holds (row_of K l (age_at es) (gives g))
      → (a : Left) × (aged_all (recorded K l) 0 es ≡ gives a) × (a.kept ≡ at_positions l g.positions)
      × ((n : ℕ) → g.count_given ≡ some n → a.count ≡ n) × ((n : ℕ) → g.mark_given ≡ some n → a.mark ≡ n)
  aged_row_gives es g h = go (aged_all (recorded K l) 0 es) refl h
    where
      go : (r : Answer Left) → aged_all (recorded K l) 0 es ≡ r → SameAnswer (Agrees K l (age_at es)) r (gives g)
          → (a : Left) × (aged_all (recorded K l) 0 es ≡ gives a) × (a.kept ≡ at_positions l g.positions)
          × ((n : ℕ) → g.count_given ≡ some n → a.count ≡ n) × ((n : ℕ) → g.mark_given ≡ some n → a.mark ≡ n)
      go (gives a) e k = (a, e, k.0, is_gives a.count g.count_given k.1, is_gives a.mark g.mark_given k.2)
      go (turns_away n) e k = absurd k

  -- a place: the same fraction and the same rounded place
  pub place_row_gives : (s m : ℕ) (g : Standing) → Holds (row_of K l (place_at s m) (gives g)) → place_answer (recorded K l) s m ≡ gives g
  place_row_gives s m g h = go (place_answer (recorded K l) s m) refl h
    where
      go : (r : Answer Standing) → place_answer (recorded K l) s m ≡ r → SameAnswer (Agrees K l (place_at s m)) r (gives g) → place_answer (recorded K l) s m ≡ gives g
      go (gives a) e k = rw k at e
      go (turns_away n) e k = absurd k

  -- a crossing: a time of the same value, over a denominator from 1 to twice the kind's limit, or no
  pub crossed_row_gives : (box : Box) (s e : ℕ) (g : Fraction) → Holds (row_of K l (cross box s e) (gives (some g)))
      → (f : Fraction) × (cross_answer (recorded K l) s e box ≡ gives (some f)) × (f.num * g.den ≡ g.num * f.den) × (1 ≤ f.den) × (f.den ≤ 2 * K.limit)
  crossed_row_gives box s e g h = go (cross_answer (recorded K l) s e box) refl h
    where
      go : (r : Answer (Option Fraction)) → cross_answer (recorded K l) s e box ≡ r → SameAnswer (Agrees K l (cross box s e)) r (gives (some g))
          → (f : Fraction) × (cross_answer (recorded K l) s e box ≡ gives (some f)) × (f.num * g.den ≡ g.num * f.den) × (1 ≤ f.den) × (f.den ≤ 2 * K.limit)
      go (gives (some f)) q k = (f, q, k.same_value, k.at_least, k.at_most)
      go (gives none) q k = absurd k
      go (turns_away n) q k = absurd k

  pub not_crossed_row_gives : (box : Box) (s e : ℕ) → Holds (row_of K l (cross box s e) (gives none)) → cross_answer (recorded K l) s e box ≡ gives none
  not_crossed_row_gives box s e h = go (cross_answer (recorded K l) s e box) refl h
    where
      go : (r : Answer (Option Fraction)) → cross_answer (recorded K l) s e box ≡ r → SameAnswer (Agrees K l (cross box s e)) r (gives none) → cross_answer (recorded K l) s e box ≡ gives none
      go (gives (some f)) q k = absurd k
      go (gives none) q k = q
      go (turns_away n) q k = absurd k

  -- a refusal: its number, and of a writer or reader that refuses nothing none
  pub refused_row_gives : (q : Question) (k : ℕ) → Holds (row_of K l q (turns_away k)) → reply K l q ≡ turns_away k
  refused_row_gives q k h = go (reply K l q) refl h
    where
      go : (r : Answer (Reply q)) → reply K l q ≡ r → SameAnswer (Agrees K l q) r (turns_away k) → reply K l q ≡ turns_away k
      go (gives a) e n = absurd n
      go (turns_away j) e n = rw n at e

  pub written_row_gives : Holds (row_of K l write (gives tt)) → write_refusal K l (output K l) ≡ none
  written_row_gives h = go (write_refusal K l (output K l)) refl h
    where
      go : (r : Option ℕ) → write_refusal K l (output K l) ≡ r → SameAnswer (Agrees K l write) (answer r tt) (gives tt) → write_refusal K l (output K l) ≡ none
      go none e k = e
      go (some n) e k = absurd k

  pub read_row_gives : (m : ℕ) → Holds (row_of K l (read m) (gives tt)) → read_refusal (record_bytes K m l) ≡ none
  read_row_gives m h = go (read_refusal (record_bytes K m l)) refl h
    where
      go : (r : Option ℕ) → read_refusal (record_bytes K m l) ≡ r → SameAnswer (Agrees K l (read m)) (answer r tt) (gives tt) → read_refusal (record_bytes K m l) ≡ none
      go none e k = e
      go (some n) e k = absurd k
