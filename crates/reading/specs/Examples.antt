-- THE READER IN NUMBERS. Bytes, written out, and what document 01 and document 02's items 5 and 8 say of them: the definitions and the code cannot be changed
-- together without these rows. Each line is computed.
use Rattle.std.specs.Prelude.{◌≡◌, refl, List, [], ◌∷◌, ℕ, take, pos}
use Rattle.std.proofs.Math.Option.{some, none}
use Rattle.distance.proofs.Examples.{minus}
use Rattle.distance.specs.Fix.{last_of}
use Rattle.format.specs.Bytes.{number_at, signed}
use Rattle.format.specs.Format.{kind_of, fix_from, fix_at, each}
use Rattle.format.specs.Examples.{document_bytes, millimetre_bytes, silence_bytes}
use Rattle.record.specs.Checks.{first, sentence, some_outside, some_other_silence, some_early_after, some_early, of_ends}
use Rattle.record.specs.Answers.{gives, turns_away}
use Rattle.reading.specs.Reading.{filled, stands, yields, moves, begins, told_refusal, unit_answer, read_answer, times_read, xs_read, ys_read, silences_read}

-- ---- a reader over document 01's 18 bytes yields "fix 1000 -1 2", and then none
pub document_yields : yields document_bytes 0 ∷ yields document_bytes 1 ∷ [] ≡ some (record { t = 1000; x = minus 1; y = pos 2; silence = 0 }) ∷ none ∷ []
unfolding kind_of yields stands fix_from fix_at number_at signed
document_yields = refl

-- .. it begins on fix 0, moves to 1 and stays there; over the first 17 of these bytes it begins past every fix, says 5 and yields none
pub document_moves : begins document_bytes ∷ moves document_bytes 0 ∷ moves document_bytes 1 ∷ [] ≡ 0 ∷ 1 ∷ 1 ∷ []
unfolding kind_of first sentence some_outside some_other_silence some_early_after some_early last_of of_ends fix_from fix_at each number_at signed moves stands
document_moves = refl

pub refused_reader : (begins (take 17 document_bytes) ≡ 65536) × (told_refusal (take 17 document_bytes) 65536 ≡ some 5) × (yields (take 17 document_bytes) 65536 ≡ none)
unfolding kind_of first sentence number_at yields stands told_refusal
refused_reader = (refl, refl, refl)

-- in which unit it yields them: so many make a centimetre
pub units_told : unit_answer document_bytes ∷ unit_answer millimetre_bytes ∷ unit_answer (take 17 document_bytes) ∷ [] ≡ gives 1 ∷ gives 10 ∷ turns_away 5 ∷ []
unfolding kind_of first sentence some_outside some_other_silence some_early_after some_early last_of of_ends fix_from fix_at each number_at signed
units_told = refl

-- ---- all fixes at once: (5, 7, −8) and (6, −9, 10), into columns of no, one and three places; and of the same bytes less one nothing is read
abbrev pub lent_two : List ℕ
lent_two = 26 ∷ 0 ∷ 0 ∷ 0 ∷ 1 ∷ 0 ∷ 255 ∷ 255 ∷ 2 ∷ 0 ∷ 5 ∷ 0 ∷ 0 ∷ 0 ∷ 7 ∷ 0 ∷ 248 ∷ 255 ∷ 6 ∷ 0 ∷ 0 ∷ 0 ∷ 247 ∷ 255 ∷ 10 ∷ 0 ∷ []

abbrev pub lent_short : List ℕ
lent_short = take 25 lent_two

pub two_read : (read_answer lent_two ≡ gives 2)
    × (times_read lent_two [] ≡ [])
    × (xs_read lent_two (pos 1 ∷ []) ≡ pos 7 ∷ [])
    × (ys_read lent_two (pos 1 ∷ pos 2 ∷ pos 3 ∷ []) ≡ minus 8 ∷ pos 10 ∷ pos 3 ∷ [])
unfolding kind_of first sentence some_outside some_other_silence some_early_after some_early last_of of_ends fix_from fix_at each number_at signed filled
two_read = (refl, refl, refl, refl)

pub none_read : (read_answer lent_short ≡ turns_away 5)
    × (times_read lent_short (1 ∷ 2 ∷ []) ≡ 1 ∷ 2 ∷ [])
    × (xs_read lent_short (pos 1 ∷ pos 2 ∷ []) ≡ pos 1 ∷ pos 2 ∷ [])
    × (ys_read lent_short (pos 1 ∷ pos 2 ∷ []) ≡ pos 1 ∷ pos 2 ∷ [])
unfolding kind_of first sentence some_outside some_other_silence some_early_after some_early last_of of_ends fix_from fix_at each number_at signed filled
none_read = (refl, refl, refl, refl)

-- .. and the silences of a record of kind 3, and of one without them
pub silences_told : (silences_read silence_bytes (7 ∷ 8 ∷ 9 ∷ []) ≡ 1 ∷ 0 ∷ 9 ∷ []) × (silences_read lent_two (7 ∷ 8 ∷ 9 ∷ []) ≡ 0 ∷ 0 ∷ 9 ∷ [])
unfolding kind_of first sentence some_outside some_other_silence some_early_after some_early last_of of_ends fix_from fix_at each number_at signed filled
silences_told = (refl, refl)
