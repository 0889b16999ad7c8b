-- THE LISTING. Document 01: "First line: count, then mark or `never`. Each fix: time, x, y. A refusal prints one line: `refused`, a space and the
-- number. Every line ends with the byte `0A`." Text is a list of bytes, ASCII. Document 02, item 8, adds a kind of record in millimetres: its lines are the same,
-- and the mark and the places are numbers of the record's own unit. Item 5: "The listing [..] ends a fix's line with ` silence` where one follows."
use Rattle.std.specs.Prelude.{cond, List, [], ◌∷◌, ◌++◌, ℕ, zero, suc, ◌+◌, ◌/◌, ◌%◌, ltb, eqb, ℤ, pos, negsuc}
use Rattle.std.proofs.Math.Option.{some, none}
use Rattle.distance.specs.Fix.{Fix}
use Rattle.distance.specs.Silence.{silent}
use Rattle.format.specs.Format.{never, mark_field, count_field, fixes}
use Rattle.record.specs.Checks.{read_refusal}

-- ---- words
abbrev pub space : ℕ
space = 32

-- "the byte `0A`"
abbrev pub line_end : ℕ
line_end = 10

-- "trail "
abbrev pub trail_word : List ℕ
trail_word = 116 ∷ 114 ∷ 97 ∷ 105 ∷ 108 ∷ space ∷ []

-- "never"
abbrev pub never_word : List ℕ
never_word = 110 ∷ 101 ∷ 118 ∷ 101 ∷ 114 ∷ []

-- "fix "
abbrev pub fix_word : List ℕ
fix_word = 102 ∷ 105 ∷ 120 ∷ space ∷ []

-- " silence"
abbrev pub silence_word : List ℕ
silence_word = space ∷ 115 ∷ 105 ∷ 108 ∷ 101 ∷ 110 ∷ 99 ∷ 101 ∷ []

-- "end" and its line's end
abbrev pub end_line : List ℕ
end_line = 101 ∷ 110 ∷ 100 ∷ line_end ∷ []

-- "refused "
abbrev pub refused_word : List ℕ
refused_word = 114 ∷ 101 ∷ 102 ∷ 117 ∷ 115 ∷ 101 ∷ 100 ∷ space ∷ []

-- ---- numbers
-- A digit's byte.
abbrev pub digit : ℕ → ℕ
digit d = 48 + d

-- A number in decimal: its digits without the last, and the last. `depth` bounds how many digits there are; the number itself is enough
-- (`decimal_last` of Laws/Text.antt).
unfoldable pub digits : (depth n : ℕ) → List ℕ
digits zero n = digit n ∷ []
digits (suc depth) n = cond (ltb n 10) (digit n ∷ []) (digits depth (n / 10) ++ digit (n % 10) ∷ [])

unfoldable pub decimal : ℕ → List ℕ
decimal n = digits n n

-- A coordinate: a minus sign before it if it is below 0.
unfoldable pub integer : ℤ → List ℕ
integer (pos n) = decimal n
integer (negsuc n) = 45 ∷ decimal (suc n)

-- ---- lines
-- "` silence` where one follows"
unfoldable pub silence_text : Fix → List ℕ
silence_text f = cond (silent f) silence_word []

unfoldable pub fix_line : Fix → List ℕ
fix_line f = fix_word ++ (decimal f.t ++ (space ∷ (integer f.x ++ (space ∷ (integer f.y ++ (silence_text f ++ (line_end ∷ [])))))))

unfoldable pub fix_lines : List Fix → List ℕ
fix_lines [] = []
fix_lines (f ∷ l) = fix_line f ++ fix_lines l

unfoldable pub mark_text : ℕ → List ℕ
mark_text m = cond (eqb m never) never_word (decimal m)

unfoldable pub first_line : (count mark : ℕ) → List ℕ
first_line count mark = trail_word ++ (decimal count ++ (space ∷ (mark_text mark ++ (line_end ∷ []))))

unfoldable pub record_text : (count mark : ℕ) → List Fix → List ℕ
record_text count mark l = first_line count mark ++ (fix_lines l ++ end_line)

unfoldable pub refusal_line : ℕ → List ℕ
refusal_line k = refused_word ++ (decimal k ++ (line_end ∷ []))

-- The whole text of lent bytes: of the record, or of its refusal.
unfoldable pub text : List ℕ → List ℕ
text b = elim (read_refusal b) [ none ↦ record_text (count_field b) (mark_field b) (fixes b) | some k ↦ refusal_line k ]
