-- THE KINDS OF RECORD THERE ARE, and what one may have otherwise than another. Document 01 has kind 1 ("1 = trail"); document 02, item 8, adds kind 2: "fixes of
-- 12 bytes: time, x, y of 4 bytes each, places −160,000 to 160,000, length 10 + 12n, tolerance and mark up to 60,000 or never, all in millimetres". Item 5:
-- "Kind 3 is kind 1 with one byte after each fix [..]: 1 = silence follows, 0 = none; its length is 10 + 9n."
use Rattle.std.specs.Prelude.{◌≡◌, Result, MatchResult, Bool, false, cond, not, ◌||◌, List, [], ◌∷◌, ℕ, eqb}
use Rattle.format.specs.declared.Kind.{Kind as CodeKind}
use Rattle.format.specs.declared.Kind.TheVariants.{Trail, MillimetreTrail, SilenceTrail}
use Rattle.format.specs.declared.kinds.UnknownKind.{UnknownKind}
use Rattle.format.specs.declared.Unit.{Unit as CodeUnit}
use Rattle.format.specs.declared.Unit.TheVariants.{Centimetres, Millimetres}

pub record Kind : Type 0 where
  -- its number
  pub code : ℕ
  -- the bytes of a fix, of each of its coordinates, and of what it says of silence
  pub size : ℕ
  pub width : ℕ
  pub silence_width : ℕ
  -- its places go from −limit to limit, and its tolerances up to top
  pub limit : ℕ
  pub top : ℕ
  -- its unit: so many make a centimetre
  pub per_centimetre : ℕ

abbrev pub trail : Kind
trail = record { code = 1; size = 8; width = 2; silence_width = 0; limit = 16000; top = 32000; per_centimetre = 1 }

abbrev pub millimetre_trail : Kind
millimetre_trail = record { code = 2; size = 12; width = 4; silence_width = 0; limit = 160000; top = 60000; per_centimetre = 10 }

abbrev pub silence_trail : Kind
silence_trail = record { code = 3; size = 9; width = 2; silence_width = 1; limit = 16000; top = 32000; per_centimetre = 1 }

-- THE LIST of the kinds there are. `layout` below says which of them each case of the code's enum is.
abbrev pub kinds : List Kind
kinds = trail ∷ millimetre_trail ∷ silence_trail ∷ []

-- A kind whose fixes say whether silence follows.
abbrev pub has_silences : Kind → Bool
has_silences K = not (eqb K.silence_width 0)

-- Some kind of a list has this number ..
abbrev pub coded : List Kind → ℕ → Bool
coded [] c = false
coded (K ∷ l) c = eqb c K.code || coded l c

-- .. and the one that has it. Of a number that none has, kind 1, which is seen nowhere: every operation over lent bytes answers 1 or 2, and the reader yields
-- nothing (`unknown_kind` of the record's Laws/Kinds.antt, and `unknown_yields_none` of the reading's Laws/Reading.antt).
abbrev pub with_code : List Kind → ℕ → Kind
with_code [] c = trail
with_code (K ∷ l) c = cond (eqb c K.code) K (with_code l c)

-- What the enums of the code say: a kind, and a unit, of which so many make a centimetre.
abbrev pub layout : CodeKind → Kind
layout Trail = trail
layout MillimetreTrail = millimetre_trail
layout SilenceTrail = silence_trail

abbrev pub units : CodeUnit → ℕ
units Centimetres = 1
units Millimetres = 10

-- The code's kind of a number: the one that has it, or the number back, if none has.
abbrev pub Decodes : ℕ → Result CodeKind UnknownKind → Type 0
Decodes c r = MatchResult r (λ κ. (layout κ).code ≡ c) (λ e. (e.0 ≡ c) × (coded kinds c ≡ false))
