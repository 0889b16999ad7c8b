-- What holds of every kind there is, and of the kind of lent bytes.
use Rattle.std.specs.Prelude.{◌≡◌, refl, Bool, true, false, cond, ◌||◌, List, ℕ, suc, ◌+◌, ◌*◌, ◌^◌, ◌<◌, ◌≤◌, eqb, ◌⊎◌}
use Rattle.std.proofs.Common.{inl, inr, mul-le-mul_left, mul-le-mul_right, mul-le-mul, mul-suc, arith, eqb-true, ne_eqb}
use Rattle.distance.specs.Fix.{widest}
use Rattle.format.specs.declared.Kind.{Kind as CodeKind}
use Rattle.format.specs.declared.Kind.TheVariants.{Trail, MillimetreTrail, SilenceTrail}
use Rattle.format.specs.Kinds.{Kind, trail, millimetre_trail, silence_trail, has_silences, kinds, coded, layout}
use Rattle.format.specs.Format.{kind_field, kind_of, record_length}

-- WHAT EVERY KIND KEEPS TO, so that laws about any kind can use it: a fix is its time, two coordinates and its silence; its numbers are of few bytes; a place
-- within the limit, of which there are others than 0, fits a coordinate's bytes and is no further from 0 than the widest; `never` is no tolerance; and a
-- centimetre is so few of its unit that a tolerance of 16 bits, as a table's row has, fits 32 bits in it.
pub record IsKind (K : Kind) : Type 0 where
  pub size_is : K.size ≡ 4 + 2 * K.width + K.silence_width
  pub some_width : 1 ≤ K.width
  pub small_size : K.size ≤ 12
  pub code_small : K.code < 65536
  pub inside : 2 * K.limit < 256 ^ K.width
  pub within_widest : K.limit ≤ widest
  pub some_place : 1 ≤ K.limit
  pub marked : K.top < 65535
  pub few_units : K.per_centimetre ≤ 10

-- by computing, for each
pub is_kind : (κ : CodeKind) → IsKind (layout κ)
is_kind Trail = record { size_is = refl; some_width = omega arith; small_size = omega arith; code_small = omega arith; inside = omega arith; within_widest = omega arith; some_place = omega arith; marked = omega arith; few_units = omega arith }
is_kind MillimetreTrail = record { size_is = refl; some_width = omega arith; small_size = omega arith; code_small = omega arith; inside = omega arith; within_widest = omega arith; some_place = omega arith; marked = omega arith; few_units = omega arith }
is_kind SilenceTrail = record { size_is = refl; some_width = omega arith; small_size = omega arith; code_small = omega arith; inside = omega arith; within_widest = omega arith; some_place = omega arith; marked = omega arith; few_units = omega arith }

-- what kinds 1 and 3 share
pub narrow : {κ : CodeKind} → (κ ≡ Trail) ⊎ (κ ≡ SilenceTrail) → (layout κ).width ≡ 2
narrow (inl e) = rw e refl
narrow (inr e) = rw e refl

-- the silence of a fix is one byte or none
pub silence_told : (κ : CodeKind) → has_silences (layout κ) ≡ true → (layout κ).silence_width ≡ 1
silence_told Trail h = absurd (let z = h in cc)
silence_told MillimetreTrail h = absurd (let z = h in cc)
silence_told SilenceTrail h = refl

pub silence_untold : (κ : CodeKind) → has_silences (layout κ) ≡ false → (layout κ).silence_width ≡ 0
silence_untold Trail h = refl
silence_untold MillimetreTrail h = refl
silence_untold SilenceTrail h = absurd (let z = h in cc)

-- ---- the kind of lent bytes is the one of the code whose number stands there, ..
pub kind_is : (κ : CodeKind) (b : List ℕ) → kind_field b ≡ (layout κ).code → kind_of b ≡ layout κ
unfolding kind_of
kind_is Trail b h = rw h refl
kind_is MillimetreTrail b h = rw h refl
kind_is SilenceTrail b h = rw h refl

-- .. and kind 1 where neither 2 nor 3 does
pub kind_else : (b : List ℕ) → (kind_field b ≡ 2 → ⊥) → (kind_field b ≡ 3 → ⊥) → kind_of b ≡ trail
unfolding kind_of
kind_else b h g = rw (ne_eqb (kind_field b) 2 h, ne_eqb (kind_field b) 3 g) (go (eqb (kind_field b) 1))
  where
    go : (x : Bool) → cond x trail trail ≡ trail
    go true = refl
    go false = refl

pub is_coded : (κ : CodeKind) (c : ℕ) → c ≡ (layout κ).code → coded kinds c ≡ true
is_coded Trail c h = rw h refl
is_coded MillimetreTrail c h = rw h refl
is_coded SilenceTrail c h = rw h refl

-- THE KIND OF ANY BYTES is one of the code's
pub record OfCode (b : List ℕ) : Type 0 where
  pub code_kind : CodeKind
  pub is : kind_of b ≡ layout code_kind

pub of_code : (b : List ℕ) → OfCode b
unfolding kind_of
of_code b = go (eqb (kind_field b) 1) (eqb (kind_field b) 2) (eqb (kind_field b) 3) refl refl refl
  where
    go : (x y z : Bool) → eqb (kind_field b) 1 ≡ x → eqb (kind_field b) 2 ≡ y → eqb (kind_field b) 3 ≡ z → OfCode b
    go true y z e f g = record { code_kind = Trail; is = rw e refl }
    go false true z e f g = record { code_kind = MillimetreTrail; is = rw (e, f) refl }
    go false false true e f g = record { code_kind = SilenceTrail; is = rw (e, f, g) refl }
    go false false false e f g = record { code_kind = Trail; is = rw (e, f, g) refl }

pub kind_of_is : (b : List ℕ) → IsKind (kind_of b)
kind_of_is b = let k = of_code b in rw k.is (is_kind k.code_kind)

-- and if some kind has the number that stands there, its own number is that one
pub kind_code : (b : List ℕ) → coded kinds (kind_field b) ≡ true → kind_field b ≡ (kind_of b).code
unfolding kind_of
kind_code b h = go (eqb (kind_field b) 1) (eqb (kind_field b) 2) (eqb (kind_field b) 3) refl refl refl h
  where
    go : (x y z : Bool) → eqb (kind_field b) 1 ≡ x → eqb (kind_field b) 2 ≡ y → eqb (kind_field b) 3 ≡ z → x || (y || (z || false)) ≡ true
        → kind_field b ≡ (cond x trail (cond y millimetre_trail (cond z silence_trail trail))).code
    go true y z e f g h = eqb-true (kind_field b) 1 e
    go false true z e f g h = eqb-true (kind_field b) 2 f
    go false false true e f g h = eqb-true (kind_field b) 3 g
    go false false false e f g h = absurd (let z : ◌≡◌ {A = ℕ} 0 1 = cc in omega arith)

-- bytes with the same number there are of the same kind
pub same_kind_of : (b c : List ℕ) → kind_field c ≡ kind_field b → kind_of c ≡ kind_of b
unfolding kind_of
same_kind_of b c h = rw h refl

-- ---- THE STRIDE: `K.size * n`, in the few laws that multiply it
module _ (K : Kind) where
  -- a record of more fixes is longer, ..
  pub longer : (m n : ℕ) → m ≤ n → record_length K m ≤ record_length K n
  longer m n h = omega (arith, mul-le-mul_left K.size h)

  -- .. by the bytes of a fix for one more
  pub one_more : (k : ℕ) → record_length K (suc k) ≡ record_length K k + K.size
  one_more k = rw (mul-suc K.size k) (omega arith)

  module _ (is : IsKind K) where
    -- the longest record
    pub longest : (n : ℕ) → n ≤ 4096 → record_length K n ≤ 49162
    longest n h = omega (arith, mul-le-mul is.small_size h)

    -- a record has more bytes than fixes
    pub more_bytes : (k : ℕ) → k < record_length K k
    more_bytes k = let one : 1 ≤ K.size = omega (arith, is.size_is) in omega (arith, mul-le-mul_right k one)
