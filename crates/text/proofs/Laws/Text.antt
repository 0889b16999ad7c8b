-- Laws of the listing's text: decimal numbers digit by digit, and how long the text can be.
use Rattle.std.specs.Prelude.{◌≡◌, refl, Bool, true, false, List, [], ◌∷◌, ◌++◌, ℕ, zero, suc, ◌+◌, ◌*◌, ◌/◌, ◌%◌, ◌^◌, ◌<◌, ◌≤◌, length, take, drop, ℤ, pos, negsuc, nat_abs, T, get_or, set, ◌-ℤ◌}
use Rattle.std.proofs.Common.{sym, ◌∙◌, ap, append-nil, append_assoc, arith, length-append, pow-suc, add-one, lt-ltb, le-ltb, eq-eqb, ne_eqb, length-take-le, take-suc, Fits, SFits}
use Rattle.std.proofs.Math.Option.{Option, some, none}
use borrow.Rule.Slice.PartMut.{put_mid}
use Rattle.std.proofs.lemmas.List.{drop-drop}
use Rattle.std.proofs.lemmas.List.Edits.{sets, sets-eq}
use Rattle.std.specs.Int.Signed.{lt_z, non_neg}
use Rattle.distance.specs.Fix.{Fix, Bounded, widest}
use Rattle.distance.specs.Silence.{silent}
use Rattle.distance.specs.Integers.Order.{lt_z_false, zero_le}
use Rattle.distance.specs.Integers.Bounds.{abs_bound, Bound, ◌⊝◌, of_width, fits}
use Rattle.distance.specs.Integers.Tests.{Test, holds, fails, test}
use Rattle.text.specs.Text.{space, line_end, fix_word, silence_word, digit, digits, decimal, integer, silence_text, fix_line, fix_lines, trail_word, never_word, refused_word, mark_text, first_line, refusal_line, record_text, text}
use Rattle.record.specs.Checks.{read_refusal}
use Rattle.reading.specs.Reading.{yields, moves, begins}
use Rattle.record.proofs.Laws.Head.{accepted_head}
use Rattle.record.proofs.Laws.First.{some_none, some_same}
use Rattle.reading.proofs.Laws.Accepted.{yields_fix, yields_end}
use Rattle.reading.proofs.Laws.Reading.{moves_to_next, yields_it}
use Rattle.record.specs.Laws.Trail.{fix_in}
use Rattle.record.proofs.Laws.Trail.{accepted_widest, fixes_from}
use Rattle.format.proofs.Laws.Numbers.{false_true}
use Rattle.format.specs.Format.{mark_field, count_field, fixes, each}
use Rattle.format.proofs.Laws.Each.{each_more, all_at}
use Rattle.format.proofs.Laws.Stores.{sets_then, sets_front}
use Rattle.text.specs.Laws.Text.{Stored, closing_text, lines_in, lines_of, opening_of, opening_text, step_text, step_bounded}
use Rattle.std.specs.Int.{w32, w64}

pub stored_then : {b c d l m : List ℕ} {at r s : ℕ} → Stored b at c r l → Stored c r d s m → Stored b at d s (l ++ m)
stored_then {b} {c} {d} {l} {m} {at} {r} {s} p q = record {
  ends = q.ends ∙ rw (p.ends, length-append l m) (omega arith);
  holds_it = q.holds_it ∙ rw p.holds_it (sets_then b at l r m p.ends);
}

pub nothing_stored : (b : List ℕ) (at : ℕ) → Stored b at b at []
nothing_stored b at = record { ends = omega arith; holds_it = refl }

-- one digit, or the digits before the last and the last: whatever the depth, if it is enough
one_digit : (k n : ℕ) → n < 10 → digits k n ≡ digit n ∷ []
unfolding digits
one_digit zero n h = refl
one_digit (suc k) n h = rw (lt-ltb n 10 h) refl

more_digits : (k n : ℕ) → 10 ≤ n → digits (suc k) n ≡ digits k (n / 10) ++ digit (n % 10) ∷ []
unfolding digits
more_digits k n h = rw (le-ltb n 10 h) refl

-- enough depth is enough
enough : (k m n : ℕ) → n ≤ k → n ≤ m → digits k n ≡ digits m n
enough zero m n h g = one_digit 0 n (omega arith) ∙ sym (one_digit m n (omega arith))
enough (suc k) zero n h g = one_digit (suc k) n (omega arith) ∙ sym (one_digit 0 n (omega arith))
enough (suc k) (suc m) n h g = go (test 10 n) (enough k m (n / 10))
  where
    go : {b : Bool} → Test 10 n b → (n / 10 ≤ k → n / 10 ≤ m → digits k (n / 10) ≡ digits m (n / 10)) → digits (suc k) n ≡ digits (suc m) n
    go (holds t) r = more_digits k n t ∙ rw (r (omega arith) (omega arith)) (sym (more_digits m n t))
    go (fails t) r = one_digit (suc k) n (omega arith) ∙ sym (one_digit (suc m) n (omega arith))

pub decimal_one : (n : ℕ) → n < 10 → decimal n ≡ digit n ∷ []
unfolding decimal
decimal_one n h = one_digit n n h

pub decimal_last : (n : ℕ) → 10 ≤ n → decimal n ≡ decimal (n / 10) ++ digit (n % 10) ∷ []
unfolding decimal
decimal_last zero h = absurd (omega arith)
decimal_last (suc n) h = more_digits n (suc n) h ∙ rw (enough n (suc n / 10) (suc n / 10) (omega arith) (omega arith)) refl

pub length_one : (n : ℕ) → n < 10 → length (decimal n) ≡ 1
length_one n h = rw (decimal_one n h) refl

pub length_last : (n : ℕ) → 10 ≤ n → length (decimal n) ≡ length (decimal (n / 10)) + 1
length_last n h = ap length (decimal_last n h) ∙ length-append (decimal (n / 10)) (digit (n % 10) ∷ [])

-- a number below 10 to the power of d has at most d digits
pub decimal_short : (d n : ℕ) → n < 10 ^ suc d → length (decimal n) ≤ suc d
decimal_short zero n h = omega (arith, length_one n h)
decimal_short (suc d) n h = go (test 10 n) (decimal_short d (n / 10))
  where
    go : {b : Bool} → Test 10 n b → (n / 10 < 10 ^ suc d → length (decimal (n / 10)) ≤ suc d) → length (decimal n) ≤ suc (suc d)
    go (holds t) r = let p : n < 10 ^ suc d * 10 = rw (pow-suc 10 (suc d)) at h in omega (arith, length_last n t, r (omega arith))
    go (fails t) r = omega (arith, length_one n t)

-- a number stored by its digits: the only one, and the last after the others
pub store_one : (b : List ℕ) (at n : ℕ) → n < 10 → set b at (48 + n) ≡ sets b at (decimal n)
store_one b at n h = rw (decimal_one n h) refl

pub store_last : (b c : List ℕ) (at end n : ℕ) → 10 ≤ n → end ≡ at + length (decimal (n / 10)) → c ≡ sets b at (decimal (n / 10))
    → set c end (48 + n % 10) ≡ sets b at (decimal n)
store_last b c at end n h e f = rw (f, decimal_last n h) (sets_then b at (decimal (n / 10)) end (digit (n % 10) ∷ []) e)

-- a word stored at once: what stood before it and behind it stays
pub word_stored : (b w : List ℕ) (at : ℕ) → at + length w ≤ length b → {k : ℕ} {c : List ℕ} → k ≡ length w → c ≡ w → put_mid at k b c ≡ sets b at w
word_stored b w at h e f = rw (e, f, drop-drop (length w) at b) (sym (sets-eq w b at h ∙ append_assoc (take at b) w (drop (at + length w) b)))

-- .. or byte by byte
pub store_word : (b w : List ℕ) (at k : ℕ) → k < length w → set (sets b at (take k w)) (at + k) (get_or w k 0) ≡ sets b at (take (k + 1) w)
store_word b w at k h =
    let e : length (take k w) ≡ k = length-take-le k w (omega arith) in
    rw (add-one, take-suc w k 0 h) (sets_then b at (take k w) (at + k) (get_or w k 0 ∷ []) (rw e refl))

-- ---- a coordinate: a sign if it is below 0, and its magnitude
pub sign_below : (z : ℤ) → lt_z z (pos 0) ≡ true → integer z ≡ 45 ∷ decimal (nat_abs z)
unfolding integer
sign_below (pos n) h = absurd (false_true (sym (lt_z_false {x = pos n} {y = pos 0} (zero_le n)) ∙ h))
sign_below (negsuc n) h = refl

pub no_sign : (z : ℤ) → lt_z z (pos 0) ≡ false → integer z ≡ decimal (nat_abs z)
unfolding integer
no_sign (pos n) h = refl
no_sign (negsuc n) h = absurd (false_true (sym h))

-- where 32 bits hold it, what stands after the sign is a number that 32 bits hold too
pub record SignFits (z : ℤ) : Type 0 where
  pub z32 : SFits w32 z
  pub z64 : SFits w64 z
  pub minus64 : SFits w64 (pos 0 -ℤ z)

pub sign_fits : {z : ℤ} → SFits w32 z → SignFits z
sign_fits {z} f =
    let none : Bound (pos 0) = record { top = 0; holds = omega arith } in
    record { z32 = f; z64 = fits w64 (of_width w32 f) tt; minus64 = fits w64 (none ⊝ of_width w32 f) tt }

pub record Magnitude (u : ℤ) : Type 0 where
  pub not_negative : T (non_neg u)
  pub fits32 : Fits w32 (nat_abs u)

pub below_zero : (z : ℤ) → SFits w32 z → lt_z z (pos 0) ≡ true → Magnitude (pos 0 -ℤ z) × (integer z ≡ 45 ∷ decimal (nat_abs (pos 0 -ℤ z)))
unfolding integer
below_zero (pos n) f h = absurd (false_true (sym (lt_z_false {x = pos n} {y = pos 0} (zero_le n)) ∙ h))
below_zero (negsuc n) f h =
    let small : n < 2147483648 = f.sfits in
    let e : 0 + suc n ≡ suc n = omega arith in
    (record { not_negative = tt; fits32 = record { fits = omega arith } }, rw e refl)

pub from_zero : (z : ℤ) → SFits w32 z → lt_z z (pos 0) ≡ false → Magnitude z × (integer z ≡ decimal (nat_abs z))
unfolding integer
from_zero (pos n) f h = let small : n < 2147483648 = f.sfits in (record { not_negative = tt; fits32 = record { fits = omega arith } }, refl)
from_zero (negsuc n) f h = absurd (false_true (sym h))

pub store_sign : (b c : List ℕ) (at m r : ℕ) (z : ℤ) → integer z ≡ 45 ∷ decimal m → r ≡ at + 1 + length (decimal m) → c ≡ sets (set b at 45) (at + 1) (decimal m) → Stored b at c r (integer z)
store_sign b c at m r z e h g = record { ends = rw e (omega arith); holds_it = rw (g, e, add-one) refl }

pub store_plain : (b c : List ℕ) (at m r : ℕ) (z : ℤ) → integer z ≡ decimal m → r ≡ at + length (decimal m) → c ≡ sets b at (decimal m) → Stored b at c r (integer z)
store_plain b c at m r z e h g = record { ends = rw e h; holds_it = rw e g }

-- ---- HOW LONG THE NUMBERS ARE AT MOST; what the text takes with them is reckoned in Examples.antt (`text_room`)
pub ten_digits : (n : ℕ) → n < 4294967296 → length (decimal n) ≤ 10
ten_digits n h = decimal_short 9 n (omega arith)

pub five_digits : (n : ℕ) → n < 100000 → length (decimal n) ≤ 5
five_digits n h = decimal_short 4 n h

-- a coordinate of a record of any kind
seven_bytes : (z : ℤ) → nat_abs z ≤ widest → length (integer z) ≤ 7
unfolding integer
seven_bytes (pos n) h = omega (arith, decimal_short 5 n (omega arith))
seven_bytes (negsuc n) h = omega (arith, decimal_short 5 (suc n) (omega arith))

pub place_short : {f : Fix} → Bounded widest f → (length (integer f.x) ≤ 7) × (length (integer f.y) ≤ 7)
place_short {f} h = (seven_bytes f.x (abs_bound f.x widest h.x_high h.x_low), seven_bytes f.y (abs_bound f.y widest h.y_high h.y_low))

-- the lines, as they are put down
pub fix_line_is : (f : Fix) → fix_line f ≡ fix_word ++ (decimal f.t ++ ((space ∷ []) ++ (integer f.x ++ ((space ∷ []) ++ (integer f.y ++ (silence_text f ++ (line_end ∷ [])))))))
unfolding fix_line
fix_line_is f = refl

pub silence_follows : (f : Fix) → silent f ≡ true → silence_text f ≡ silence_word
unfolding silence_text
silence_follows f h = rw h refl

pub none_follows : (f : Fix) → silent f ≡ false → silence_text f ≡ []
unfolding silence_text
none_follows f h = rw h refl

pub first_line_is : (count mark : ℕ) → first_line count mark ≡ trail_word ++ (decimal count ++ ((space ∷ []) ++ (mark_text mark ++ (line_end ∷ []))))
unfolding first_line
first_line_is count mark = refl

pub refusal_line_is : (k : ℕ) → refusal_line k ≡ refused_word ++ (decimal k ++ (line_end ∷ []))
unfolding refusal_line
refusal_line_is k = refl

pub mark_never : (mark : ℕ) → mark ≡ 65535 → mark_text mark ≡ never_word
unfolding mark_text
mark_never mark h = rw (eq-eqb mark 65535 h) refl

pub mark_number : (mark : ℕ) → (mark ≡ 65535 → ⊥) → mark_text mark ≡ decimal mark
unfolding mark_text
mark_number mark h = rw (ne_eqb mark 65535 h) refl

-- ---- the lines of a list of fixes, one after another
fix_lines_more : (l : List Fix) (f : Fix) → fix_lines (l ++ f ∷ []) ≡ fix_lines l ++ fix_line f
unfolding fix_lines
fix_lines_more [] f = append-nil (fix_line f)
fix_lines_more (g ∷ l) f = ap (λ (m : List ℕ). fix_line g ++ m) (fix_lines_more l f) ∙ sym (append_assoc (fix_line g) (fix_lines l) (fix_line f))

pub lines_none : (b : List ℕ) (at : ℕ) (f : ℕ → Fix) → Stored b at b at (fix_lines (each f 0 0))
unfolding each fix_lines
lines_none b at f = record { ends = omega arith; holds_it = refl }

pub lines_more : {b c d : List ℕ} {at r s : ℕ} (f : ℕ → Fix) (a : Fix) (k : ℕ) → a ≡ f k → Stored b at c r (fix_lines (each f 0 k)) → Stored c r d s (fix_line a)
    → Stored b at d s (fix_lines (each f 0 (k + 1)))
lines_more f a k e p q =
    let n : 0 + k ≡ k = omega arith in
    rw (add-one, each_more f 0 k, n, fix_lines_more (each f 0 k) (f k), ← e) (stored_then p q)

-- where the listing of a record b stands after the lines of k fixes: they are put down over ys from p on, which gave zs, and they end at `end`
pub record LinesPut (b ys : List ℕ) (p k end : ℕ) (zs : List ℕ) : Type 0 where
  pub stored : Stored ys p zs end (fix_lines (each (fix_in b) 0 k))
  pub not_past : end ≤ p + 39 * k

pub lines_begin : (b ys : List ℕ) (p : ℕ) → LinesPut b ys p 0 p ys
lines_begin b ys p = record { stored = lines_none ys p (fix_in b); not_past = omega arith }

-- one more, of what a reader at k yields
pub lines_onward : {b ys zs l : List ℕ} {p k end r : ℕ} (x : Option Fix) → LinesPut b ys p k end zs → x ≡ some (fix_in b k) → Stored zs end l r (step_text x) → r ≤ end + 39
    → LinesPut b ys p (k + 1) r l
lines_onward {b} {ys} {zs} {l} {p} {k} {end} {r} x h e s t = record {
  stored = lines_more (fix_in b) (fix_in b k) k refl h.stored (let g = s in rw e at g);
  not_past = omega (arith, h.not_past);
}

pub text_parts : (b : List ℕ) → text b ≡ opening_text b ++ (fix_lines (each (fix_in b) 0 (lines_in b)) ++ closing_text (read_refusal b))
unfolding text record_text each fix_lines
text_parts b = go (read_refusal b)
  where
    go : (r : Option ℕ) → elim r [ none ↦ record_text (count_field b) (mark_field b) (fixes b) | some k ↦ refusal_line k ]
        ≡ opening_of r (count_field b) (mark_field b) ++ (fix_lines (each (fix_in b) 0 (lines_of r (count_field b))) ++ closing_text r)
    go none = refl
    go (some k) = sym (append-nil (refusal_line k))

pub few_lines : (b : List ℕ) → lines_in b ≤ 4096
few_lines b = go (read_refusal b) refl
  where
    go : (r : Option ℕ) → read_refusal b ≡ r → lines_of r (count_field b) ≤ 4096
    go none e = (accepted_head b e).few_fixes
    go (some k) e = omega arith

-- where there is a line of a fix, the bytes are accepted ..
accepted_line : (b : List ℕ) (k : ℕ) → k < lines_in b → read_refusal b ≡ none
accepted_line b k h = go (read_refusal b) h
  where
    go : (r : Option ℕ) → k < lines_of r (count_field b) → r ≡ none
    go none l = refl
    go (some j) l = absurd (omega (arith, l))

-- .. and a reader that has yielded k fixes, fewer than the text has lines of fixes, yields fix k and goes on to the next
module _ (b : List ℕ) (k : ℕ) (line : k < lines_in b) where
  first_place : begins b + k ≡ k
  first_place = rw (accepted_line b k line) (omega arith)

  line_counted : k < count_field b
  line_counted = let h = line in rw (accepted_line b k line) at h

  pub line_yields : yields b (begins b + k) ≡ some (fix_in b k)
  line_yields = rw first_place (let h = accepted_head b (accepted_line b k line) in yields_it b k (count_field b) h.known line_counted (omega arith) h.whole)

  -- whose place is no further out than any kind's may be
  pub line_bounded : step_bounded (yields b (begins b + k))
  line_bounded =
      let a = accepted_line b k line in
      let w = (accepted_widest b (record { accepted = a })).bounded in
      rw line_yields (all_at {P = Bounded widest} (fix_in b) (count_field b) k (rw (fixes_from b (accepted_head b a).some_fix) w) line_counted)

  pub line_moves : moves b (begins b + k) ≡ begins b + (k + 1)
  line_moves =
      let e : begins b + (k + 1) ≡ begins b + k + 1 = omega arith in
      rw (e, first_place) (let h = accepted_head b (accepted_line b k line) in moves_to_next b k (count_field b) h.known line_counted (omega arith) h.whole)

-- a reader of accepted bytes ..
module _ (b : List ℕ) (accepted : read_refusal b ≡ none) where
  lines_counted : lines_in b ≡ count_field b
  lines_counted = rw accepted refl

  -- .. begins with no line put down
  pub reader_begins : (ys : List ℕ) (p : ℕ) {at : ℕ} → at ≡ begins b → (at ≤ lines_in b) × LinesPut b ys p at p ys
  reader_begins ys p e = rw (e, accepted) (omega arith, lines_begin b ys p)

  -- .. yields fix k where it stands on it, and goes on to the next, ..
  module _ (k : ℕ) (f : Fix) (e : some f ≡ yields b k) where
    pub line_there : k < lines_in b
    line_there = rw lines_counted (go (test (count_field b) k))
      where
        go : {t : Bool} → Test (count_field b) k t → k < count_field b
        go (holds ended) = absurd (some_none (e ∙ (yields_end b k ended).0))
        go (fails more) = more

    pub yielded_is : f ≡ fix_in b k
    yielded_is = some_same (e ∙ yields_fix b k (record { accepted = accepted }) (omega (arith, line_there, lines_counted)))

    pub yielded_moves : moves b k ≡ k + 1
    yielded_moves = let h = accepted_head b accepted in moves_to_next b k (count_field b) h.known (omega (arith, line_there, lines_counted)) (omega arith) h.whole

    -- whose place is no further out than any kind's may be
    pub yielded_bounded : Bounded widest f
    yielded_bounded =
        let w = (accepted_widest b (record { accepted = accepted })).bounded in
        rw yielded_is
        (all_at {P = Bounded widest} (fix_in b) (count_field b) k (rw (fixes_from b (accepted_head b accepted).some_fix) w)
        (omega (arith, line_there, lines_counted)))

  -- .. and yields none only behind the last
  pub lines_ended : (k : ℕ) → none ≡ yields b k → k ≤ lines_in b → k ≡ lines_in b
  lines_ended k e h = go (test (count_field b) k)
    where
      go : {t : Bool} → Test (count_field b) k t → k ≡ lines_in b
      go (holds ended) = omega (arith, h, lines_counted)
      go (fails more) = absurd (some_none (sym (e ∙ yields_fix b k (record { accepted = accepted }) more)))

-- the three parts put down one after the other make the text
pub text_put : {ys zs l m : List ℕ} {at p end e : ℕ} (b : List ℕ) (r : Option ℕ) → r ≡ read_refusal b → Stored ys at zs p (opening_text b) → LinesPut b zs p (lines_in b) end l
    → Stored l end m e (closing_text r) → Stored ys at m e (text b)
text_put b r told opened lines closed = let c = closed in rw (text_parts b) (stored_then opened (stored_then lines.stored (rw told at c)))

-- .. and a refusal's line is all of it
pub text_refused : (b : List ℕ) {k : ℕ} → read_refusal b ≡ some k → text b ≡ refusal_line k
unfolding each fix_lines
text_refused b h = text_parts b ∙ rw h (append-nil (refusal_line _))

-- at the start of an output that is long enough
pub listed : {b c l : List ℕ} {r : ℕ} (t : List ℕ) → t ≡ l → Stored b 0 c r l → r ≤ length b → (r ≡ length t) × (c ≡ t ++ drop r b)
listed {b} {c} {l} {r} t e p h =
    let n : r ≡ length l = omega (arith, p.ends) in
    (n ∙ ap length (sym e), p.holds_it ∙ sets_front b l (omega arith) ∙ rw (e, n) refl)
