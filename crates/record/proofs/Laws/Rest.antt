-- Document 01: "A lent buffer may go on after the record; those bytes are ignored and kept."
use Rattle.std.specs.Prelude.{◌≡◌, true, List, length, get_or, take}
use Rattle.std.proofs.Math.Path.{refl}
use Rattle.std.proofs.Common.{sym, ◌∙◌, ap, arith, length-take, get_or-take}
use Prim.Native.Nat.{ℕ, zero, suc, ◌+◌, ◌<◌, ◌≤◌}
use Rattle.format.specs.Bytes.{number_at}
use Rattle.format.specs.Kinds.{Kind, kinds, coded}
use Rattle.format.specs.Format.{kind_field, mark_field, count_field, kind_of, record_length, fix_from, fix_at, each, fixes}
use Rattle.format.proofs.Laws.Kinds.{IsKind, kind_of_is, kind_code, same_kind_of, longer, one_more}
use Rattle.format.proofs.Laws.Each.{length_each, each_same}
use Rattle.format.proofs.Laws.RoundTrip.{Reads}
use Rattle.record.specs.Checks.{read_refusal, IsAccepted}
use Rattle.record.proofs.Laws.Accepted.{accepted_good, accept}

-- two buffers that agree on their first n bytes say the same numbers there, ..
module _ (b c : List ℕ) (n : ℕ) (agree : take n b ≡ take n c) where
  same_byte : (i : ℕ) → i < n → get_or c i 0 ≡ get_or b i 0
  same_byte i h = sym (get_or-take n c i 0 h) ∙ ap (λ (l : List ℕ). get_or l i 0) (sym agree) ∙ get_or-take n b i 0 h

  same_number : (at size : ℕ) → at + size ≤ n → number_at c at size ≡ number_at b at size
  unfolding number_at
  same_number at zero h = refl
  same_number at (suc size) h = rw (same_byte at (omega arith), same_number (suc at) size (omega arith)) refl

  same_fix : (K : Kind) → IsKind K → (k : ℕ) → record_length K (suc k) ≤ n → fix_at K c k ≡ fix_at K b k
  unfolding fix_at fix_from
  same_fix K is k h =
      let at = record_length K k in
      let w = K.width in
      let more = one_more K k in
      let size = is.size_is in
      rw (same_number at 4 (omega arith), same_number (at + 4) w (omega arith), same_number (at + 4 + w) w (omega arith), same_number (at + 4 + w + w) K.silence_width (omega arith)) refl

  -- .. and the second reaches as far, if the first does
  reaches : n ≤ length b → n ≤ length c
  reaches h = omega (arith, sym (length-take n b) ∙ ap length agree ∙ length-take n c)

-- THE REST IS IGNORED: a buffer that has the bytes of an accepted record at its start is accepted too, and has the same fixes and the same mark
pub rest_ignored : (b c : List ℕ) → IsAccepted b → take (record_length (kind_of b) (count_field b)) b ≡ take (record_length (kind_of b) (count_field b)) c
    → (read_refusal c ≡ read_refusal b) × (fixes c ≡ fixes b) × (mark_field c ≡ mark_field b)
rest_ignored b c a agree =
    let K = kind_of b in
    let g = accepted_good b a in
    let n = record_length K (count_field b) in
    let number = same_number b c n agree in
    let l = fixes b in
    let many : length l ≡ count_field b = length_each (fix_at K b) 0 (count_field b) in
    let count : count_field c ≡ count_field b = number 8 2 (omega arith) in
    let mark : mark_field c ≡ mark_field b = number 6 2 (omega arith) in
    let code : kind_field c ≡ kind_field b = number 4 2 (omega arith) in
    let kind : kind_of c ≡ K = same_kind_of b c code in
    let same : fixes c ≡ l =
    ap (λ (J : Kind). each (fix_at J c) 0 (count_field c)) kind ∙ ap (each (fix_at K c) 0) count
    ∙ each_same (fix_at K c) (fix_at K b) 0 (count_field b) (λ i p q. same_fix b c n agree K (kind_of_is b) i (longer K (suc i) (count_field b) (omega arith))) in
    let reads : Reads K (mark_field b) l c = record {
      length_reads = number 0 4 (omega arith) ∙ g.head.length_is ∙ rw many refl;
      code_reads = code ∙ kind_code b g.head.known;
      kind_reads = kind;
      mark_reads = mark;
      count_reads = count ∙ sym many;
      fixes_read = same;
    } in
    let whole = reaches b c n agree g.head.whole in
    let known : coded kinds K.code ≡ true = ap (coded kinds) (sym (kind_code b g.head.known)) ∙ g.head.known in
    let d = accept c reads known g.mark (omega (arith, many, g.head.some_fix)) (omega (arith, many, g.head.few_fixes)) (rw many whole) g.trail_good in
    (d.accepted ∙ sym a.accepted, same, mark)
