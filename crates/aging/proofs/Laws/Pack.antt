-- Kept fixes close up at the record's start: each is read where it stood, and stored after the kept ones before it.
use Rattle.std.specs.Prelude.{◌≡◌, Bool, true, false, List, [], ◌∷◌, ◌++◌, ℕ, suc, ◌+◌, ◌*◌, ◌<◌, ◌≤◌, length, get_or, drop, set}
use Rattle.std.proofs.Math.Path.{refl}
use Rattle.std.proofs.Common.{sym, ◌∙◌, ap, mul-le-mul_left, arith, length-append}
use Rattle.std.proofs.lemmas.List.Edits.{sets}
use Rattle.std.proofs.lemmas.List.{set_comm}
use Rattle.distance.specs.Fix.{Fix}
use Rattle.format.specs.Kinds.{Kind}
use Rattle.format.specs.Format.{record_length, each, fix_from, fix_at, fix_bytes, all_bytes, header_bytes, record_bytes}
use Rattle.format.proofs.Laws.Kinds.{IsKind}
use Rattle.format.proofs.Laws.Stores.{sets_then, number_beyond}
use Rattle.format.proofs.Laws.Layout.{length_header, length_all_bytes, all_bytes_more, record_stores}
use Rattle.thinning.specs.Marks.{kept_by}
use Rattle.thinning.proofs.Laws.KeptBy.{kept_by_more, kept_by_skip}
use Rattle.aging.specs.Laws.Pack.{Packed}

module _ (K : Kind) (is : IsKind K) where
  -- a fix beyond the stores is as it was
  pub fix_beyond : (b l : List ℕ) (k : ℕ) → length l ≤ K.size * k → fix_at K (sets b 10 l) k ≡ fix_at K b k
  unfolding fix_at fix_from
  fix_beyond b l k h =
      let at = record_length K k in
      let w = K.width in
      rw (number_beyond b 10 l at 4 (omega arith), number_beyond b 10 l (at + 4) w (omega arith), number_beyond b 10 l (at + 4 + w) w (omega arith), number_beyond b 10 l (at + 4 + w + w) K.silence_width (omega arith)) refl

pub packed_none : (K : Kind) (b : List ℕ) (marks : List Bool) → Packed K b marks 0 b 0
unfolding each kept_by all_bytes
packed_none K b marks = record { stored = refl; many = refl; few = omega arith }

module _ (K : Kind) (is : IsKind K) {b₀ b : List ℕ} {marks : List Bool} {i w : ℕ} (p : Packed K b₀ marks i b w) where
  pub packed_skip : get_or marks i false ≡ false → Packed K b₀ marks (i + 1) b w
  packed_skip h =
      let e = kept_by_skip marks (fix_at K b₀) i h in
      record { stored = rw e p.stored; many = rw e p.many; few = omega (arith, p.few) }

  size : length (all_bytes K (kept_by marks 0 (each (fix_at K b₀) 0 i))) ≡ K.size * w
  size = length_all_bytes K is _ ∙ rw (← p.many) refl

  -- the fix at i stands where it stood
  packed_read : fix_at K b i ≡ fix_at K b₀ i
  packed_read = rw p.stored (fix_beyond K is b₀ (all_bytes K (kept_by marks 0 (each (fix_at K b₀) 0 i))) i (omega (arith, size, mul-le-mul_left K.size p.few)))

  pub packed_more : {c : List ℕ} → get_or marks i false ≡ true → c ≡ sets b (record_length K w) (fix_bytes K (fix_at K b i)) → Packed K b₀ marks (i + 1) c (w + 1)
  packed_more {c} h s =
      let l = kept_by marks 0 (each (fix_at K b₀) 0 i) in
      let e = kept_by_more marks (fix_at K b₀) i h in
      let f = fix_at K b₀ i in
      record {
        stored = s ∙ rw packed_read (ap (λ (x : List ℕ). sets x (record_length K w) (fix_bytes K f)) p.stored
            ∙ sets_then b₀ 10 (all_bytes K l) (record_length K w) (fix_bytes K f) (rw size refl)
            ∙ rw (e, all_bytes_more K l f) refl);
        many = rw (e, p.many) (sym (length-append l (f ∷ [])));
        few = omega (arith, p.few);
      }

-- ---- the head is stored last, before the fixes
set_apart : (b : List ℕ) (at x i : ℕ) (m : List ℕ) → at < i → set (sets b i m) at x ≡ sets (set b at x) i m
set_apart b at x i [] h = refl
set_apart b at x i (y ∷ m) h = set_apart (set b i y) at x (suc i) m (omega arith) ∙ ap (λ (c : List ℕ). sets c (suc i) m) (set_comm b i at y x (λ e. omega arith))

sets_apart : (b : List ℕ) (at : ℕ) (l : List ℕ) (i : ℕ) (m : List ℕ) → at + length l ≤ i → sets (sets b i m) at l ≡ sets (sets b at l) i m
sets_apart b at [] i m h = refl
sets_apart b at (x ∷ l) i m h = ap (λ (c : List ℕ). sets c (suc at) l) (set_apart b at x i m (omega arith)) ∙ sets_apart (set b at x) (suc at) l i m (omega arith)

pub packed_record : (K : Kind) → IsKind K → (b c : List ℕ) (mark : ℕ) (l : List Fix) → record_length K (length l) ≤ length b → c ≡ sets (sets b 10 (all_bytes K l)) 0 (header_bytes K mark (length l))
    → c ≡ record_bytes K mark l ++ drop (record_length K (length l)) b
packed_record K is b c mark l h e =
    e ∙ sets_apart b 0 (header_bytes K mark (length l)) 10 (all_bytes K l) (omega (arith, length_header K mark (length l))) ∙ record_stores K is b mark l h
