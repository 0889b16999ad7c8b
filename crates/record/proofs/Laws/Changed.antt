-- A record whose fixes are changed is refused as it was, if the checks of its fixes and of the call say the same of it: those of its head do.
use Rattle.std.specs.Prelude.{◌≡◌, Bool, ℕ, leb}
use Rattle.std.proofs.Math.Path.{refl}
use Rattle.std.proofs.Common.{sym, ◌∙◌}
use mathlib.Core.List.{List, [], ◌∷◌, ◌++◌, map}
use Rattle.std.proofs.Math.Option.{Option, some, none}
use Rattle.distance.specs.Fix.{Fix, last_of}
use Rattle.distance.specs.Laws.All.{All, all_none, all_more}
use Rattle.distance.proofs.Laws.All.{last_mapped}
use Rattle.format.proofs.Laws.Kinds.{same_kind_of}
use Rattle.format.specs.Laws.Changed.{SameHead}
use Rattle.record.specs.Checks.{Check, Given, sentence, first, head_checks, head_refusal, fix_outside, some_outside, some_early_after, some_early, other_silence, some_other_silence, of_ends}
use Rattle.record.proofs.Laws.First.{some_first, none_first}
use Rattle.record.proofs.Laws.Head.{asks}

-- sentences that say the same find the same first check
pub first_same : {says others : Check → Bool} {l : List Check} → All (λ (c : Check). others c ≡ says c) l → first others l ≡ first says l
unfolding first
first_same all_none = refl
first_same (all_more h t) = rw (h, first_same t) refl

-- ---- THE REFUSAL of a record c that has the head of b, asked g of b and h of c: the checks of the head say the same, and if none of them turns b away the
-- others are reached
module _ (b c : List ℕ) (same_head : SameHead b c) (g h : Given) where
  pub head_same : first (asks c h) head_checks ≡ first (asks b g) head_checks
  unfolding first sentence
  head_same = rw (same_kind_of b c same_head.same_kind, same_head.same_size, same_head.same_length, same_head.same_kind, same_head.same_mark, same_head.same_count) refl

  -- the head's checks ask for nothing that the call is handed
  head_alone : first (asks b g) head_checks ≡ head_refusal b
  unfolding first sentence
  head_alone = refl

  pub changed_refusal : (l : List Check) → (head_refusal b ≡ none → All (λ (q : Check). asks c h q ≡ asks b g q) l) → first (asks c h) (head_checks ++ l) ≡ first (asks b g) (head_checks ++ l)
  changed_refusal l same = go (first (asks b g) head_checks) refl
    where
      go : (r : Option ℕ) → first (asks b g) head_checks ≡ r → first (asks c h) (head_checks ++ l) ≡ first (asks b g) (head_checks ++ l)
      go (some k) e = some_first (asks c h) head_checks l k (head_same ∙ e) ∙ sym (some_first (asks b g) head_checks l k e)
      go none e = none_first (asks c h) head_checks l (head_same ∙ e) ∙ first_same (same (sym head_alone ∙ e)) ∙ sym (none_first (asks b g) head_checks l e)

-- ---- what the checks say of the fixes, each changed by f
module _ (f : Fix → Fix) where
  -- a place is outside as before, if each one is
  pub outside_changed : (limit : ℕ) {l : List Fix} → All (λ (a : Fix). fix_outside limit (f a) ≡ fix_outside limit a) l → some_outside limit (map f l) ≡ some_outside limit l
  unfolding some_outside
  outside_changed limit all_none = refl
  outside_changed limit (all_more {m = a} h t) = rw (h, outside_changed limit t) refl

  -- times are in order as before, if each two are
  module _ (in_order : (a b : Fix) → leb (f b).t (f a).t ≡ leb b.t a.t) where
    early_after_changed : (a : Fix) (l : List Fix) → some_early_after (f a).t (map f l) ≡ some_early_after a.t l
    unfolding some_early_after
    early_after_changed a [] = refl
    early_after_changed a (b ∷ l) = rw (in_order a b, early_after_changed b l) refl

    pub early_changed : (l : List Fix) → some_early (map f l) ≡ some_early l
    unfolding some_early
    early_changed [] = refl
    early_changed (a ∷ l) = early_after_changed a l

  -- a silence byte is as it was, if each one is
  pub silences_changed : ((a : Fix) → other_silence (f a) ≡ other_silence a) → (l : List Fix) → some_other_silence (map f l) ≡ some_other_silence l
  unfolding some_other_silence
  silences_changed same [] = refl
  silences_changed same (a ∷ l) = rw (same a, silences_changed same l) refl

  -- and of the first and the last it is said what was said before, if it is of each two
  pub ends_changed : (before after : Fix → Fix → Bool) → ((a b : Fix) → after (f a) (f b) ≡ before a b) → (l : List Fix) → of_ends after (map f l) ≡ of_ends before l
  unfolding of_ends
  ends_changed before after same [] = refl
  ends_changed before after same (a ∷ l) = rw (last_mapped f a l) (same a (last_of a l))
