-- A record with each fix changed: the head and the size stay, and the fixes are those that the new bytes say.
use Rattle.std.specs.Prelude.{◌≡◌, ℕ, ◌+◌, ◌*◌, ◌≤◌}
use Rattle.std.proofs.Math.Path.{refl, sym, ap}
use Rattle.std.proofs.Common.{◌∙◌}
use mathlib.Core.List.{List, ◌++◌, append_assoc, map, map-map}
use Rattle.std.proofs.Math.Nat.{mul-zero}
use native.Mathlib.Omega.{arith}
use Rattle.std.proofs.Math.ListN.{length, take, drop, length-take, length-map}
use Rattle.std.proofs.Math.Seq.{sets, length-sets, sets-eq}
use Rattle.distance.specs.Fix.{Fix}
use Rattle.distance.specs.Laws.All.{All}
use Rattle.distance.proofs.Laws.All.{all_map, all_sets}
use Rattle.format.specs.Kinds.{Kind}
use Rattle.format.specs.Format.{kind_of, record_length, each, fix_at, all_bytes, count_field, fixes, changed}
use Rattle.format.proofs.Laws.Kinds.{kind_of_is, same_kind_of}
use Rattle.format.proofs.Laws.Each.{length_each}
use Rattle.format.proofs.Laws.Stores.{number_before}
use Rattle.format.proofs.Laws.Layout.{length_all_bytes}
use Rattle.format.proofs.Laws.RoundTrip.{InRange, Storable, storable, said, all_said, read_fixes, AreBytes, fixes_are_bytes}
use Rattle.format.specs.Laws.Changed.{SameHead}

pub same_head_swap : {b c : List ℕ} → SameHead b c → SameHead c b
same_head_swap h = record { same_size = sym h.same_size; same_length = sym h.same_length; same_kind = sym h.same_kind; same_mark = sym h.same_mark; same_count = sym h.same_count }

module _ (f : Fix → Fix) (b : List ℕ) where
  abbrev K : Kind
  K = kind_of b

  abbrev new_bytes : List ℕ
  new_bytes = all_bytes K (map f (fixes b))

  pub changed_head : SameHead b (changed f b)
  unfolding changed
  changed_head = record {
    same_size = length-sets b 10 new_bytes;
    same_length = number_before b 10 new_bytes 0 4 (omega arith);
    same_kind = number_before b 10 new_bytes 4 2 (omega arith);
    same_mark = number_before b 10 new_bytes 6 2 (omega arith);
    same_count = number_before b 10 new_bytes 8 2 (omega arith);
  }

  pub changed_bytes : AreBytes b → AreBytes (changed f b)
  unfolding changed
  changed_bytes h = all_sets 10 (fixes_are_bytes K (map f (fixes b))) h

  pub changed_fixes : record_length K (count_field b) ≤ length b → All (Storable K) (map f (fixes b)) → fixes (changed f b) ≡ map (λ (a : Fix). said K (f a)) (fixes b)
  unfolding changed
  changed_fixes whole h =
      let is = kind_of_is b in
      let l = map f (fixes b) in
      let many : length l ≡ count_field b = length-map (fixes b) f ∙ length_each (fix_at K b) 0 (count_field b) in
      let size : length new_bytes ≡ K.size * count_field b = length_all_bytes K is l ∙ ap (λ (n : ℕ). K.size * n) many in
      let start : record_length K 0 ≡ 10 = rw mul-zero refl in
      let front : length (take 10 b) ≡ 10 = length-take 10 b ∙ omega arith in
      let e : sets b 10 new_bytes ≡ take 10 b ++ (new_bytes ++ drop (10 + length new_bytes) b) = sets-eq new_bytes b 10 (omega arith) ∙ append_assoc (take 10 b) new_bytes _ in
      let kind : kind_of (sets b 10 new_bytes) ≡ K = same_kind_of b (sets b 10 new_bytes) (number_before b 10 new_bytes 4 2 (omega arith)) in
      let count : count_field (sets b 10 new_bytes) ≡ length l = number_before b 10 new_bytes 8 2 (omega arith) ∙ sym many in
      ap (λ (J : Kind). each (fix_at J (sets b 10 new_bytes)) 0 (count_field (sets b 10 new_bytes))) kind
      ∙ ap (each (fix_at K (sets b 10 new_bytes)) 0) count
      ∙ ap (λ (c : List ℕ). each (fix_at K c) 0 (length l)) e
      ∙ read_fixes K is (take 10 b) (drop (10 + length new_bytes) b) 0 (front ∙ sym start) h ∙ map-map (said K) f (fixes b)

  -- those that are in range are the changed ones themselves
  pub changed_in_range : record_length K (count_field b) ≤ length b → All (InRange K) (map f (fixes b)) → fixes (changed f b) ≡ map f (fixes b)
  changed_in_range whole h = changed_fixes whole (all_map (storable K (kind_of_is b)) h) ∙ sym (map-map (said K) f (fixes b)) ∙ all_said K (kind_of_is b) h
