-- Records whose fixes have no byte of silence: no fix says that silence follows, and neither 20 nor 21 turns them away.
use Rattle.std.specs.Prelude.{◌≡◌, refl, false, List, [], ◌∷◌, ℕ}
use Rattle.distance.specs.Fix.{Fix}
use Rattle.distance.specs.Laws.All.{All, all_none, all_more}
use Rattle.distance.proofs.Laws.All.{all_last}
use Rattle.distance.proofs.Laws.Silence.{none_in_silence}
use Rattle.format.specs.Bytes.{number_at}
use Rattle.format.specs.Kinds.{Kind}
use Rattle.format.specs.Format.{kind_of, count_field, fix_from, fix_at, fixes}
use Rattle.format.proofs.Laws.Each.{each_all}
use Rattle.record.specs.Checks.{Given, bad_silence, moment_in_silence, sentence, some_other_silence, last_silent, of_ends}
use Rattle.record.proofs.Laws.Head.{asks}

abbrev pub NoSilence : Fix → Type 0
NoSilence f = f.silence ≡ 0

pub fix_heard : (K : Kind) (b : List ℕ) (k : ℕ) → K.silence_width ≡ 0 → NoSilence (fix_at K b k)
unfolding fix_at fix_from number_at
fix_heard K b k h = rw h refl

pub no_silence : (b : List ℕ) → (kind_of b).silence_width ≡ 0 → All NoSilence (fixes b)
no_silence b h = each_all (fix_at (kind_of b) b) 0 (count_field b) (λ k p q. fix_heard (kind_of b) b k h)

pub heard_known : {l : List Fix} → All NoSilence l → some_other_silence l ≡ false
unfolding some_other_silence
heard_known all_none = refl
heard_known (all_more h t) = rw (h, heard_known t) refl

pub heard_last : (l : List Fix) → All NoSilence l → of_ends last_silent l ≡ false
unfolding of_ends
heard_last [] h = refl
heard_last (f ∷ l) h = rw (all_last f l h) refl

pub no_silence_refused : (b : List ℕ) (g : Given) → (kind_of b).silence_width ≡ 0 → (asks b g bad_silence ≡ false) × (asks b g moment_in_silence ≡ false)
unfolding sentence
no_silence_refused b g h = let none = no_silence b h in (rw (heard_known none, heard_last (fixes b) none) refl, none_in_silence (fixes b) _ none)
