-- How far the pieces that are put down one after another go, and what room they leave.
use Rattle.std.specs.Prelude.{◌≡◌, refl, List, ℕ, ◌+◌, length}
use Rattle.std.proofs.Common.{◌∙◌, ap, arith}
use Rattle.std.proofs.Math.Seq.{length-sets}
use Rattle.text.specs.declared.Listing.{Listing}
use Rattle.text.specs.Listing.{HasRoom, Adds, AddsAtMost}

length_kept : (s t : Listing) {l : List ℕ} → Adds s t l → length t.out.now ≡ length s.out.now
length_kept s t {l} a = ap length a.holds_it ∙ length-sets s.out.now s.end l

-- behind a piece there is as much room less
pub room_after : (s t : Listing) {l : List ℕ} (n : ℕ) → Adds s t l → HasRoom s (length l + n) → HasRoom t n
room_after s t n a h = omega (arith, a.ends, length_kept s t a, h)

-- pieces of no more than n bytes were put down in the same output
pub record Within (n : ℕ) (s t : Listing) : Type 0 where
  pub short : AddsAtMost n s t
  pub length_same : length t.out.now ≡ length s.out.now

pub begun : {s : Listing} → Within 0 s s
begun = record { short = omega arith; length_same = refl }

pub goes_on : {s t u : Listing} {l : List ℕ} {m : ℕ} (n : ℕ) → Within m s t → Adds t u l → AddsAtMost n t u → Within (m + n) s u
goes_on {s} {t} {u} n w a h = record { short = omega (arith, w.short, h); length_same = length_kept t u a ∙ w.length_same }

pub room_in : {s t : Listing} {m : ℕ} (n : ℕ) → Within m s t → HasRoom s (m + n) → HasRoom t n
room_in n w h = omega (arith, w.short, w.length_same, h)
