-- THE CLAIM ABOUT THE DEAREST TRAIL. Document 02, item 13: it, "at tolerance 1, is to count exactly (n − 1)(n − 2)/2 for each n from 1 to 4,096, and no record of n
-- fixes counts more at any tolerance."
use Rattle.std.specs.Prelude.{◌≡◌, List, ℕ, ◌≤◌}
use Rattle.std.proofs.Math.Option.{none}
use Rattle.format.specs.Format.{count_field, fixes}
use Rattle.record.specs.Answers.{gives}
use Rattle.thinning.specs.Thinning.{thinning, greatest_count}
use Rattle.aging.specs.Aging.{Call, answered, age_answer, aged}
use Rattle.dearest.specs.Dearest.{dearest, dearest_refusal, dearest_marked, dearest_written}

-- Of every n from 1, by induction (`costs_most` of Laws/Claim.antt).
pub record CostsMost (n : ℕ) : Type 0 where
  -- "at tolerance 1, is to count exactly (n − 1)(n − 2)/2"
  pub counts : (thinning 1 (dearest n)).count ≡ greatest_count n
  -- "no record of n fixes counts more at any tolerance": whatever its kind, and whether it is accepted or not
  pub none_counts_more : (b : List ℕ) (e : ℕ) → count_field b ≡ n → (thinning e (fixes b)).count ≤ (thinning 1 (dearest n)).count
  -- of the calls: where it was written, its aging answers that count and leaves every fix, marked 1; and no aging of n fixes, by tolerance or by days and whatever
  -- table, answers more
  pub call_counts : (out : List ℕ) → dearest_refusal n out ≡ none → age_answer (dearest_written n out) 1 ≡ gives (greatest_count n)
  pub call_leaves : (out : List ℕ) → dearest_refusal n out ≡ none → aged (dearest_written n out) 1 ≡ dearest_marked 1 n out
  pub no_call_counts_more : (b : List ℕ) (c : Call) (k : ℕ) → count_field b ≡ n → answered b c ≡ gives k → k ≤ greatest_count n
