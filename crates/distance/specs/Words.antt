-- A NUMBER IN TWO WORDS: where Nx² + Ny² is too great for a number of 64 bits, the code has it in two.
-- `declared.words.Words` is the code's struct, `high` and `low` its two numbers of 64 bits.
use Rattle.std.specs.Prelude.{◌≡◌, ℕ, ◌+◌, ◌*◌, ◌<◌}
use Rattle.distance.specs.declared.words.Words.{Words}

-- high · 2³² + low
abbrev pub value : Words → ℕ
value w = w.high * 4294967296 + w.low

-- They are the words of n: that number, and low is below 2³². A number has one such pair of words (`words_unique` of Laws/Words.antt).
pub record WordsOf (n : ℕ) (w : Words) : Type 0 where
  pub is : value w ≡ n
  pub normal : w.low < 4294967296
