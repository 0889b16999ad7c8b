-- Numbers of several bytes. Document 01: "Little-endian", the lowest byte first; "two's complement both", of x and y.
use Rattle.std.specs.Prelude.{cond, List, [], ◌∷◌, ℕ, zero, suc, ◌+◌, ◌*◌, ◌-◌, ◌/◌, ◌%◌, ◌^◌, ◌<◌, ltb, get_or, ℤ, pos, negsuc, ◌-ℤ◌}
use Rattle.std.specs.Int.Signed.{mag}

-- The number that `size` bytes from the place `at` on say. Past the end a byte would be 0; no check is made there (Checks.antt).
unfoldable pub number_at : List ℕ → (at size : ℕ) → ℕ
number_at b at zero = 0
number_at b at (suc size) = get_or b at 0 + 256 * number_at b (suc at) size

-- The bytes of a number, `size` of them.
unfoldable pub bytes_of : (size n : ℕ) → List ℕ
bytes_of zero n = []
bytes_of (suc size) n = n % 256 ∷ bytes_of size (n / 256)

-- What an unsigned number of `size` bytes says in two's complement: itself in the lower half, else itself less 256 to the power of size.
unfoldable pub signed : (size n : ℕ) → ℤ
signed size n = cond (ltb (2 * n) (256 ^ size)) (pos n) (pos n -ℤ pos (256 ^ size))

-- The unsigned number that says z, for z in the range of `size` bytes (`InBytes` below).
unfoldable pub unsigned : (size : ℕ) → ℤ → ℕ
unsigned size (pos n) = n
unsigned size (negsuc n) = 256 ^ size - suc n

-- z is in the range of `size` bytes: half of their numbers are from 0 up, half below. `mag` is n of n and of −1 − n, so that both halves have as many.
pub record InBytes (size : ℕ) (z : ℤ) : Type 0 where
  pub in_bytes : 2 * mag z < 256 ^ size
