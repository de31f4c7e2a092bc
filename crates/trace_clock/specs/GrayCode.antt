-- Gray code of 64 bits, in which neighbouring numbers differ in one bit. Words of STP timestamps are Gray numbers under
-- protocol version 4, in this project's profile.
use Rattle.std.specs.Prelude.{ℕ, ◌+◌, ◌*◌, ◌%◌, ◌^◌}
use Rattle.std.specs.Int.{bit_at, sum_through}

-- the natural number of a Gray number: its bit i is the parity of the Gray number's bits from i up
unfoldable pub natural_of : ℕ → ℕ
natural_of gray = sum_through (λ i. sum_through (λ j. bit_at gray (i + j)) 63 % 2 * 2 ^ i) 63

-- the Gray number of a natural one: its bit i is 1 where bits i and i + 1 differ
unfoldable pub gray_of : ℕ → ℕ
gray_of natural = sum_through (λ i. (bit_at natural i + bit_at natural (i + 1)) % 2 * 2 ^ i) 63
