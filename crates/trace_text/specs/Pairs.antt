-- Two digits of a number.
use Rattle.std.specs.Prelude.{ℕ, ◌+◌, ◌/◌, ◌%◌, List, [], ◌∷◌, ◌++◌}

-- the tens and the ones
abbrev pub pair : ℕ → List ℕ
pair n = (48 + n / 10) ∷ ((48 + n % 10) ∷ [])

-- four digits, and eight
abbrev pub four : ℕ → List ℕ
four n = pair (n / 100) ++ pair (n % 100)

abbrev pub eight : ℕ → List ℕ
eight n = four (n / 10000) ++ four (n % 10000)
