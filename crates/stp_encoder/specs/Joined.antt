-- What a joiner of nibbles has joined and keeps.
use Rattle.std.specs.Prelude.{◌≡◌, ℕ, ◌+◌, ◌*◌, List, length, option_to_list}
use Rattle.stp_encoder.specs.declared.joiner.Joiner.{Joiner}
use Rattle.stp_encoder.specs.Bytes.{joined, odd_nibble}

-- of these nibbles these are the whole bytes, and an odd last one is kept
abbrev pub Joins : Joiner → List ℕ → List ℕ → Type 0
Joins joiner bytes nibbles = (bytes ≡ joined nibbles) × (joiner.low ≡ odd_nibble nibbles)

-- how many nibbles these bytes and the kept one are
abbrev pub count_in : Joiner → List ℕ → ℕ
count_in joiner bytes = 2 * length bytes + length (option_to_list joiner.low)
