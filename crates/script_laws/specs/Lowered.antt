-- Hexadecimal digits in lower case.
use Rattle.std.specs.Prelude.{ℕ, ◌+◌, ◌&&◌, nat_le, if◌then◌else◌}

-- the letters A to F, 65 to 70, as a to f. No word of a line that says an item has one but in a number
abbrev pub lowered : ℕ → ℕ
lowered b = if nat_le 65 b && nat_le b 70 then b + 32 else b
