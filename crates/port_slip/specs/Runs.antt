-- Runs of ones in bits, read from the first on.
use Rattle.std.specs.Prelude.{◌≡◌, ◌≢◌, ℕ, suc, ◌+◌, ◌-◌, ◌/◌, ◌^◌, ◌≤◌, List, [], ◌∷◌, ◌++◌, length}
use Rattle.std.specs.Prelude.{Bool, true, false, ◌&&◌, nat_lt, min}
use Rattle.port_slip.specs.Bits.{bits, ones}

-- how many ones end these bits, which come after r ones
abbrev pub run_after : ℕ → List Bool → ℕ
run_after r [] = r
run_after r (true ∷ s) = run_after (suc r) s
run_after r (false ∷ s) = run_after 0 s

-- after r ones, no 31 ones and a zero end in these bits
abbrev pub is_quiet : ℕ → List Bool → Bool
is_quiet r [] = true
is_quiet r (true ∷ s) = is_quiet (suc r) s
is_quiet r (false ∷ s) = nat_lt r 31 && is_quiet 0 s

-- all but the first
abbrev pub later : List Bool → List Bool
later [] = []
later (x ∷ s) = s

-- The last bits of an open segment: no other segment begins in them, and this is the run of ones at their end; more
-- than 31 count as 31.
pub record IsWindow (run : ℕ) (k : List Bool) : Type 0 where
  pub long : 32 ≤ length k
  pub quiet : is_quiet 0 (later k) ≡ true
  pub run_is : run ≡ min 31 (run_after 0 (later k))

-- After a run of so many ones no pattern ends in these bits, and this is the run at their end; more than 31 count as
-- 31.
pub record RunsOn (run : ℕ) (s : List Bool) (next : ℕ) : Type 0 where
  pub quiet : is_quiet run s ≡ true
  pub next_is : next ≡ min 31 (run_after run s)

-- After a run of so many ones a pattern ends in this byte, with so many ones of the byte and the zero after them.
pub record EndsAfter (run byte count : ℕ) : Type 0 where
  pub zero_in : byte ≢ 255
  pub few : count ≤ 7
  pub enough : 31 ≤ run + count
  pub parts : bits 8 byte ≡ ones count ++ (false ∷ bits (7 - count) (byte / 2 ^ (count + 1)))
