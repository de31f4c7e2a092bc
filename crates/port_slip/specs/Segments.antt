-- The bytes of a line that loses single bits: its bits, cut at each full synchronisation (this project's profile; the
-- synchronisation is that of CoreSight Architecture Specification, Arm IHI 0029E (version 3.0), chapter 'Trace
-- Formatter', its section on frames, FF FF FF 7F with the low bit of each byte first).
use Rattle.std.specs.Prelude.{ℕ, zero, suc, ◌+◌, ◌%◌, List, [], ◌∷◌, length, flat_map, Bool, true, false, not}
use Rattle.port_slip.specs.Bits.{bits_of, whole_bytes}

-- n ones and a zero are at the beginning of these bits
abbrev pub begins : ℕ → List Bool → Bool
begins n [] = false
begins zero (x ∷ s) = not x
begins (suc n) (true ∷ s) = begins n s
begins (suc n) (false ∷ s) = false

-- the bits before the first segment, and the segments: each begins with 31 ones and a zero
pub record Cut : Type 0 where
  pub before : List Bool
  pub segments : List (List Bool)

-- the same with one more bit before it: it begins a segment, or it does not
abbrev pub with_bit : Bool → Bool → Cut → Cut
with_bit true x c = record { before = []; segments = (x ∷ c.before) ∷ c.segments }
with_bit false x c = record { before = x ∷ c.before; segments = c.segments }

-- bits, cut wherever 31 ones and a zero begin
abbrev pub cut : List Bool → Cut
cut [] = record { before = []; segments = [] }
cut (x ∷ s) = with_bit (begins 31 (x ∷ s)) x (cut s)

-- what is written of some bytes, how many bits were skipped and dropped, and how many patterns there were
pub record Realigned : Type 0 where
  pub bytes : List ℕ
  pub skipped : ℕ
  pub dropped : ℕ
  pub patterns : ℕ

-- how many bits of a segment are no whole byte
abbrev pub loose : List Bool → ℕ
loose s = length s % 8

-- and how many of all
abbrev pub all_loose : List (List Bool) → ℕ
all_loose [] = 0
all_loose (g ∷ gs) = loose g + all_loose gs

abbrev pub of_cut : Cut → Realigned
of_cut c = record {
  bytes = flat_map whole_bytes c.segments;
  skipped = length c.before;
  dropped = all_loose c.segments;
  patterns = length c.segments;
}

-- the realigned bytes, with their numbers
abbrev pub realigned : List ℕ → Realigned
realigned bytes = of_cut (cut (bits_of bytes))
