-- What a realigner stands for.
use Rattle.std.specs.Prelude.{◌≡◌, ℕ, ◌+◌, ◌≤◌, List, ◌++◌, length, Bool}
use Rattle.port_slip.specs.declared.slip.Slip.{Slip}
use Rattle.port_slip.specs.Bits.{bits_of}
use Rattle.port_slip.specs.Segments.{Realigned, realigned}
use Rattle.port_slip.specs.Coming.{coming, held_in, of_open, opened}

-- what is still to come when these bytes are pushed and it is finished
abbrev pub to_come : Slip → List ℕ → Realigned
to_come s more = coming s.phase (bits_of more)

-- this much was written, and these numbers counted, and then comes the rest
abbrev pub joined : List ℕ → Slip → Realigned → Realigned
joined so_far s r = record {
  bytes = so_far ++ r.bytes;
  skipped = s.skipped + r.skipped;
  dropped = s.dropped + r.dropped;
  patterns = s.patterns + r.patterns;
}

-- how many bytes were pushed
abbrev pub pushed_by : Slip → ℕ
pushed_by s = s.pushed

-- how many bits of the open segment it keeps
abbrev pub held_by : Slip → ℕ
held_by s = held_in s.phase

-- It stands for these bytes, of which this much is written: whatever is pushed after them, what is written and what is
-- still to come are the realigned bytes of all, and so are the numbers.
pub record Stands (s : Slip) (bytes so_far : List ℕ) : Type 0 where
  pub count : pushed_by s ≡ length bytes
  pub completes : (more : List ℕ) → realigned (bytes ++ more) ≡ joined so_far s (to_come s more)

-- So many bits are kept of the open segment of these bytes, of which this much is written: whatever bytes come, the
-- rest of the realigned bytes is that of these bits and those of the bytes.
pub record Keeps (bytes so_far : List ℕ) (count : ℕ) : Type 0 where
  pub kept : List Bool
  pub long : length kept ≡ count
  pub rest : (more : List ℕ) →
      (realigned (bytes ++ more)).bytes ≡ so_far ++ (of_open (opened (kept ++ bits_of more))).bytes

-- Between these two it took these bytes, and with them these became sure of the realigned bytes.
pub record Takes (old new : Slip) (bytes sure : List ℕ) : Type 0 where
  pub count : pushed_by new ≡ pushed_by old + length bytes
  pub few : length sure ≤ length bytes
  pub list : (before so_far : List ℕ) → Stands old before so_far → Stands new (before ++ bytes) (so_far ++ sure)
