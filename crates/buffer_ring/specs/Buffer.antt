-- What a trace buffer stands for.
use Rattle.std.specs.Prelude.{◌≡◌, ℕ, ◌+◌, List, ◌++◌, length}
use Rattle.buffer_ring.specs.declared.buffer.TraceBuffer.{TraceBuffer}
use Rattle.buffer_ring.specs.Image.{image, pointer}

-- its memory, its size, and how many bytes were pushed
abbrev pub memory_of : TraceBuffer → List ℕ
memory_of b = b.bytes.items

abbrev pub size_of : TraceBuffer → ℕ
size_of b = length b.bytes.items

abbrev pub pushed_by : TraceBuffer → ℕ
pushed_by b = b.pushed

-- It was pushed these bytes: it has their image, and their pointer.
pub record Stands (b : TraceBuffer) (u : List ℕ) : Type 0 where
  pub count : pushed_by b ≡ length u
  pub bytes : b.bytes.items ≡ image (size_of b) u
  pub at : b.at ≡ pointer (size_of b) u

-- It was pushed these bytes after all others.
pub record Takes (old new : TraceBuffer) (bytes : List ℕ) : Type 0 where
  pub list : (u : List ℕ) → Stands old u → Stands new (u ++ bytes)
  pub size : size_of new ≡ size_of old
  pub count : pushed_by new ≡ pushed_by old + length bytes
