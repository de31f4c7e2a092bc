-- The action `ring`: what it means, and what it stands for.
use Rattle.std.specs.Prelude.{ℕ, List, [], false}
use Rattle.buffer_ring.specs.Buffer as buffers
use Rattle.buffer_ring.specs.Buffer.{memory_of, size_of, pushed_by}
use Rattle.buffer_ring.specs.Image.{image}
use Rattle.buffer_ring.specs.declared.buffer.TraceBuffer.{TraceBuffer}
use Rattle.capture_actions.specs.Names.{Meaning, Debt, owing}
use Rattle.trace_stream.specs.Owed.{last_of}
use Rattle.capture_actions.specs.declared.ring.Ring.{Ring}

-- no bytes have a fault, nothing is written for any, and this is at their end
abbrev pub at_end : (List ℕ → List ℕ) → Meaning
at_end ending = record { faulty = λ bytes. ⊥; text = λ bytes. []; ending = ending; due = false }

-- at the end comes the image of a buffer of this size
abbrev pub ring_meaning : ℕ → Meaning
ring_meaning size = at_end (image size)

-- its buffer
abbrev pub buffer_of : Ring → TraceBuffer
buffer_of ring = ring.buffer

-- the buffer was pushed these bytes
abbrev pub Stands : Ring → List ℕ → Type 0
Stands ring seen = buffers.Stands ring.buffer seen

-- the buffer's size stays the same
abbrev pub plan_of : Ring → ℕ
plan_of ring = size_of ring.buffer

abbrev pub taken_by : Ring → ℕ
taken_by ring = pushed_by ring.buffer

-- the last bytes of the image, at least one of which a call puts
abbrev pub debt_of : Ring → Debt
debt_of ring = owing (last_of ring.owed (memory_of ring.buffer)) ring.owed
