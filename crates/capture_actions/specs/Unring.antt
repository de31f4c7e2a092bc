-- The action `unring`: what it means, and what it stands for.
use Rattle.std.specs.Prelude.{ℕ, List, [], length, ◌==◌, if◌then◌else◌}
use Rattle.buffer_ring.specs.Buffer as buffers
use Rattle.buffer_ring.specs.Buffer.{memory_of, size_of, pushed_by}
use Rattle.buffer_ring.specs.Image.{ordered}
use Rattle.capture_actions.specs.Names.{Meaning, Debt, owing}
use Rattle.trace_stream.specs.Owed.{last_of}
use Rattle.capture_actions.specs.Ring.{at_end}
use Rattle.capture_actions.specs.declared.unring.Unring.{Unring}
use Rattle.capture_actions.specs.declared.unring_plan.UnringPlan.{UnringPlan}

-- the bytes of an image in order; nothing where these are none
abbrev pub in_order : UnringPlan → List ℕ → List ℕ
in_order plan bytes = if length bytes == plan.size then ordered bytes plan.pointer plan.full else []

-- at the end the bytes come in order if they are an image
abbrev pub unring_meaning : UnringPlan → Meaning
unring_meaning plan = at_end (in_order plan)

-- its buffer was pushed these bytes
abbrev pub Stands : Unring → List ℕ → Type 0
Stands unring seen = buffers.Stands unring.buffer seen

abbrev pub plan_of : Unring → UnringPlan
plan_of unring = record { size = size_of unring.buffer; pointer = unring.pointer; full = unring.full }

abbrev pub taken_by : Unring → ℕ
taken_by unring = pushed_by unring.buffer

-- what its memory has, in order
abbrev pub ordered_of : Unring → List ℕ
ordered_of unring = ordered (memory_of unring.buffer) unring.pointer unring.full

-- the last of that, at least one byte of which a call puts
abbrev pub debt_of : Unring → Debt
debt_of unring = owing (last_of unring.owed (ordered_of unring)) unring.owed
