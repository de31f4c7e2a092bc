-- What the reading of an input did.
use Rattle.std.specs.Prelude.{◌≡◌, ℕ, ◌+◌, ◌<◌, ◌≤◌, List, [], ◌++◌, length, true, false}
use Rattle.std.specs.declared.option.Option.{Option}
use Rattle.std.specs.Io.KnownBytes.{Consumes, IsAtEnd}
use Rattle.trace_io.specs.Bytes.{AppendsPrefix}
use Rattle.trace_io.specs.Causes.{Rose}
use Rattle.trace_stream.specs.BuffersState.{BuffersState}
use Rattle.trace_stream.specs.Fed.{Writing, StandsAfter}
use Rattle.trace_stream.specs.Served.{Meaning, Ends}
use Rattle.trace_stream.specs.declared.outcome.Outcome.{Outcome}
use Rattle.trace_stream.specs.declared.outcome.Outcome.TheVariants.{AtEnd, FaultFound, ReadFailed, WriteFailed}
use Rattle.trace_stream.specs.declared.outcome.Outcome.TheVariants.{OverLimit}
use Rattle.trace_stream.specs.Recent.{last_sixteen}

-- how far the reading of an input got: what the input has left, the way of the text, the bytes that were fed, the last
-- of them that are kept, and the extra bytes, which were read and not fed
pub record Reach : Type 0 where
  pub left : Option (List ℕ)
  pub writing : Writing
  pub seen : List ℕ
  pub recent : List ℕ
  pub extra : List ℕ

-- how things are after the bytes that were fed, by the way in which the reading ended
abbrev pub PumpOutcome : (List ℕ → Type 0) → Meaning → ℕ → Reach → Outcome → Type 0
PumpOutcome stands m limit p AtEnd = StandsAfter stands m p.writing false p.seen × (p.extra ≡ []) × IsAtEnd p.left
PumpOutcome stands m limit p FaultFound =
    StandsAfter stands m p.writing true p.seen × (p.recent ≡ last_sixteen p.seen)
PumpOutcome stands m limit p ReadFailed =
    StandsAfter stands m p.writing false p.seen × (p.extra ≡ []) × (p.writing.pending ≡ [])
PumpOutcome stands m limit p WriteFailed =
    AppendsPrefix p.writing.start p.writing.held (m.text p.seen) × stands p.seen
PumpOutcome stands m limit p OverLimit =
    StandsAfter stands m p.writing false p.seen
    × (length p.seen ≡ limit) × (0 < length p.extra) × (p.writing.pending ≡ [])

-- these bytes were fed, and further bytes were only read
pub record HasPumped (stands : List ℕ → Type 0) (m : Meaning) (limit : ℕ) (old new : Ends) (buffers : BuffersState)
    (result : Outcome) : Type 0 where
  pub seen : List ℕ
  pub extra : List ℕ
  pub lost : Consumes old.left new.left (seen ++ extra)
  pub within : length seen ≤ limit
  pub at_most : length seen + length extra ≤ limit + 1
  pub outcome : PumpOutcome stands m limit (record {
    left = new.left;
    writing = record { start = old.held; held = new.held; pending = buffers.pending };
    seen = seen;
    recent = buffers.recent;
    extra = extra;
  }) result

-- what the two ends of a run count: the reads that gave no byte, and the faults of either
pub record Counts : Type 0 where
  pub empty_reads : ℕ
  pub read_faults : ℕ
  pub write_faults : ℕ

abbrev pub counts : ℕ → ℕ → ℕ → Counts
counts empty_reads read_faults write_faults =
    record { empty_reads = empty_reads; read_faults = read_faults; write_faults = write_faults }

-- at most one read gave no byte, no count of faults fell, and a run fails only where a count of faults rose or is at
-- its last value
pub record HasCauses (old new : Counts) (result : Outcome) : Type 0 where
  pub one_empty_read : new.empty_reads ≤ old.empty_reads + 1
  pub read_later : old.read_faults ≤ new.read_faults
  pub write_later : old.write_faults ≤ new.write_faults
  pub read_cause : result ≡ ReadFailed → Rose old.read_faults new.read_faults
  pub write_cause : result ≡ WriteFailed → Rose old.write_faults new.write_faults
