-- What the feeding of a piece did.
use Rattle.std.specs.Prelude.{◌≡◌, ℕ, ◌+◌, ◌≤◌, List, [], ◌++◌, take, Bool, false, Result, Ok, Err}
use Rattle.std.specs.declared.option.Option.{Option}
use Rattle.trace_io.specs.Bytes.{AppendsPrefix, TakesFront}
use Rattle.trace_io.specs.declared.source.Failed.{Failed}
use Rattle.trace_stream.specs.Served.{Meaning}
use Rattle.trace_stream.specs.Taken.{FaultAfter}
use Rattle.trace_stream.specs.declared.action.Progress.{Progress}

-- the way of the text: what the output showed at the start of the run, what it shows now, and what is pending before it
pub record Writing : Type 0 where
  pub start : Option (List ℕ)
  pub held : Option (List ℕ)
  pub pending : List ℕ

-- after these bytes, which have no fault or with the last of which one became certain, their text is in the output but
-- for what is pending
pub record StandsAfter (stands : List ℕ → Type 0) (m : Meaning) (w : Writing) (is_faulty : Bool) (seen : List ℕ)
    : Type 0 where
  pub read : stands seen
  pub fault : FaultAfter m.faulty seen is_faulty
  pub written : TakesFront w.start w.held (m.text seen) w.pending

-- how the action, the outlet and the output are after the bytes seen and a front of a piece
abbrev pub HasFed : (List ℕ → Type 0) → Meaning → Writing → List ℕ → List ℕ → Result Progress Failed → Type 0
HasFed stands m w seen piece (Ok fed) = StandsAfter stands m w fed.is_faulty (seen ++ take fed.bytes piece)
HasFed stands m w seen piece (Err failed) =
    (bytes : ℕ) × AppendsPrefix w.start w.held (m.text (seen ++ take bytes piece)) × stands (seen ++ take bytes piece)

-- of a piece of this size the action took bytes; where they have no fault it took all of it and may be fed more, and
-- nothing is pending
pub record IsFed (alive : Type 0) (before now size : ℕ) (pending : List ℕ) (fed : Progress) : Type 0 where
  pub within : fed.bytes ≤ size
  pub count : now ≡ before + fed.bytes
  pub all : fed.is_faulty ≡ false → alive × (fed.bytes ≡ size) × (pending ≡ [])
