-- What is noted of the bytes that were fed.
use Rattle.std.specs.Prelude.{◌≤◌, ℕ, List}
use Rattle.std.specs.declared.option.Option.{Option}
use Rattle.std.specs.Io.KnownBytes.{Appends}
use Rattle.trace_io.specs.Causes.{Rose}

-- the notes gained this text, unless they failed
abbrev pub Notes : Option (List ℕ) → Option (List ℕ) → ℕ → ℕ → List ℕ → Type 0
Notes held_old held_new faults_old faults_new text = (Rose faults_old faults_new → ⊥) → Appends held_old held_new text

-- what the notes took at a moment, and how often they failed
pub record Noted : Type 0 where
  pub held : Option (List ℕ)
  pub faults : ℕ

abbrev pub told : Option (List ℕ) → ℕ → Noted
told held faults = record { held = held; faults = faults }

-- an action stands for these bytes, and between two moments the notes gained what is noted of them
pub record HasTold (stands : List ℕ → Type 0) (noted : List ℕ → List ℕ) (first last : Noted) (seen : List ℕ)
    : Type 0 where
  pub read : stands seen
  pub gained : Notes first.held last.held first.faults last.faults (noted seen)
  pub later : first.faults ≤ last.faults
