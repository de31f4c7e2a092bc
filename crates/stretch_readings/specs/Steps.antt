-- What the answers of a recovering machine say.
use Rattle.std.specs.Prelude.{ℕ, ◌+◌, List, [], ◌∷◌}
use Rattle.trace_values.specs.declared.step.Step.{Step}
use Rattle.trace_values.specs.declared.step.Step.TheVariants.{Quiet, Skipping, Item, Locked, Fault as Faulty}
use Rattle.trace_values.specs.Placed.{Place}
use Rattle.trace_values.specs.Stream.{Said, Notice, Kept}
use Rattle.stretch_readings.specs.declared.heard.Heard.{Heard}
use Rattle.stretch_readings.specs.declared.heard.Heard.TheVariants.{Read, Broken}

-- what an answer to a byte at this offset gives: a fault is said, too
abbrev pub said_by : {V : Type 0} → ℕ → Step V → List (Said (Heard V) × Place)
said_by at Quiet = []
said_by at Skipping = []
said_by at (Item half v) = (Kept (Read v), record { at = at; half = half }) ∷ []
said_by at (Locked skipped half v) =
    (Notice skipped, record { at = at; half = half }) ∷ ((Kept (Read v), record { at = at; half = half }) ∷ [])
said_by at (Faulty f) = (Kept (Broken f.reason), record { at = at; half = f.half }) ∷ []

-- an answer with its lock's count raised
abbrev pub raised : {V : Type 0} → ℕ → Step V → Step V
raised count Quiet = Quiet
raised count Skipping = Skipping
raised count (Item half v) = Item half v
raised count (Locked skipped half v) = Locked (count + skipped) half v
raised count (Faulty f) = Faulty f
