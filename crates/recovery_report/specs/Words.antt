-- What the engine owes for one more part.
use Rattle.std.specs.Prelude.{◌≡◌, ℕ, ◌+◌, List, [], ◌∷◌, ◌++◌, map, Bool, Some}
use Rattle.trace_values.specs.declared.cell.Cell.{Cell}
use Rattle.trace_values.specs.Placed.{Place}
use Rattle.trace_values.specs.Stream.{Said}
use Rattle.deformatter.specs.declared.step.PortStep.{PortStep}
use Rattle.deformatter.specs.declared.step.PortStep.TheVariants.{Frame, Locked}
use Rattle.deformatter.specs.declared.step.PortStep.TheVariants.{Fault as Faulty}
use Rattle.source_events.specs.declared.packet.Packet.{Packet}
use Rattle.source_events.specs.declared.plan.Plan.{Plan}
use Rattle.source_events.specs.declared.plan.SourceKind.{SourceKind}
use Rattle.source_events.specs.Merge.{told}
use Rattle.source_events.specs.Report.{lifted}
use Rattle.source_events.specs.Runs.{runs_of}
use Rattle.stretch_readings.specs.declared.heard.Heard.{Heard}
use Rattle.stretch_readings.specs.Stretches.{One, fed_from, from_fault}
use Rattle.recovering_machines.specs.Run.{units_in}
use Rattle.source_machine.specs.Units.{reads_by}
use Rattle.recovery_report.specs.Report.{Part, Run, Locks, Breaks, added, said_in, stretches_of}

-- A run of a mapped source: its stretches take the run's units, and what they say more, with guesses or without, is
-- what that report has more.
pub record OwnRun (guesses : Bool) (plan : Plan) (kind : SourceKind) (x : ℕ) (parts : List Part)
    (run : List Cell) : Type 0 where
  pub list : stretches_of plan kind x (parts ++ Run run ∷ [])
      ≡ fed_from (reads_by plan.order kind) from_fault (stretches_of plan kind x parts) (map One (units_in kind run))
  pub more : (said : List (Said (Heard Packet) × Place)) →
      said_in guesses plan kind x (parts ++ Run run ∷ []) ≡ said_in guesses plan kind x parts ++ said →
      added guesses plan parts (Run run) ≡ told (Some x) (lifted said)

-- what a step of the port at this offset adds, with these cells where it ends a frame
abbrev pub parts_by : ℕ → ℕ → PortStep → List Cell → List Part
parts_by count at Frame cells = map Run (runs_of cells)
parts_by count at (Locked skipped) cells = Locks (count + skipped) (record { at = at; half = 0 }) ∷ []
parts_by count at (Faulty f) cells = Breaks f.reason (record { at = f.at; half = f.half }) ∷ []
parts_by count at x cells = []

-- cells each of which is a run of its own, as with no formatter; and cells that are all of one source
abbrev pub singles : List Cell → List Part
singles cells = map (λ c. Run (c ∷ [])) cells

abbrev pub AreOf : ℕ → List Cell → Type 0
AreOf x [] = Unit {0}
AreOf x (c ∷ cells) = (c.id ≡ Some x) × AreOf x cells
