-- What a recovering source keeps (how it goes on after a fault is this project's profile).
use Rattle.std.specs.Prelude.{◌≡◌, ℕ, ◌+◌, List, ◌++◌, length, map, Bool, None}
use Rattle.std.specs.List.{sum_by}
use Rattle.trace_values.specs.Placed.{Placed}
use Rattle.trace_values.specs.Stream.{Stream, Grows}
use Rattle.trace_values.specs.declared.step.Step.{Step}
use Rattle.source_events.specs.declared.packet.Packet.{Packet}
use Rattle.source_events.specs.declared.plan.SourceKind.{SourceKind}
use Rattle.source_machine.specs.Machine as machine
use Rattle.source_machine.specs.Units as units
use Rattle.source_machine.specs.declared.machine.SourceMachine.{SourceMachine}
use Rattle.stretch_readings.specs.declared.heard.Heard.{Heard}
use Rattle.stretch_readings.specs.Stretches.{One, Stretches, fed_from, heard_of, from_fault, lost_in}
use Rattle.stretch_readings.specs.Steps.{raised}
use Rattle.recovering_machines.specs.Units.{ArePassed, AreWhole}
use Rattle.recovering_machines.specs.declared.source.RecoveringSource.{RecoveringSource}

-- what its units read as in a stretch
abbrev pub reads_of : RecoveringSource → Bool → List Placed → Stream Packet
reads_of s = units.reads_on s.machine

abbrev pub kind_of : RecoveringSource → SourceKind
kind_of s = units.kind_of s.machine

-- Its machine stands for the units of the last stretch, in that one's mode, after some that its hunt passes over first.
-- It has counted what was skipped before, without those.
pub record Keeps (m : SourceMachine) (past count : ℕ) (front : List Placed) (r : Stretches) : Type 0 where
  pub stands : units.StandsOn m (front ++ r.now.units)
  pub reading : units.reading_on m ≡ units.reads_on m r.now.hunts
  pub passed : ArePassed (units.reads_on m r.now.hunts) front
  pub past_is : past ≡ sum_by (lost_in (units.reads_on m) from_fault) r.past
  pub count_is : count + length front ≡ r.now.count

-- It stands for these stretches: its machine does, with units that are passed over where the last stretch begins in the
-- middle of a byte, so that all are those of whole bytes; and it knows whether that stretch hunts.
pub record Stands (s : RecoveringSource) (r : Stretches) : Type 0 where
  pub front : List Placed
  pub keeps : Keeps s.machine s.past s.count front r
  pub hunts : s.hunts ≡ r.now.hunts
  pub whole : AreWhole (kind_of s) (front ++ r.now.units)

-- what they read as
abbrev pub heard_by : RecoveringSource → Stretches → Stream (Heard Packet)
heard_by s r = heard_of (reads_of s) from_fault r

-- with the units of one more byte
abbrev pub with_byte : RecoveringSource → Stretches → ℕ → ℕ → Stretches
with_byte s r at byte = fed_from (reads_of s) from_fault r (map One (units.units_at (kind_of s) at byte))

-- The answer to a byte: with the byte's units, up to a fault's, the reading of the present stretch grew by this step,
-- whose lock has that one's count besides. Before the last of these units there is no fault.
pub record Answers (s : RecoveringSource) (r : Stretches) (at byte : ℕ) (step : Step Packet) : Type 0 where
  pub own : Step Packet
  pub is : step ≡ raised r.now.count own
  pub grows : Grows (reads_of s r.now.hunts r.now.units)
      (reads_of s r.now.hunts (r.now.units ++ units.taken_on (kind_of s) at byte own)) at own
  pub sound : (reads_of s r.now.hunts (r.now.units ++ units.before_on (kind_of s) at byte own)).fault ≡ None

-- how many units it holds and skipped
abbrev pub held_of : RecoveringSource → ℕ
held_of s = machine.held_of s.machine

abbrev pub skipped_of : RecoveringSource → ℕ
skipped_of s = s.past + s.count + machine.skipped_by s.machine

abbrev pub total_of : RecoveringSource → ℕ
total_of s = held_of s + skipped_of s
