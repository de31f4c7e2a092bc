-- What reads on after a fault while a source hunts (this project's profile).
use Rattle.std.specs.Prelude.{◌≡◌, ◌<◌, ◌⊎◌, ℕ, ◌+◌, List, [], ◌∷◌, ◌++◌, map, flat_map, Bool, true, false}
use Rattle.trace_values.specs.Placed.{Place, Placed}
use Rattle.trace_values.specs.Stream.{Said, StepFits, Stream}
use Rattle.trace_values.specs.declared.step.Step.{Step}
use Rattle.source_events.specs.Fitting.{PacketFits}
use Rattle.source_events.specs.declared.packet.Packet.{Packet}
use Rattle.source_events.specs.declared.plan.SourceKind.{SourceKind}
use Rattle.source_machine.specs.Machine as machine
use Rattle.source_machine.specs.Units as units
use Rattle.source_machine.specs.declared.machine.SourceMachine.{SourceMachine}
use Rattle.stretch_readings.specs.declared.heard.Heard.{Heard}
use Rattle.stretch_readings.specs.Stretches.{One, Stretches, from_fault, stretches}
use Rattle.stretch_readings.specs.Steps.{said_by}
use Rattle.stretch_readings.specs.Guessing.{AllBefore, as_guess, at_next, ends_in_fault, guess_of, near_of}
use Rattle.recovering_machines.specs.Source.{kind_of, reads_of}
use Rattle.recovering_machines.specs.declared.guess.Answer.{Answer}
use Rattle.recovering_machines.specs.declared.guess.Answer.TheVariants.{Sure, Guessed}
use Rattle.recovering_machines.specs.declared.guess.Guess.{Guess}
use Rattle.recovering_machines.specs.declared.source.RecoveringSource.{RecoveringSource}

-- what an answer to a byte at this offset says, as a guess; and what the source says in it with its guess
abbrev pub guessed_by : ℕ → Step Packet → List (Said (Heard Packet) × Place)
guessed_by at step = flat_map as_guess (said_by at step)

abbrev pub said_in : ℕ → Answer → List (Said (Heard Packet) × Place)
said_in at (Sure step) = said_by at step
said_in at (Guessed step) = guessed_by at step

abbrev pub AnswerFits : Answer → Type 0
AnswerFits (Sure step) = StepFits PacketFits step
AnswerFits (Guessed step) = StepFits PacketFits step

-- what stretches of a source say, with their guesses
abbrev pub near_by : RecoveringSource → Stretches → List (Said (Heard Packet) × Place)
near_by s r = near_of (reads_of s) from_fault r

-- the stretches of what is read on: after a fault of it the next unit begins a packet
abbrev pub read_on : (Bool → List Placed → Stream Packet) → List Placed → Stretches
read_on reads u = stretches reads at_next false (map One u)

-- A machine reads these units on: it stands for the last stretch of them.
pub record Continues (m : SourceMachine) (u : List Placed) : Type 0 where
  pub list : units.StandsOn m (read_on (units.reads_on m) u).now.units
  pub mode : units.reading_on m ≡ units.reads_on m false
  pub aligned : (read_on (units.reads_on m) u).now.hunts ≡ false

-- it read a byte on, to which this is the answer
pub record ReadsByte (old new : SourceMachine) (u : List Placed) (at byte : ℕ) (step : Step Packet) : Type 0 where
  pub goes : Continues new (u ++ units.units_at (units.kind_of old) at byte)
  pub given : guess_of (units.reads_on old) from_fault (u ++ units.units_at (units.kind_of old) at byte)
      ≡ guess_of (units.reads_on old) from_fault u ++ guessed_by at step

-- the first of these is before this offset
abbrev pub HasSaid : {W : Type 0} → ℕ → List (W × Place) → Type 0
HasSaid at [] = ⊥
HasSaid at (first ∷ said) = first.1.at < at

module _ (reads : Bool → List Placed → Stream Packet) (r : Stretches) where
  -- the last stretch comes after a fault
  abbrev pub comes_after_fault : Bool
  comes_after_fault = ends_in_fault reads from_fault false r.past

  -- The last stretch comes after a fault and has not locked, and the machine reads on its units after the first one.
  pub record ReadsOn (m : SourceMachine) : Type 0 where
    pub after : comes_after_fault ≡ true
    pub first : Placed
    pub rest : List Placed
    pub parts : r.now.units ≡ first ∷ rest
    pub seeks : (reads r.now.hunts r.now.units).locked ≡ false
    pub given : (reads r.now.hunts r.now.units).given ≡ []
    pub goes : Continues m rest

  -- Nothing more is guessed in the last stretch: it comes after no fault, or it locked before this offset.
  abbrev pub IsOver : ℕ → Type 0
  IsOver at = (comes_after_fault ≡ false) ⊎ HasSaid at (reads r.now.hunts r.now.units).given

  abbrev pub StateOf : Bool → SourceMachine → ℕ → Type 0
  StateOf true m at = ReadsOn m
  StateOf false m at = IsOver at

  -- A guess follows these stretches of units before this offset.
  pub record Tracks (kind : SourceKind) (g : Guess) (at : ℕ) : Type 0 where
    pub kind_is : units.kind_of g.machine ≡ kind
    pub reads_is : units.reads_on g.machine ≡ reads
    pub before : AllBefore at r.now.units
    pub state : StateOf g.is_reading g.machine at

abbrev pub Follows : Guess → RecoveringSource → ℕ → Stretches → Type 0
Follows g s at r = Tracks (reads_of s) r (kind_of s) g at

-- how many units it holds
abbrev pub total_of : Guess → ℕ
total_of g = machine.held_of g.machine + machine.skipped_by g.machine
