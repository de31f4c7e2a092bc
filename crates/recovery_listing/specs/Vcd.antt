-- What the account of `vcd` that goes on after faults stands for.
use Rattle.std.specs.Prelude.{◌≡◌, ℕ, List, [], ◌∷◌, ◌++◌, Bool, true, false, if◌then◌else◌}
use Rattle.source_events.specs.declared.event.Event.{Event}
use Rattle.source_events.specs.declared.packet.Packet.{Packet}
use Rattle.source_events.specs.declared.plan.Plan.{Plan}
use Rattle.stretch_readings.specs.declared.heard.Heard.{Heard}
use Rattle.capture_actions.specs.PortText.{source_of}
use Rattle.value_dump.specs.Dumping as dumping
use Rattle.value_dump.specs.Header.{header}
use Rattle.value_dump.specs.SourceDump as strict
use Rattle.value_dump.specs.declared.vcd_plan.VcdPlan.{VcdPlan}
use Rattle.recovering_machines.specs.Hearing.{takes_read, takes_seen}
use Rattle.recovery_listing.specs.Account.{Pages, events_of}
use Rattle.recovery_listing.specs.Dump.{packets_in}
use Rattle.recovery_listing.specs.Listing.{is_faulty}
use Rattle.recovery_listing.specs.Noting.{NotesGets}
use Rattle.recovery_listing.specs.Recovering as action
use Rattle.recovery_listing.specs.Recovering.{how_of}
use Rattle.recovery_listing.specs.declared.going_on.GoingOn.{GoingOn}
use Rattle.recovery_listing.specs.declared.recovering.Recovering.{Recovering}
use Rattle.recovery_listing.specs.declared.vcd.RecoveringDump.{RecoveringDump}

-- what is asked of a capture that is read so
abbrev pub asked : RecoveringDump → GoingOn Plan → GoingOn VcdPlan
asked dump how =
    record { plan = record { plan = how.plan; hz = dumping.hz_of dump.noting.receiver.dump }; guesses = how.guesses }

-- some bytes were read
abbrev pub is_begun : List ℕ → Bool
is_begun [] = false
is_begun (byte ∷ bytes) = true

-- its dump took the packets of the plan's source, and it knows whether there was a byte, and whether the report of
-- these bytes has a fault
pub record HasDumped (account : RecoveringDump) (how : GoingOn Plan) (seen : List ℕ) : Type 0 where
  pub source : account.noting.source ≡ source_of how.plan
  pub own : account.noting.receiver.source ≡ source_of how.plan
  pub dump : dumping.Stands account.noting.receiver.dump (packets_in (source_of how.plan) (events_of how seen))
  pub begun : account.is_begun ≡ is_begun seen
  pub faulty : account.noting.is_faulty ≡ is_faulty how.plan seen

-- what is put before these events: the header, where nothing was read before
abbrev pub begun_with : RecoveringDump × Pages → Pages
begun_with old = record {
  text = old.1.text
      ++ (if old.0.is_begun then [] else header (dumping.hz_of old.0.noting.receiver.dump));
  notes = old.1.notes;
}

-- the lines of these events were put, and the lines of the faults among them noted, where nothing was
pub record DumpGets (old : RecoveringDump × Pages) (es : List (Event (Heard Packet))) (new : RecoveringDump × Pages)
    : Type 0 where
  pub noting : NotesGets (takes_read (takes_seen strict.gets)) (old.0.noting, begun_with old) es (new.0.noting, new.1)
  pub begun : new.0.is_begun ≡ true

abbrev pub gets : RecoveringDump × Pages → List (Event (Heard Packet)) → RecoveringDump × Pages → Type 0
gets old es new = DumpGets old es new

-- no line is to be noted, and nothing is pending before the first byte
abbrev pub IsReady : RecoveringDump → ℕ → Type 0
IsReady dump count =
    (dump.noting.lines ≡ []) × (dump.is_begun ≡ false → dumping.owed_by dump.noting.receiver.dump ≡ 0)

-- what the action was asked for, and what it stands for
abbrev pub plan_of : Recovering RecoveringDump → GoingOn VcdPlan
plan_of vcd = asked vcd.account (how_of vcd)

abbrev pub Stands : Recovering RecoveringDump → List ℕ → Type 0
Stands vcd seen = action.Stands HasDumped vcd seen

abbrev pub IsLive : Recovering RecoveringDump → Type 0
IsLive vcd = IsReady vcd.account (action.taken_by vcd)
