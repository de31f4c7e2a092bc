-- What a receiver of a strict report is given of a recovering one, and what is noted beside it.
use Rattle.std.specs.Prelude.{◌≡◌, ◌||◌, ◌-◌, ◌/◌, ℕ, List, [], ◌∷◌, ◌++◌, flat_map, length, min, Option, None, Some}
use Rattle.std.specs.Prelude.{Result, Ok, Err, Bool, true, false}
use Rattle.trace_values.specs.declared.fault.Reason.{Reason}
use Rattle.trace_values.specs.Placed.{Place}
use Rattle.itm_grammar.specs.declared.packet.ItmPacket.TheVariants.{Overflow}
use Rattle.source_events.specs.declared.event.Event.{Event}
use Rattle.source_events.specs.declared.event.What.{What}
use Rattle.source_events.specs.declared.event.What.TheVariants.{Packet as Said}
use Rattle.source_events.specs.declared.packet.Packet.{Packet}
use Rattle.source_events.specs.declared.packet.Packet.TheVariants.{Itm}
use Rattle.source_events.specs.Merge.{place_of}
use Rattle.stretch_readings.specs.declared.heard.Heard.{Heard}
use Rattle.stretch_readings.specs.declared.heard.Heard.TheVariants.{Misread}
use Rattle.recovering_machines.specs.Hearing.{as_event, as_strict}
use Rattle.recovery_report.specs.Report.{sure_events}
use Rattle.trace_stream.specs.declared.outlet.TheConstants.{OUTLET_ROOM, TEXT_ROOM}
use Rattle.recovery_listing.specs.Account.{Pages}
use Rattle.recovery_listing.specs.Listing.{has_fault}
use Rattle.recovery_listing.specs.FaultLines.{fault_lines}
use Rattle.recovery_listing.specs.declared.noting.Noting.{Noting}

-- what a guess would be wrong by: nothing is lost there that was not lost before
abbrev pub is_misread : What (Heard Packet) → Bool
is_misread (Said (Misread reason)) = true
is_misread what = false

-- whose packets are lost at a fault: those of its source, and at one of the port those of the source that is looked at
abbrev pub loser_of : Option ℕ → Option ℕ → Option ℕ
loser_of own None = own
loser_of own (Some x) = Some x

-- the overflow packet that stands for them
abbrev pub loss_at : Place → Option ℕ → List (Event Packet)
loss_at place None = []
loss_at place (Some x) = record { at = place.at; half = place.half; source = Some x; what = Said (Itm Overflow) } ∷ []

-- what an event is where a fault counts as an overflow packet: where one source is looked at
abbrev pub given_by : Option ℕ → Event (Heard Packet) → Result (What Packet) Reason → List (Event Packet)
given_by own e (Ok what) = as_event e what ∷ []
given_by own e (Err reason) = loss_at (place_of e) (loser_of own e.source)

abbrev pub given_of : Option ℕ → Event (Heard Packet) → Bool → List (Event Packet)
given_of own e true = []
given_of own e false = given_by own e (as_strict e.what)

-- those of all events, in order
abbrev pub with_losses : Option ℕ → List (Event (Heard Packet)) → List (Event Packet)
with_losses own es = flat_map (λ e. given_of own e (is_misread e.what)) es

-- The receiver was given these events, where a fault counts as an overflow packet, and puts into the outlet, whose
-- value is the list of its bytes; the lines of the faults were added to those that are to be noted; and it knows
-- whether a fault came.
pub record NotingGets {R : Type 0} (own : (R × List ℕ) → List (Event Packet) → (R × List ℕ) → Type 0)
    (old : Noting R × List ℕ) (es : List (Event (Heard Packet))) (new : Noting R × List ℕ) : Type 0 where
  pub same : new.0.source ≡ old.0.source
  pub receiver : own (old.0.receiver, old.1) (with_losses old.0.source es) (new.0.receiver, new.1)
  pub lines : new.0.lines ≡ old.0.lines ++ fault_lines (sure_events es)
  pub faulty : new.0.is_faulty ≡ (old.0.is_faulty || has_fault (sure_events es))

-- the same with the lines of the faults after the notes that there were
pub record NotesGets {R : Type 0} (own : (R × List ℕ) → List (Event Packet) → (R × List ℕ) → Type 0)
    (old : Noting R × Pages) (es : List (Event (Heard Packet))) (new : Noting R × Pages) : Type 0 where
  pub same : new.0.source ≡ old.0.source
  pub receiver : own (old.0.receiver, old.1.text) (with_losses old.0.source es) (new.0.receiver, new.1.text)
  pub notes : new.1.notes ≡ old.1.notes ++ fault_lines (sure_events es)
  pub faulty : new.0.is_faulty ≡ (old.0.is_faulty || has_fault (sure_events es))

-- an event is given to the receiver once at most, and is one line at most
abbrev pub room : {R : Type 0} → ((R × List ℕ) → ℕ) → Noting R × List ℕ → ℕ
room own s = min (own (s.0.receiver, s.1)) ((OUTLET_ROOM - length s.0.lines) / TEXT_ROOM)
