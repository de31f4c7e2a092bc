-- What the account of `text` that goes on after faults stands for.
use Rattle.std.specs.Prelude.{◌≡◌, ℕ, List, []}
use Rattle.source_events.specs.declared.event.Event.{Event}
use Rattle.source_events.specs.declared.packet.Packet.{Packet}
use Rattle.source_events.specs.declared.plan.Plan.{Plan}
use Rattle.stretch_readings.specs.declared.heard.Heard.{Heard}
use Rattle.recovering_machines.specs.Hearing.{takes_read, takes_seen}
use Rattle.capture_actions.specs.PortText.{source_of}
use Rattle.capture_actions.specs.PortValues as strict
use Rattle.capture_actions.specs.declared.port_text_plan.PortTextPlan.{PortTextPlan}
use Rattle.capture_actions.specs.declared.port_values.PortValues.{PortValues}
use Rattle.recovery_listing.specs.Account.{Pages}
use Rattle.recovery_listing.specs.Listing.{is_faulty}
use Rattle.recovery_listing.specs.Noting.{NotesGets}
use Rattle.recovery_listing.specs.Recovering as action
use Rattle.recovery_listing.specs.Recovering.{how_of}
use Rattle.recovery_listing.specs.declared.going_on.GoingOn.{GoingOn}
use Rattle.recovery_listing.specs.declared.noting.Noting.{Noting}
use Rattle.recovery_listing.specs.declared.recovering.Recovering.{Recovering}

-- what is asked of a capture that is read so
abbrev pub asked : Noting PortValues → GoingOn Plan → GoingOn PortTextPlan
asked noting how = record { plan = record { plan = how.plan; port = noting.receiver.port }; guesses = how.guesses }

-- it puts the values of the plan's source, and knows whether the report of these bytes has a fault
pub record HasPut (noting : Noting PortValues) (how : GoingOn Plan) (seen : List ℕ) : Type 0 where
  pub source : noting.receiver.source ≡ source_of how.plan
  pub faulty : noting.is_faulty ≡ is_faulty how.plan seen

abbrev pub gets : Noting PortValues × Pages → List (Event (Heard Packet)) → Noting PortValues × Pages → Type 0
gets old es new = NotesGets (takes_read (takes_seen strict.gets)) old es new

-- no line is to be noted
abbrev pub IsSilent : Noting PortValues → ℕ → Type 0
IsSilent noting count = noting.lines ≡ []

-- what the action was asked for, and what it stands for
abbrev pub plan_of : Recovering (Noting PortValues) → GoingOn PortTextPlan
plan_of text = asked text.account (how_of text)

abbrev pub Stands : Recovering (Noting PortValues) → List ℕ → Type 0
Stands text seen = action.Stands HasPut text seen

abbrev pub IsLive : Recovering (Noting PortValues) → Type 0
IsLive text = text.account.lines ≡ []
