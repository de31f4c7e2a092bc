-- What the receiver of `text` was given, and how much more it has room for.
use Rattle.std.specs.Prelude.{◌≡◌, ℕ, ◌+◌, ◌-◌, ◌/◌, List, ◌++◌, length}
use Rattle.capture_actions.specs.Names.{Event, Packet, OUTLET_ROOM}
use Rattle.capture_actions.specs.PortText.{values_in}
use Rattle.capture_actions.specs.declared.port_values.PortValues.{PortValues}
use Rattle.capture_actions.specs.declared.port_values.TheConstants.{VALUE_ROOM, COPY_ROOM}

-- It put the values among these events. An outlet's value is the list of its bytes.
abbrev pub gets : PortValues × List ℕ → List (Event Packet) → PortValues × List ℕ → Type 0
gets old es new = (new.0 ≡ old.0) × (new.1 ≡ old.1 ++ values_in old.0.source old.0.port es)

-- An event puts one value at most, where there is room to copy one.
abbrev pub room : PortValues × List ℕ → ℕ
room s = (OUTLET_ROOM + VALUE_ROOM - COPY_ROOM - length s.1) / VALUE_ROOM
