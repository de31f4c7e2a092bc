-- Where a port hunts again after a fault: from the first byte of the halfword or synchronisation in which the fault is
-- (this project's profile; the halfwords and synchronisations are those of CoreSight Architecture Specification, Arm
-- IHI 0029E (version 3.0), chapter 'Trace Formatter', its section on frames).
use Rattle.std.specs.Prelude.{ℕ, ◌+◌, ◌-◌, List, drop, length, Bool, true, false, Option, None, Some}
use Rattle.deformatter.specs.Names.{Placed, Found, hunt, PortItem, Full, State, start, rule, port_progress, pattern}
use Rattle.deformatter.specs.Rule.{part_size}

-- the state of the grammar's rule after these bytes; at a fault, the one before it
abbrev pub state_found : Option (Found State PortItem) → State
state_found None = start
state_found (Some f) = f.reading.state

abbrev pub state_by : Bool → List Placed → State
state_by false u = (port_progress u).state
state_by true u = state_found (hunt pattern Full rule start u).found

-- How many bytes up to the fault's are taken again, where these end with it: those of the halfword or synchronisation,
-- and the fault's own.
abbrev pub again : Bool → List Placed → ℕ
again hunts u = part_size (state_by hunts u).part + 1

abbrev pub taken_again : Bool → List Placed → List Placed
taken_again hunts u = drop (length u - again hunts u) u
