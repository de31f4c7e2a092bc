-- The reading of a whole capture's port.
use Rattle.std.specs.Prelude.{◌≡◌, ℕ, List, is_none, false}
use Rattle.capture_actions.specs.Names.{placed, FramesMode, PortReading, port_reading}

-- what the bytes of a capture read as at the port
abbrev pub port_of : FramesMode → List ℕ → PortReading
port_of mode bytes = port_reading mode (placed bytes)

-- the port's reading of these bytes has a fault
abbrev pub IsPortFaulty : FramesMode → List ℕ → Type 0
IsPortFaulty mode bytes = is_none (port_of mode bytes).fault ≡ false
