-- Events that are given to a receiver.
use Rattle.std.specs.Prelude.{List}
use Rattle.source_events.specs.declared.event.Event.{Event}
use Rattle.source_events.specs.declared.packet.Packet.{Packet}
pub use Rattle.recovering_machines.specs.Hearing.{AddsUp}

-- Some events were given, and this is so of them.
abbrev pub GivesTo : {S : Type 0} → (S → List (Event Packet) → S → Type 0) → S → S →
    (List (Event Packet) → Type 0) → Type 0
GivesTo gets old new says = (es : List (Event Packet)) × gets old es new × says es
