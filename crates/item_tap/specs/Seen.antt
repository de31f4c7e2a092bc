-- What a window stands for.
use Rattle.std.specs.Prelude.{◌≡◌, Bool, List}
use Rattle.source_events.specs.declared.event.Event.{Event}
use Rattle.source_events.specs.declared.packet.Packet.{Packet}
use Rattle.item_tap.specs.declared.bounds.Bounds.{Bounds}
use Rattle.item_tap.specs.declared.choice.Choice.{Choice}
use Rattle.item_tap.specs.declared.window.Window.{Window}
use Rattle.item_tap.specs.Windows.{is_open_after}

-- the window has seen these events, and no other
abbrev pub HasSeen : {R F Q G : Type 0} → (R → Event Packet → Bool) → (Q → Event Packet → Bool) → Window R F Q G →
    List (Event Packet) → Type 0
HasSeen first last window es = window.is_open ≡ is_open_after (first window.first) (last window.last) es

-- the choices of a window between two
abbrev pub bounds_of : {F G : Type 0} → Window Choice F Choice G → Bounds
bounds_of window = record { first = window.first; last = window.last }
