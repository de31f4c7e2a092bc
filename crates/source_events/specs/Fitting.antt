-- Events whose numbers are in their ranges.
use Rattle.std.specs.Prelude.{◌≡◌, ◌<◌, ℕ, List, length, Bool, false, Option, is_none}
use Rattle.std.specs.List.{All}
use Rattle.itm_grammar.specs.Proper.{IsProper}
use Rattle.stp_grammar.specs.Proper.{IsProperItem}
use Rattle.source_events.specs.declared.event.Event.{Event}
use Rattle.source_events.specs.declared.event.What.{What}
use Rattle.source_events.specs.declared.event.What.TheVariants.{Locked, Packet as PacketEvent, Raw, Trigger}
use Rattle.source_events.specs.declared.packet.Packet.{Packet}
use Rattle.source_events.specs.declared.packet.Packet.TheVariants.{Itm, Stp}

-- the packet's numbers are in their ranges
abbrev pub PacketFits : Packet → Type 0
PacketFits (Itm packet) = IsProper packet
PacketFits (Stp item) = IsProperItem item

-- The packet of an event fits, a raw run is not empty, and all but a notice has a source.
abbrev pub WhatFits : {V : Type 0} → (V → Type 0) → What V → Option ℕ → Type 0
WhatFits fits (Locked skipped) source = Unit {0}
WhatFits fits (PacketEvent packet) source = fits packet × (is_none source ≡ false)
WhatFits fits (Raw bytes) source = (0 < length bytes) × (is_none source ≡ false)
WhatFits fits (Trigger byte) source = is_none source ≡ false

abbrev pub EventFits : {V : Type 0} → (V → Type 0) → Event V → Type 0
EventFits fits e = WhatFits fits e.what e.source

abbrev pub AllFit : {V : Type 0} → (V → Type 0) → List (Event V) → Type 0
AllFit fits es = All (λ e. EventFits fits e) es
