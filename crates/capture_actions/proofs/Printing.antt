-- An event that fits has a line with the remark that suits it.
use Rattle.std.specs.Prelude.{◌≡◌, ℕ, Option, None, Some, IsSome, is_none, false, refl}
use Rattle.capture_actions.specs.Names.{Event, What, Raw, Packet, Itm, EventFits, PacketFits, Remark, Suits}
use Rattle.source_events.specs.declared.event.What.TheVariants.{Locked, Packet as Said, Trigger}
use Rattle.source_events.specs.declared.packet.Packet.TheVariants.{Stp}
use Rattle.source_events.specs.Fitting.{WhatFits}
use Rattle.trace_text.specs.Printable.{IsProperWhat, HasSource, IsPrintable}

there : (source : Option ℕ) → is_none source ≡ false → IsSome source
there None e = cc
there (Some x) e = refl

proper : (w : What Packet) (source : Option ℕ) → WhatFits PacketFits w source → IsProperWhat w
proper (Locked skipped) source f = tt
proper (Said (Itm packet)) source f = f.0
proper (Said (Stp item)) source f = f.0
proper (Raw bytes) source f = f.0
proper (Trigger byte) source f = tt

has_source : (w : What Packet) (source : Option ℕ) → WhatFits PacketFits w source → HasSource w source
has_source (Locked skipped) source f = tt
has_source (Said (Itm packet)) source f = there source f.1
has_source (Said (Stp item)) source f = there source f.1
has_source (Raw bytes) source f = there source f.1
has_source (Trigger byte) source f = there source f

pub printable : (e : Event Packet) (r : Remark) → EventFits PacketFits e → Suits e.what r → IsPrintable e r
printable e r f s = record { proper = proper e.what e.source f; suits = s; source = has_source e.what e.source f }
