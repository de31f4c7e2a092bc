-- What the clocks of all sources stand for.
use Rattle.std.specs.Prelude.{ℕ, ◌<◌, List, [], filter, Option, None, Some, get_or, not}
use Rattle.capture_actions.specs.Names.{ID_COUNT, Event, Packet, is_of}
use Rattle.capture_actions.specs.Clocks.{Stands}
use Rattle.capture_actions.specs.Listing.{itm_packets}
use Rattle.capture_actions.specs.declared.clocks.Clocks.{Clocks}
use Rattle.capture_actions.specs.declared.source_clocks.SourceClocks.{SourceClocks}

-- those of each source have taken its packets among these events
abbrev pub AllStand : SourceClocks → List (Event Packet) → Type 0
AllStand clocks es =
    (x : ℕ) (d : Clocks) → x < ID_COUNT → Stands (get_or clocks.clocks x d) (itm_packets (Some x) es)

-- these events without those of a source, whose clocks begin anew, or without all
abbrev pub without : Option ℕ → List (Event Packet) → List (Event Packet)
without None es = []
without (Some id) es = filter (λ e. not (is_of (Some id) e.source)) es
