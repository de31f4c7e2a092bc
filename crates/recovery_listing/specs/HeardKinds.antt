-- What counts the events of a recovering report, and its items by their words.
use Rattle.std.specs.Prelude.{ℕ, List}
use Rattle.source_events.specs.declared.event.Event.{Event}
use Rattle.source_events.specs.declared.packet.Packet.{Packet}
use Rattle.stretch_readings.specs.declared.heard.Heard.{Heard}
use Rattle.recovery_engine.specs.Heard as heard
use Rattle.recovering_machines.specs.Hearing.{takes_seen}
use Rattle.capture_actions.specs.KindCounts as kinds
use Rattle.recovery_listing.specs.declared.heard_kinds.HeardKinds.{HeardKinds}

-- it has counted these events, too, and those that are read by their words
pub record HeardKindsGets (old : HeardKinds) (es : List (Event (Heard Packet))) (new : HeardKinds) : Type 0 where
  pub heard : heard.gets (old.heard, tt) es (new.heard, tt)
  pub kinds : takes_seen kinds.gets (old.kinds, tt) es (new.kinds, tt)

abbrev pub gets : HeardKinds × Unit {0} → List (Event (Heard Packet)) → HeardKinds × Unit {0} → Type 0
gets old es new = HeardKindsGets old.0 es new.0

-- how many more it counts
abbrev pub room : HeardKinds × Unit {0} → ℕ
room s = heard.room (s.0.heard, tt)
