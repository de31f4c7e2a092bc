-- What is counted adds up: proofs that the `impl` of its receiver cites.
use Rattle.std.proofs.Common.{List, [], ◌++◌}
use Rattle.source_events.specs.declared.event.Event.{Event}
use Rattle.source_events.specs.declared.packet.Packet.{Packet}
use Rattle.stretch_readings.specs.declared.heard.Heard.{Heard}
use Rattle.recovering_machines.specs.Hearing.{AddsUp, takes_seen}
use Rattle.recovering_machines.specs.HearingLaws.{seen_adds_up}
use Rattle.recovery_engine.specs.HeardLaws as heard
use Rattle.capture_actions.specs.KindCounts as counts
use Rattle.capture_actions.specs.KindCountsLaws as laws
use Rattle.recovery_listing.specs.HeardKinds.{gets}
use Rattle.recovery_listing.specs.declared.heard_kinds.HeardKinds.{HeardKinds}

counted : AddsUp (takes_seen counts.gets)
counted = seen_adds_up counts.gets laws.adds_up

gets_none : (s : HeardKinds × Unit {0}) → gets s [] s
gets_none s = record {
  heard = heard.adds_up.none (s.0.heard, tt);
  kinds = counted.none (s.0.kinds, tt);
}

gets_more : (a b c : HeardKinds × Unit {0}) (es fs : List (Event (Heard Packet))) → gets a es b → gets b fs c →
    gets a (es ++ fs) c
gets_more a b c es fs g h = record {
  heard = heard.adds_up.more (a.0.heard, tt) (b.0.heard, tt) (c.0.heard, tt) es fs g.heard h.heard;
  kinds = counted.more (a.0.kinds, tt) (b.0.kinds, tt) (c.0.kinds, tt) es fs g.kinds h.kinds;
}

pub adds_up : AddsUp gets
adds_up = record { none = gets_none; more = gets_more }
