-- What a port reads at later offsets.
use Rattle.std.specs.Prelude.{ℕ, map}
use Rattle.resync_laws.specs.Names.{PortItem, Full, Half, Frame, PortStream, later_place, later_fault, later}

abbrev pub later_item : ℕ → PortItem → PortItem
later_item c Full = Full
later_item c Half = Half
later_item c (Frame f halves) = Frame (map (λ b. later c b) f) halves

abbrev pub later_port : ℕ → PortStream → PortStream
later_port c s = record {
  items = map (λ x. (later_item c x.0, later_place c x.1)) s.items;
  halves = s.halves;
  fault = later_fault c s.fault;
  tail = s.tail;
  skipped = s.skipped;
  locked = s.locked;
}
