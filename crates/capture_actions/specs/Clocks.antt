-- What the clocks of a source stand for.
use Rattle.std.specs.Prelude.{◌≡◌, List, flat_map}
use Rattle.capture_actions.specs.Names.{ItmPacket}
use Rattle.trace_clock.specs.GlobalClock as clock
use Rattle.capture_actions.specs.Remarks.{stamps_in, local_after}
use Rattle.capture_actions.specs.declared.clocks.Clocks.{Clocks}

-- they have taken these packets
pub record Stands (clocks : Clocks) (packets : List ItmPacket) : Type 0 where
  pub local : clocks.local ≡ local_after packets
  pub global : clock.Stands clocks.global (flat_map stamps_in packets)
