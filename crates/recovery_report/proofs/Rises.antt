-- What a source's units say more with one more unit is at its place.
use Rattle.std.proofs.Common.{List, [], ◌∷◌, ◌++◌, ◌∙◌, ap, Bool}
use Rattle.trace_values.specs.Placed.{Place, Placed}
use Rattle.trace_values.specs.Stream.{Said, Stream}
use Rattle.trace_values.specs.Walk.{by_unit}
use Rattle.trace_values.proofs.Decorating as decorating
use Rattle.trace_values.proofs.Modes as modes
use Rattle.trace_values.proofs.OneUnit.{AllOn, RisesOn}
use Rattle.itm_grammar.specs.declared.packet.ItmPacket.TheVariants.{Sync}
use Rattle.itm_grammar.specs.declared.partial.Partial.TheVariants.{Header}
use Rattle.itm_grammar.specs.Rule.{rule}
use Rattle.itm_codec.specs.Reading.{pattern, packets_in}
use Rattle.stp_grammar.specs.declared.packet.Order.{Order}
use Rattle.stp_grammar.specs.declared.packet.StpPacket.TheVariants.{Async}
use Rattle.stp_grammar.specs.declared.partial.Partial.TheVariants.{Start}
use Rattle.stp_grammar.specs.Attribution.{attribute}
use Rattle.stp_grammar.specs.Rule.{rule as stp_rule}
use Rattle.stp_codec.specs.Reading.{pattern as stp_pattern, packets_in as stp_packets_in, items_at}
use Rattle.source_events.specs.declared.packet.Packet.TheVariants.{Itm as ItmOf, Stp as StpOf}
use Rattle.source_events.specs.declared.plan.SourceKind.{SourceKind}
use Rattle.source_events.specs.declared.plan.SourceKind.TheVariants.{Itm, Stp}
use Rattle.source_events.specs.Packets.{given_as, stream_as}
use Rattle.source_events.proofs.Lawful.{given_append}
use Rattle.source_machine.specs.Units.{reads_by}

-- one unit more, of packets
all_as : {V W : Type 0} (f : V → W) (p : Place) (xs : List (Said V × Place)) → AllOn p xs → AllOn p (given_as f xs)
all_as f p [] a = tt
all_as f p (x ∷ xs) a = (a.0, all_as f p xs a.1)

rises_as : {V W : Type 0} (f : V → W) (old new : Stream V) (p : Place) → RisesOn old new p →
    RisesOn (stream_as f old) (stream_as f new) p
rises_as f old new p r = record {
  more = given_as f r.more;
  given = ap (given_as f) r.given ∙ given_append f old.given r.more;
  all = all_as f p r.more r.all;
  fault = r.fault;
}

module _ (order : Order) where
  pub rises : (kind : SourceKind) (h : Bool) (u : List Placed) (b : Placed) →
      RisesOn (reads_by order kind h u) (reads_by order kind h (u ++ b ∷ [])) b.place
  rises Itm h u b = rises_as ItmOf (packets_in h u) (packets_in h (u ++ b ∷ [])) b.place
      (modes.rises_on pattern Sync (by_unit rule) Header h u b)
  rises Stp h u b = rises_as StpOf (items_at order h u) (items_at order h (u ++ b ∷ [])) b.place
      (decorating.rises_on attribute [] (stp_packets_in order h u) (stp_packets_in order h (u ++ b ∷ [])) b.place
      (modes.rises_on stp_pattern Async (by_unit (stp_rule order)) Start h u b))
