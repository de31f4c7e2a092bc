-- The readings of mapped sources begin with nothing, grow at their last byte, and end with a fault.
use Rattle.std.proofs.Common.{◌≡◌, ℕ, List, [], ◌∷◌, ◌++◌, map, ap, refl, sym, ◌∙◌, subst, Bool}
use Rattle.std.proofs.lemmas.List.{map-append}
use Rattle.trace_values.specs.Placed.{Place, Placed, byte_at}
use Rattle.trace_values.specs.Stream.{Said, Stream, Rises, Settled, AllAt}
use Rattle.trace_values.specs.Walk.{by_unit}
use Rattle.trace_values.specs.declared.pattern.Pattern.{Pattern}
use Rattle.trace_values.proofs.Modes as modes
use Rattle.trace_values.proofs.NibbleModes as nibbles
use Rattle.trace_values.specs.ReadingModes.{packets_hunt}
use Rattle.itm_grammar.specs.declared.packet.ItmPacket.TheVariants.{Sync}
use Rattle.itm_grammar.specs.declared.partial.Partial.TheVariants.{Header}
use Rattle.itm_grammar.specs.Rule.{rule}
use Rattle.itm_codec.specs.Reading.{pattern, packets_in}
use Rattle.stp_grammar.specs.declared.packet.Order.{Order}
use Rattle.stp_grammar.specs.declared.packet.StpPacket.TheVariants.{Async}
use Rattle.stp_grammar.specs.declared.partial.Partial.TheVariants.{Start}
use Rattle.stp_grammar.specs.Rule as stp
use Rattle.stp_grammar.specs.Attribution.{attribute}
use Rattle.source_events.specs.declared.packet.Packet.{Packet}
use Rattle.source_events.specs.declared.packet.Packet.TheVariants.{Itm as ItmPacket, Stp as StpPacket}
use Rattle.source_events.specs.declared.plan.Plan.{Plan}
use Rattle.source_events.specs.declared.plan.SourceKind.{SourceKind}
use Rattle.source_events.specs.declared.plan.SourceKind.TheVariants.{Itm, Stp}
use Rattle.source_events.specs.Packets.{said_as, given_as, stream_as}
use Rattle.stp_codec.specs.Reading.{items_in}
use Rattle.source_events.specs.Plan.{mapped_ids, stream_of, sources_by}
use Rattle.source_events.specs.Report.{Mapped, IsLawful, AreLawful}

-- a reading whose items are seen as packets
module _ {V W : Type 0} (f : V → W) where
  pub given_append : (xs ys : List (Said V × Place)) → given_as f (xs ++ ys) ≡ given_as f xs ++ given_as f ys
  given_append xs ys = map-append (λ (e : Said V × Place). (said_as f e.0, e.1)) xs ys

  all_as : (at half : ℕ) (xs : List (Said V × Place)) → AllAt at half xs → AllAt at half (given_as f xs)
  all_as at half [] a = tt
  all_as at half (x ∷ xs) a = (a.0, a.1, all_as at x.1.half xs a.2)

  pub rises_as : (old new : Stream V) (at : ℕ) → Rises old new at → Rises (stream_as f old) (stream_as f new) at
  rises_as old new at r = record {
    more = given_as f r.more;
    given = ap (given_as f) r.given ∙ given_append old.given r.more;
    all = all_as at 0 r.more r.all;
    fault = r.fault;
  }

  pub settled_as : (old new : Stream V) → Settled old new → Settled (stream_as f old) (stream_as f new)
  settled_as old new s = record { given = ap (given_as f) s.given; fault = s.fault }

  pub lawful_as : (stream : List Placed → Stream V) → IsLawful stream → IsLawful (λ u. stream_as f (stream u))
  lawful_as stream l = record {
    begins = ap (given_as f) l.begins;
    sound = l.sound;
    rises = λ u at byte. rises_as (stream u) (stream (u ++ byte_at at byte ∷ [])) at (l.rises u at byte);
    settles = λ u w e. settled_as (stream u) (stream (u ++ w)) (l.settles u w e);
  }

pub itm_lawful : (hunts : Bool) → IsLawful (packets_in hunts)
itm_lawful hunts = record {
  begins = (modes.begins pattern Sync (by_unit rule) Header hunts).0;
  sound = (modes.begins pattern Sync (by_unit rule) Header hunts).1;
  rises = λ u at byte. modes.rises pattern Sync (by_unit rule) Header hunts u at byte;
  settles = λ u w e. modes.settles pattern Sync (by_unit rule) Header hunts u w e;
}

pub stp_lawful : (order : Order) (hunts : Bool) → IsLawful (items_in order hunts)
stp_lawful order hunts =
    let p : Pattern = record { unit = 15; most = 21; last = 0 } in record {
      begins = (nibbles.begins p Async (by_unit (stp.rule order)) Start attribute [] hunts).0;
      sound = (nibbles.begins p Async (by_unit (stp.rule order)) Start attribute [] hunts).1;
      rises = λ u at byte. nibbles.rises p Async (by_unit (stp.rule order)) Start attribute [] hunts u at byte;
      settles = λ u w e. nibbles.settles p Async (by_unit (stp.rule order)) Start attribute [] hunts u w e;
    }

pub stream_lawful : (plan : Plan) (kind : SourceKind) → IsLawful (stream_of plan kind)
stream_lawful plan Itm = lawful_as ItmPacket (packets_in (packets_hunt plan.packets)) (itm_lawful (packets_hunt plan.packets))
stream_lawful plan Stp =
    lawful_as StpPacket (items_in plan.order (packets_hunt plan.packets)) (stp_lawful plan.order (packets_hunt plan.packets))

-- those of all sources that a plan maps
all_lawful : (plan : Plan) (ids : List (ℕ × SourceKind)) →
    AreLawful (map (λ (s : ℕ × SourceKind). record { id = s.0; stream = stream_of plan s.1 }) ids)
all_lawful plan [] = tt
all_lawful plan (s ∷ ids) = (stream_lawful plan s.1, all_lawful plan ids)

pub plan_lawful : (plan : Plan) → AreLawful (sources_by plan)
plan_lawful plan = all_lawful plan (mapped_ids plan)
