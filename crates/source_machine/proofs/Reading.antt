-- What the machine of a source reads its bytes as.
use Rattle.std.proofs.Common.{◌≡◌, ◌∙◌, List, Bool, ap, refl}
use Rattle.source_machine.specs.Names.{Placed, Stream, Packet, ItmDecoder, packets_in, Order, StpDecoder, items_in}
use Rattle.source_machine.specs.Names.{Itm as ItmKind, Stp as StpKind, stream_as}
use Rattle.itm_codec.specs.Decoder as itm
use Rattle.itm_codec.specs.Parts.{Stays}
use Rattle.stp_codec.specs.Decoder as stp
use Rattle.source_machine.specs.declared.machine.SourceMachine.TheVariants.{Itm, Stp}
use Rattle.source_machine.specs.Machine.{reading_of}
use Rattle.source_events.specs.declared.plan.SourceKind.TheVariants.{Stp as StpSource}
use Rattle.source_machine.specs.Units.{ReadsAlike, reading_on, reads_by}

-- a reading with its items seen as packets
abbrev pub seen : {V : Type 0} → (V → Packet) → (List Placed → Stream V) → List Placed → Stream Packet
seen f reading u = stream_as f (reading u)

-- a source reads the same while its decoder does
pub seen_same : {V : Type 0} (f : V → Packet) (new old : List Placed → Stream V) → new ≡ old →
    seen f new ≡ seen f old
seen_same f new old e = ap (seen f) e

pub itm_same : (old new : ItmDecoder) → Stays old new → reading_of (Itm new) ≡ reading_of (Itm old)
itm_same old new e = seen_same ItmKind _ _ e.0

-- an STP source while its decoder's order and mode are the same
pub stp_same : (old new : StpDecoder) → stp.Stays old new → reading_of (Stp new) ≡ reading_of (Stp old)
stp_same old new e =
    ap (λ (o : Order). λ (u : List Placed). stream_as StpKind (items_in o (stp.is_hunter new) u)) e.0
    ∙ ap (λ (h : Bool). λ (u : List Placed). stream_as StpKind (items_in (stp.order_of old) h u)) e.1

-- and its units
pub itm_alike : (old new : ItmDecoder) → Stays old new → ReadsAlike (Itm old) (Itm new)
itm_alike old new e = record { kind = refl; any = refl; own = itm_same old new e }

-- those of an STP source by the order of its nibbles, and by whether it hunts
pub stp_order : (o p : Order) → o ≡ p → reads_by o StpSource ≡ reads_by p StpSource
stp_order o p e = ap (λ (q : Order). reads_by q StpSource) e

pub stp_mode : (o : Order) (h i : Bool) → h ≡ i → reads_by o StpSource h ≡ reads_by o StpSource i
stp_mode o h i e = ap (reads_by o StpSource) e

pub stp_own : (old new : StpDecoder) → stp.order_of new ≡ stp.order_of old → stp.is_hunter new ≡ stp.is_hunter old →
    reading_on (Stp new) ≡ reading_on (Stp old)
stp_own old new e f =
    ap (λ (o : Order). reads_by o StpSource (stp.is_hunter new)) e ∙ stp_mode (stp.order_of old) _ _ f

pub stp_alike : (old new : StpDecoder) → stp.Stays old new → ReadsAlike (Stp old) (Stp new)
stp_alike old new e = record { kind = refl; any = stp_order _ _ e.0; own = stp_own old new e.0 e.1 }
