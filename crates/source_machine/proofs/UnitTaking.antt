-- What a decoder takes of a byte, as the machine of its source.
use Rattle.std.proofs.Common.{◌≡◌, ℕ, List, [], ◌∷◌, ◌++◌, refl, sym, ◌∙◌, ap, subst, append-nil, None}
use Rattle.source_machine.specs.Names.{Placed, byte_at, Grows, Step, Quiet, Skipping, Item, Locked, Fault as Faulty}
use Rattle.source_machine.specs.Names.{ItmPacket, packets_in, ItmDecoder, StpItem, items_at, TakesNibbles, taken_by}
use Rattle.source_machine.specs.Names.{before_by, StpDecoder, Packet, Itm as ItmOf, Stp as StpOf, stream_as}
use Rattle.itm_codec.specs.Decoder as itm
use Rattle.stp_codec.specs.Decoder as stp
use Rattle.source_machine.specs.Seen.{step_as}
use Rattle.source_machine.specs.SeenLaws.{grows_as}
use Rattle.source_machine.specs.Units.{TakesUnits}
use Rattle.source_machine.specs.declared.machine.SourceMachine.TheVariants.{Itm, Stp}

pub itm_takes : (d e : ItmDecoder) (n : List Placed) (at byte : ℕ) (s : Step ItmPacket) (t : Step Packet) →
    t ≡ step_as ItmOf s →
    itm.Stands e (n ++ byte_at at byte ∷ []) →
    Grows (packets_in (itm.is_hunter d) n) (packets_in (itm.is_hunter d) (n ++ byte_at at byte ∷ [])) at s →
    (packets_in (itm.is_hunter d) n).fault ≡ None → TakesUnits (Itm d) (Itm e) n at byte t
itm_takes d e n at byte s t is list g f = record {
  list = list;
  grows = subst (λ x. Grows (stream_as ItmOf (packets_in (itm.is_hunter d) n))
      (stream_as ItmOf (packets_in (itm.is_hunter d) (n ++ byte_at at byte ∷ []))) at x) (sym is)
      (grows_as ItmOf (packets_in (itm.is_hunter d) n)
      (packets_in (itm.is_hunter d) (n ++ byte_at at byte ∷ [])) at s g);
  sound = ap (λ w. (packets_in (itm.is_hunter d) w).fault) (append-nil n) ∙ f;
}

-- the nibbles that an answer takes, and those before the last of them, are those of the decoder's
same_nibbles : (at byte : ℕ) (s : Step StpItem) → (taken_by at byte (step_as StpOf s) ≡ taken_by at byte s)
    × (before_by at byte (step_as StpOf s) ≡ before_by at byte s)
same_nibbles at byte Quiet = (refl, refl)
same_nibbles at byte Skipping = (refl, refl)
same_nibbles at byte (Item half v) = (refl, refl)
same_nibbles at byte (Locked skipped half v) = (refl, refl)
same_nibbles at byte (Faulty f) = (refl, refl)

pub stp_takes : (d e : StpDecoder) (n : List Placed) (at byte : ℕ) (s : Step StpItem) (t : Step Packet) →
    t ≡ step_as StpOf s → TakesNibbles d e n at byte s → TakesUnits (Stp d) (Stp e) n at byte t
stp_takes d e n at byte s t is k = subst (λ x. TakesUnits (Stp d) (Stp e) n at byte x) (sym is) (record {
  list = subst (λ w. stp.StandsAt e (n ++ w)) (sym (same_nibbles at byte s).0) k.list;
  grows = subst (λ w. Grows (stream_as StpOf (items_at (stp.order_of d) (stp.is_hunter d) n))
      (stream_as StpOf (items_at (stp.order_of d) (stp.is_hunter d) (n ++ w))) at (step_as StpOf s))
      (sym (same_nibbles at byte s).0)
      (grows_as StpOf (items_at (stp.order_of d) (stp.is_hunter d) n)
      (items_at (stp.order_of d) (stp.is_hunter d) (n ++ taken_by at byte s)) at s k.grows);
  sound = subst (λ w. (items_at (stp.order_of d) (stp.is_hunter d) (n ++ w)).fault ≡ None)
      (sym (same_nibbles at byte s).1) k.sound;
})
