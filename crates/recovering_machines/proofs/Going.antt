-- Units without a fault are one more part of the present stretch.
use Rattle.std.proofs.Common.{◌≡◌, ℕ, List, [], ◌∷◌, ◌++◌, map, refl, sym, ◌∙◌, ap, append_assoc, append-nil}
use Rattle.std.proofs.Common.{Option, None, Some, Bool}
use Rattle.std.specs.Prelude.{flat_map, is_none}
use Rattle.std.proofs.lemmas.List.{map-append}
use Rattle.trace_values.specs.declared.fault.Reason.{Reason}
use Rattle.trace_values.specs.Placed.{Place, Placed}
use Rattle.trace_values.specs.Stream.{Kept, Stream}
use Rattle.trace_values.specs.Walk.{by_unit}
use Rattle.trace_values.proofs.Modes as modes
use Rattle.trace_values.proofs.Decorating as decorating
use Rattle.itm_grammar.specs.declared.packet.ItmPacket.TheVariants.{Sync}
use Rattle.itm_grammar.specs.declared.partial.Partial.TheVariants.{Header}
use Rattle.itm_grammar.specs.Rule.{rule}
use Rattle.itm_codec.specs.Reading.{pattern, packets_in}
use Rattle.stp_grammar.specs.declared.packet.Order.{Order}
use Rattle.stp_grammar.specs.declared.packet.StpPacket.TheVariants.{Async}
use Rattle.stp_grammar.specs.declared.partial.Partial.TheVariants.{Start}
use Rattle.stp_grammar.specs.Attribution.{attribute}
use Rattle.stp_grammar.specs.Rule.{rule as stp_rule}
use Rattle.stp_codec.specs.Reading.{pattern as stp_pattern, packets_in as stp_packets_in, items_at}
use Rattle.source_events.specs.declared.packet.Packet.{Packet}
use Rattle.source_events.specs.declared.packet.Packet.TheVariants.{Itm as ItmOf, Stp as StpOf}
use Rattle.source_events.specs.declared.plan.SourceKind.{SourceKind}
use Rattle.source_events.specs.declared.plan.SourceKind.TheVariants.{Itm, Stp}
use Rattle.source_events.proofs.Lawful.{settled_as}
use Rattle.source_machine.specs.Units.{reads_by}
use Rattle.stretch_readings.specs.declared.heard.Heard.TheVariants.{Read}
use Rattle.stretch_readings.specs.Stretches.{One, Stretches, broken, fed_from, from_fault, heard, heard_of, told}
use Rattle.stretch_readings.specs.Words.{IsSettling}
use Rattle.stretch_readings.proofs.Feeding.{longer, one_goes}
use Rattle.recovering_machines.specs.Found.{heard_in, kept}

-- a fault ends the reading of a source's units
pub sources_settle : (order : Order) (kind : SourceKind) → IsSettling (reads_by order kind)
sources_settle order Itm = λ h u w e. settled_as ItmOf (packets_in h u) (packets_in h (u ++ w))
    (modes.settles pattern Sync (by_unit rule) Header h u w e)
sources_settle order Stp = λ h u w e.
    settled_as StpOf (items_at order h u) (items_at order h (u ++ w))
    (decorating.settles attribute [] (stp_packets_in order h u) (stp_packets_in order h (u ++ w))
    (modes.settles stp_pattern Async (by_unit (stp_rule order)) Start h u w e))

module _ {V : Type 0} (reads : Bool → List Placed → Stream V) (settles : IsSettling reads) where
  -- where the end has no fault, no front has
  front_none : (h : Bool) (u w : List Placed) → (reads h (u ++ w)).fault ≡ None → (reads h u).fault ≡ None
  front_none h u w e = by (reads h u).fault refl where
    by : (o : Option (Place × Reason)) → (reads h u).fault ≡ o → (reads h u).fault ≡ None
    by None k = k
    by (Some x) k =
        (let s = (settles h u w (ap is_none k)).fault in
        let q : None ≡ Some x = sym e ∙ s ∙ k in cc)

  pub all_go : (w : List Placed) (r : Stretches) → (reads r.now.hunts (r.now.units ++ w)).fault ≡ None →
      fed_from reads from_fault r (map One w) ≡ longer reads r w
  all_go [] r e =
      ap (λ (u : List Placed). record {
        past = r.past;
        now = record { hunts = r.now.hunts; count = r.now.count; units = u };
      }) (sym (append-nil r.now.units))
  all_go (b ∷ w) r e =
      let h = r.now.hunts in
      let all = append_assoc r.now.units (b ∷ []) w in
      let rest : (reads h ((r.now.units ++ b ∷ []) ++ w)).fault ≡ None =
      ap (λ (u : List Placed). (reads h u).fault) all ∙ e in
      ap (λ (s : Stretches). fed_from reads from_fault s (map One w))
      (one_goes reads r b (front_none h (r.now.units ++ b ∷ []) w rest))
      ∙ all_go w (longer reads r (b ∷ [])) rest
      ∙ ap (λ (u : List Placed). record {
        past = r.past;
        now = record { hunts = h; count = r.now.count; units = u };
      }) all

-- what the packets in them say
heard_kept : (reads : Bool → List Placed → Stream Packet) (count : ℕ) (packets : List (Packet × Place)) →
    map (heard reads from_fault count) (kept packets) ≡ heard_in packets
heard_kept reads count [] = refl
heard_kept reads count (p ∷ packets) =
    ap (λ l. (Kept (Read p.0), p.1) ∷ l) (heard_kept reads count packets)

pub given_more : (reads : Bool → List Placed → Stream Packet) (r : Stretches) (w : List Placed)
    (packets : List (Packet × Place)) → (reads r.now.hunts r.now.units).fault ≡ None →
    (reads r.now.hunts (r.now.units ++ w)).fault ≡ None →
    (reads r.now.hunts (r.now.units ++ w)).given ≡ (reads r.now.hunts r.now.units).given ++ kept packets →
    (heard_of reads from_fault (longer reads r w)).given ≡ (heard_of reads from_fault r).given ++ heard_in packets
given_more reads r w packets none sound given =
    let hear = heard reads from_fault r.now.count in
    let old = reads r.now.hunts r.now.units in
    let new = reads r.now.hunts (r.now.units ++ w) in
    let past = flat_map (told reads from_fault) r.past in
    let was : told reads from_fault r.now ≡ map hear old.given =
    ap (λ o. map hear old.given ++ broken reads from_fault o) none ∙ append-nil (map hear old.given) in
    let is : told reads from_fault (longer reads r w).now ≡ map hear old.given ++ heard_in packets =
    ap (λ o. map hear new.given ++ broken reads from_fault o) sound ∙ append-nil (map hear new.given)
    ∙ ap (map hear) given ∙ map-append hear old.given (kept packets)
    ∙ ap (λ l. map hear old.given ++ l) (heard_kept reads r.now.count packets) in
    ap (λ l. past ++ l) (is ∙ ap (λ l. l ++ heard_in packets) (sym was))
    ∙ sym (append_assoc past (told reads from_fault r.now) (heard_in packets))
