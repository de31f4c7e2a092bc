-- Frames in which each source has the bytes that the lines of a script put read back as what the lines give.
use Rattle.std.proofs.Common.{◌≡◌, ◌≢◌, ℕ, zero, suc, ◌≤◌, List, [], ◌∷◌, length, refl, sym, ◌∙◌, ap, subst, arith}
use Rattle.std.proofs.Common.{true, false, Option, None, Some, map, flat_map, All}
use Rattle.script_laws.specs.Names.{Cell, Place, Placed, placed, Aligned, Tagged, joined, written_segments}
use Rattle.script_laws.specs.Names.{ItmPacket, packets_in, StpItem, AreFitting, Event, What, Packet, Plan, SourceKind}
use Rattle.script_laws.specs.Names.{IsMerged, told, part, cut, kind_of, sources_by, is_sound, Mapped, events, raws}
use Rattle.script_laws.specs.Names.{given_in, lesser, of_source, least_fault, runs_in, stop_in, capture_events}
use Rattle.script_laws.specs.Names.{list_of, tail_of, Line2, given_packets, given_items, given_puts, given_bytes}
use Rattle.script_laws.specs.Names.{script_segments}
use Rattle.trace_values.specs.declared.fault.Reason.{Reason}
use Rattle.trace_values.specs.Nibbles.{nibbles_of}
use Rattle.frame_grammar.proofs.Deciding.{none_before}
use Rattle.frame_writer.specs.ReadBack as framed
use Rattle.frame_writer.proofs.ReadingBack.{written_reads}
use Rattle.stp_codec.specs.Reading.{items_in}
use Rattle.stp_encoder.specs.ReadBack as encoded
use Rattle.stp_encoder.proofs.ReadingBack.{bytes_back}
use Rattle.source_events.specs.declared.event.What.TheVariants.{Packet as PacketEvent}
use Rattle.source_events.specs.declared.packet.Packet.TheVariants.{Itm as ItmPacket_, Stp as StpPacket_}
use Rattle.source_events.specs.declared.plan.SourceKind.TheVariants.{Itm, Stp}
use Rattle.source_events.proofs.Least.{Full, least_none}
use Rattle.source_events.proofs.Captures.{capture_rises}
use Rattle.source_events.proofs.Lawful.{plan_lawful}
use Rattle.source_events.proofs.Merging.{capture_merged}
use Rattle.script_rebuild.proofs.AllSegments.{items_put}
use Rattle.script_laws.specs.ReadBack.{aligned, port_of, report_of, said_of, bytes_in, SaysBytes, has_line}
use Rattle.script_laws.specs.ReadBack.{ReadsAsGiven}
use Rattle.script_laws.specs.Puts.{CanAllBePut}
use Rattle.script_laws.proofs.Said.{all_fit}
use Rattle.script_laws.proofs.MappedIds.{lists_by, one_itm, one_stp, mapped_range}
use Rattle.script_laws.proofs.Bytes.{bytes_for, itm_bytes, stp_bytes, raw_bytes, none_items, none_packets, none_bytes}
use Rattle.script_laws.proofs.Bytes.{all_proper}
use Rattle.script_laws.proofs.Sources.{list_bytes, no_cell}
use Rattle.script_laws.proofs.Packets.{IsReadAs, read_as}
use Rattle.script_laws.proofs.Events.{whats, told_whats, itm_events, stp_events, other_events, no_faults, lifted_whats}
use Rattle.script_laws.proofs.Events.{raws_bytes, raws_plain, raws_none, raws_null}

not_null : (x : ℕ) → 1 ≤ x → x ≢ 0
not_null zero l = absurd (omega arith)
not_null (suc x) l = λ e. (let k : suc x ≡ 0 = e in cc)

no_whats : (es : List (Event Packet)) → map (λ (e : Event Packet). e.what) es ≡ [] → es ≡ []
no_whats [] e = refl
no_whats (x ∷ es) e = cc

-- The frames of segments in which each source has the bytes that the lines put.
module _ (every halves : ℕ) (plan : Plan) (lines : List Line2) (sound : is_sound plan ≡ true) (good : CanAllBePut plan [] lines) (segments : List (List Tagged))
    (named : All (λ (t : List Tagged). All framed.IsOfSource t) segments) (kept : (x : ℕ) → bytes_for x (joined segments) ≡ bytes_for x (joined (script_segments plan lines))) where
  abbrev bytes : List Tagged
  bytes = joined segments

  abbrev capture : List ℕ
  capture = written_segments every halves segments

  abbrev u : List Placed
  u = placed capture

  abbrev sources : List (Mapped Packet)
  sources = sources_by (aligned plan)

  abbrev runs : List (List Cell)
  runs = runs_in (port_of u)

  law : framed.ReadsBack capture bytes
  law = written_reads every halves segments named

  -- mapped sources
  itm_reads : (x : ℕ) → kind_of plan x ≡ Some Itm → IsReadAs (list_of x runs) (given_packets x lines)
  itm_reads x k =
      read_as (given_packets x lines) (all_proper plan x [] lines good) (list_of x runs)
      (list_bytes capture bytes law x (not_null x (mapped_range plan x Itm sound k).0) ∙ kept x ∙ itm_bytes plan x sound lines good k)

  stp_reads : (x : ℕ) → kind_of plan x ≡ Some Stp → encoded.ReadsBack plan.order (given_items x lines) (nibbles_of (list_of x runs))
  stp_reads x k =
      let same = items_put x lines in
      subst (λ (items : List StpItem). encoded.ReadsBack plan.order items (nibbles_of (list_of x runs))) same
      (bytes_back plan.order (given_puts x lines) (subst AreFitting (sym same) (all_fit plan x lines good)) (list_of x runs)
      (list_bytes capture bytes law x (not_null x (mapped_range plan x Stp sound k).0) ∙ kept x ∙ stp_bytes plan x sound lines good k))

  no_fault : stop_in sources (port_of u) ≡ None
  no_fault =
      ap (λ (o : Option (Place × Reason)). lesser (of_source None o) (least_fault sources runs)) law.no_fault
      ∙ least_none sources runs (no_faults (aligned plan) runs
      (λ x e. (itm_reads x (one_itm plan x e)).fault)
      (λ x e. (stp_reads x (one_stp plan x sound e)).no_fault))

  -- the report
  report_is : report_of plan u ≡ capture_events sources Aligned u
  report_is = ap (λ (o : Option Full). cut o (capture_events sources Aligned u)) no_fault

  merged : IsMerged (given_in sources Aligned u) (capture_events sources Aligned u)
  merged =
      (capture_merged Packet sources (plan_lawful (aligned plan)) Aligned u 0 (length capture) (capture_rises capture)
      (capture_events sources Aligned u)).1 refl

  part_is : (x : ℕ) → part (Some x) (report_of plan u) ≡ told (Some x) (events sources x runs)
  part_is x = ap (λ (es : List (Event Packet)). part (Some x) es) report_is ∙ merged.parts (Some x)

  said_is : (x : ℕ) → said_of plan u x ≡ whats (events sources x runs)
  said_is x = ap (λ (es : List (Event Packet)). map (λ (e : Event Packet). e.what) es) (part_is x) ∙ told_whats (Some x) (events sources x runs)

  itm_said : (x : ℕ) → kind_of plan x ≡ Some Itm → said_of plan u x ≡ map (λ (p : ItmPacket). PacketEvent (ItmPacket_ p)) (given_packets x lines)
  itm_said x k =
      said_is x ∙ ap whats (itm_events (aligned plan) runs x (lists_by plan x (Some Itm) k))
      ∙ lifted_whats ItmPacket_ (packets_in false (list_of x runs)).given (given_packets x lines) (itm_reads x k).given

  stp_said : (x : ℕ) → kind_of plan x ≡ Some Stp → said_of plan u x ≡ map (λ (i : StpItem). PacketEvent (StpPacket_ i)) (given_items x lines)
  stp_said x k =
      let one = lists_by plan x (Some Stp) k in
      said_is x ∙ ap whats (stp_events (aligned plan) runs x one.0 one.1)
      ∙ lifted_whats StpPacket_ (items_in plan.order false (list_of x runs)).given (given_items x lines) (stp_reads x k).given

  no_rest : (x : ℕ) (kind : SourceKind) → kind_of plan x ≡ Some kind → (tail_of (aligned plan) (port_of u) x kind).tail ≡ 0
  no_rest x Itm k = (itm_reads x k).tail
  no_rest x Stp k = (stp_reads x k).no_tail

  -- other sources
  other_said : (x : ℕ) → kind_of plan x ≡ None → said_of plan u x ≡ whats (raws x runs)
  other_said x k =
      let one = lists_by plan x None k in
      said_is x ∙ ap whats (other_events (aligned plan) runs x one.0 one.1)

  other_plain : (x : ℕ) → kind_of plan x ≡ None → All SaysBytes (said_of plan u x)
  other_plain x k = subst (λ (said : List (What Packet)). All SaysBytes said) (sym (other_said x k)) (raws_plain x runs)

  other_bytes : (x : ℕ) → 1 ≤ x → kind_of plan x ≡ None → flat_map bytes_in (said_of plan u x) ≡ given_bytes x lines
  other_bytes x l k =
      ap (λ (said : List (What Packet)). flat_map bytes_in said) (other_said x k) ∙ raws_bytes x runs (not_null x l)
      ∙ list_bytes capture bytes law x (not_null x l) ∙ kept x ∙ raw_bytes plan x sound lines good k

  no_list : (x : ℕ) → 1 ≤ x → has_line x lines ≡ false → list_of x runs ≡ []
  no_list x l e = none_before (list_of x runs) (list_bytes capture bytes law x (not_null x l) ∙ kept x ∙ none_bytes plan x sound lines good e)

  unsaid : (x : ℕ) → has_line x lines ≡ false → said_of plan u x ≡ []
  unsaid x e = by (kind_of plan x) refl
    where
      by_number : (y : ℕ) → kind_of plan y ≡ None → has_line y lines ≡ false → said_of plan u y ≡ []
      by_number zero k f = other_said zero k ∙ ap whats (raws_null runs)
      by_number (suc y) k f = other_said (suc y) k ∙ ap whats (raws_none (suc y) runs (no_list (suc y) (omega arith) f))

      by : (o : Option SourceKind) → kind_of plan x ≡ o → said_of plan u x ≡ []
      by None k = by_number x k e
      by (Some Itm) k = itm_said x k ∙ ap (λ (l : List ItmPacket). map (λ (p : ItmPacket). PacketEvent (ItmPacket_ p)) l) (none_packets plan x sound lines e)
      by (Some Stp) k = stp_said x k ∙ ap (λ (l : List StpItem). map (λ (i : StpItem). PacketEvent (StpPacket_ i)) l) (none_items plan x sound lines e)

  pub any_reads_as_given : ReadsAsGiven plan lines u
  any_reads_as_given = record {
    no_fault = no_fault;
    no_tail = law.no_tail;
    attributed = law.attributed;
    packets = itm_said;
    items = stp_said;
    no_rest = no_rest;
    plain = other_plain;
    bytes = λ x l h k. other_bytes x l k;
    silent = λ x e. no_whats (part (Some x) (report_of plan u)) (unsaid x e);
    absent = λ x l e. no_cell capture bytes law x (not_null x l) (kept x ∙ none_bytes plan x sound lines good e);
    no_notice = ap (λ (es : List (Event Packet)). part None es) report_is ∙ merged.parts None;
  }
