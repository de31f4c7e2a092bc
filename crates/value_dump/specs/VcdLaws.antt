-- How what `vcd` writes grows with the bytes of the capture.
use Rattle.std.proofs.Common.{◌≡◌, ℕ, List, [], ◌∷◌, ◌++◌, ◌<◌, length, refl, sym, ◌∙◌, ap, append_assoc}
use Rattle.std.proofs.Common.{append-nil, arith}
use Rattle.value_dump.specs.Names.{Event, IsFaulty, IsLawful, ItmPacket, Packet, itm_packets, placed, report_of}
use Rattle.value_dump.specs.Names.{source_of, sources_by}
use Rattle.capture_actions.specs.FaultyLaws as laws
use Rattle.source_events.proofs.Captures as captures
use Rattle.source_events.proofs.Lawful.{plan_lawful}
use Rattle.trace_stream.specs.Written.{GrowsOnly}
use Rattle.value_dump.specs.Dump.{lines_after, pending}
use Rattle.value_dump.specs.DumpLaws.{lines_append, packets_append}
use Rattle.value_dump.specs.Header.{header}
use Rattle.value_dump.specs.Vcd.{beginning, dump, ending, packets_of, vcd_meaning}
use Rattle.value_dump.specs.declared.vcd_plan.VcdPlan.{VcdPlan}

module _ (p : VcdPlan) where
  same_packets : (xs ys : List ℕ) → IsFaulty p.plan xs → packets_of p (xs ++ ys) ≡ packets_of p xs
  same_packets xs ys h = ap (itm_packets (source_of p.plan)) (laws.same_report p.plan xs ys h)

  text_stays : (xs ys : List ℕ) → IsFaulty p.plan xs → dump p (xs ++ ys) ≡ dump p xs
  text_stays [] ys h = absurd (laws.none_at_first p.plan h)
  text_stays (x ∷ xs) ys h =
      ap (λ (l : List ItmPacket). header p.hz ++ lines_after p.hz [] l) (same_packets (x ∷ xs) ys h)

  ending_stays : (xs ys : List ℕ) → IsFaulty p.plan xs → ending p (xs ++ ys) ≡ ending p xs
  ending_stays [] ys h = absurd (laws.none_at_first p.plan h)
  ending_stays (x ∷ xs) ys h = ap (pending p.hz) (same_packets (x ∷ xs) ys h)

  -- with more events what is dumped of some bytes grows by the lines of their packets
  lines_grow : (report more : List (Event Packet)) →
      header p.hz ++ lines_after p.hz [] (itm_packets (source_of p.plan) (report ++ more))
      ≡ (header p.hz ++ lines_after p.hz [] (itm_packets (source_of p.plan) report))
      ++ lines_after p.hz (itm_packets (source_of p.plan) report) (itm_packets (source_of p.plan) more)
  lines_grow report more =
      let packets = itm_packets (source_of p.plan) report in
      let new = itm_packets (source_of p.plan) more in
      ap (λ (l : List ItmPacket). header p.hz ++ lines_after p.hz [] l) (packets_append (source_of p.plan) report more)
      ∙ ap (λ (l : List ℕ). header p.hz ++ l) (lines_append p.hz [] packets new)
      ∙ sym (append_assoc (header p.hz) (lines_after p.hz [] packets) (lines_after p.hz packets new))

  -- what is written of some bytes and the header, where it is still to be written
  no_packets : packets_of p [] ≡ []
  no_packets =
      ap (itm_packets (source_of p.plan))
      (captures.no_event_first (sources_by p.plan) (plan_lawful p.plan) p.plan.frames)

  begun : (seen : List ℕ) → dump p seen ++ beginning p seen ≡ header p.hz ++ lines_after p.hz [] (packets_of p seen)
  begun [] =
      sym (append-nil (header p.hz))
      ∙ ap (λ (l : List ItmPacket). header p.hz ++ lines_after p.hz [] l) (sym no_packets)
  begun (x ∷ xs) = append-nil (header p.hz ++ lines_after p.hz [] (packets_of p (x ∷ xs)))

  written : (seen bytes : List ℕ) → 0 < length bytes →
      dump p (seen ++ bytes) ≡ header p.hz ++ lines_after p.hz [] (packets_of p (seen ++ bytes))
  written [] [] h = absurd (omega arith)
  written [] (b ∷ bytes) h = refl
  written (x ∷ seen) bytes h = refl

  -- what some bytes add, with which the report gains these events
  pub dump_grows : (seen bytes : List ℕ) (given : List (Event Packet)) → 0 < length bytes →
      report_of p.plan (placed (seen ++ bytes)) ≡ report_of p.plan (placed seen) ++ given →
      dump p (seen ++ bytes) ≡ dump p seen
      ++ (beginning p seen ++ lines_after p.hz (packets_of p seen) (itm_packets (source_of p.plan) given))
  dump_grows seen bytes given some grew =
      let more = lines_after p.hz (packets_of p seen) (itm_packets (source_of p.plan) given) in
      written seen bytes some
      ∙ ap (λ (es : List (Event Packet)). header p.hz ++ lines_after p.hz [] (itm_packets (source_of p.plan) es)) grew
      ∙ lines_grow (report_of p.plan (placed seen)) given
      ∙ ap (λ (l : List ℕ). l ++ more) (sym (begun seen))
      ∙ append_assoc (dump p seen) (beginning p seen) more

  text_grows : (xs ys : List ℕ) → GrowsOnly (dump p xs) (dump p (xs ++ ys))
  text_grows [] ys = (dump p ys, refl)
  text_grows (x ∷ xs) ys =
      let more = captures.grows (sources_by p.plan) (plan_lawful p.plan) p.plan.frames (x ∷ xs) ys in (
        lines_after p.hz (packets_of p (x ∷ xs)) (itm_packets (source_of p.plan) more.0),
        ap (λ (es : List (Event Packet)). header p.hz ++ lines_after p.hz [] (itm_packets (source_of p.plan) es)) more.1
            ∙ lines_grow (report_of p.plan (placed (x ∷ xs))) more.0,
      )

pub vcd_lawful : (p : VcdPlan) → IsLawful (vcd_meaning p)
vcd_lawful p = record {
  never_at_first = laws.none_at_first p.plan;
  nothing_at_first = refl;
  faulty_stays = laws.faulty_stays p.plan;
  text_stays = text_stays p;
  ending_stays = ending_stays p;
  text_grows = text_grows p;
}
