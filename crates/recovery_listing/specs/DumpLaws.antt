-- How what `vcd` writes of a recovering report grows with the bytes of the capture.
use Rattle.std.proofs.Common.{◌≡◌, ℕ, List, [], ◌∷◌, ◌++◌, ◌<◌, length, refl, sym, ◌∙◌, ap, append_assoc}
use Rattle.std.proofs.Common.{append-nil, arith, Option}
use Rattle.trace_values.specs.Placed.{placed}
use Rattle.itm_grammar.specs.declared.packet.ItmPacket.{ItmPacket}
use Rattle.source_events.specs.declared.event.Event.{Event}
use Rattle.source_events.specs.declared.packet.Packet.{Packet}
use Rattle.stretch_readings.specs.declared.heard.Heard.{Heard}
use Rattle.recovery_report.specs.Report.{report_with}
use Rattle.recovery_engine.proofs.Growing.{nothing_first, report_grows}
use Rattle.trace_stream.specs.Served.{IsLawful}
use Rattle.trace_stream.specs.Written.{GrowsOnly}
use Rattle.capture_actions.specs.Listing.{itm_packets}
use Rattle.capture_actions.specs.PortText.{source_of}
use Rattle.value_dump.specs.Dump.{lines_after}
use Rattle.value_dump.specs.DumpLaws.{lines_append, packets_append}
use Rattle.value_dump.specs.Header.{header}
use Rattle.value_dump.specs.Vcd.{beginning}
use Rattle.value_dump.specs.declared.vcd_plan.VcdPlan.{VcdPlan}
use Rattle.recovery_listing.specs.Dump.{dump, dump_meaning, packets_in, packets_of}
use Rattle.recovery_listing.specs.Noting.{with_losses}
use Rattle.recovery_listing.specs.NotingLaws.{losses_append}
use Rattle.recovery_listing.specs.declared.going_on.GoingOn.{GoingOn}

pub packets_more : (source : Option ℕ) (xs ys : List (Event (Heard Packet))) →
    packets_in source (xs ++ ys) ≡ packets_in source xs ++ packets_in source ys
packets_more source xs ys =
    ap (itm_packets source) (losses_append source xs ys)
    ∙ packets_append source (with_losses source xs) (with_losses source ys)

module _ (p : GoingOn VcdPlan) where
  abbrev source : Option ℕ
  source = source_of p.plan.plan

  abbrev hz : Option ℕ
  hz = p.plan.hz

  abbrev reported : List ℕ → List (Event (Heard Packet))
  reported bytes = report_with p.guesses p.plan.plan (placed bytes)

  abbrev whole : List (Event (Heard Packet)) → List ℕ
  whole es = header hz ++ lines_after hz [] (packets_in source es)

  -- with more events what is dumped of some bytes grows by the lines of their packets
  lines_grow : (es given : List (Event (Heard Packet))) →
      whole (es ++ given) ≡ whole es ++ lines_after hz (packets_in source es) (packets_in source given)
  lines_grow es given =
      let packets = packets_in source es in
      let new = packets_in source given in
      ap (λ (l : List ItmPacket). header hz ++ lines_after hz [] l) (packets_more source es given)
      ∙ ap (λ (l : List ℕ). header hz ++ l) (lines_append hz [] packets new)
      ∙ sym (append_assoc (header hz) (lines_after hz [] packets) (lines_after hz packets new))

  -- what is written of some bytes and the header, where it is still to be written
  begun : (seen : List ℕ) → dump p seen ++ beginning p.plan seen ≡ whole (reported seen)
  begun [] = sym (append-nil (header hz)) ∙ ap whole (sym (nothing_first p.guesses p.plan.plan))
  begun (x ∷ xs) = append-nil (whole (reported (x ∷ xs)))

  written : (seen bytes : List ℕ) → 0 < length bytes → dump p (seen ++ bytes) ≡ whole (reported (seen ++ bytes))
  written [] [] h = absurd (omega arith)
  written [] (b ∷ bytes) h = refl
  written (x ∷ seen) bytes h = refl

  -- what some bytes add, with which the report gains these events
  pub dump_grows : (seen bytes : List ℕ) (given : List (Event (Heard Packet))) → 0 < length bytes →
      reported (seen ++ bytes) ≡ reported seen ++ given →
      dump p (seen ++ bytes) ≡ dump p seen
      ++ (beginning p.plan seen ++ lines_after hz (packets_of p seen) (packets_in source given))
  dump_grows seen bytes given some grew =
      let more = lines_after hz (packets_of p seen) (packets_in source given) in
      written seen bytes some ∙ ap whole grew ∙ lines_grow (reported seen) given
      ∙ ap (λ (l : List ℕ). l ++ more) (sym (begun seen))
      ∙ append_assoc (dump p seen) (beginning p.plan seen) more

  text_grows : (xs ys : List ℕ) → GrowsOnly (dump p xs) (dump p (xs ++ ys))
  text_grows [] ys = (dump p ys, refl)
  text_grows (x ∷ xs) ys =
      let more = report_grows p.guesses p.plan.plan (x ∷ xs) ys in (
        lines_after hz (packets_of p (x ∷ xs)) (packets_in source more.0),
        ap whole more.1 ∙ lines_grow (reported (x ∷ xs)) more.0,
      )

pub dump_lawful : (p : GoingOn VcdPlan) → IsLawful (dump_meaning p)
dump_lawful p = record {
  never_at_first = λ h. h;
  nothing_at_first = refl;
  faulty_stays = λ xs ys h. h;
  text_stays = λ xs ys h. absurd h;
  ending_stays = λ xs ys h. absurd h;
  text_grows = text_grows p;
}
