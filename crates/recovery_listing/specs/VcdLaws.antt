-- How the account of `vcd` goes on: proofs that its `impl` cites.
use Rattle.std.proofs.Common.{◌≡◌, ◌<◌, ℕ, List, [], ◌∷◌, ◌++◌, length, refl, sym, ◌∙◌, ap, subst, Bool, Option, arith}
use Rattle.std.proofs.Common.{append_assoc, true}
use Rattle.std.specs.Prelude.{◌||◌, if◌then◌else◌}
use Rattle.itm_grammar.specs.declared.packet.ItmPacket.{ItmPacket}
use Rattle.source_events.specs.declared.event.Event.{Event}
use Rattle.source_events.specs.declared.packet.Packet.{Packet}
use Rattle.source_events.specs.declared.plan.Plan.{Plan}
use Rattle.stretch_readings.specs.declared.heard.Heard.{Heard}
use Rattle.recovery_report.specs.Report.{sure_events}
use Rattle.capture_actions.specs.Listing.{itm_packets}
use Rattle.capture_actions.specs.PortText.{source_of}
use Rattle.value_dump.specs.Dump.{lines_after}
use Rattle.value_dump.specs.Dumping as dumping
use Rattle.value_dump.specs.Header.{header}
use Rattle.value_dump.specs.SourceDump as strict
use Rattle.value_dump.specs.Vcd.{beginning}
use Rattle.value_dump.specs.declared.vcd_plan.VcdPlan.{VcdPlan}
use Rattle.recovering_machines.specs.HearingLaws.{took_read}
use Rattle.recovery_listing.specs.Account.{GoesOn, Pages, events_of}
use Rattle.recovery_listing.specs.Dump.{dump_meaning, noted_dump, packets_in}
use Rattle.recovery_listing.specs.DumpLaws.{dump_grows, packets_more}
use Rattle.recovery_listing.specs.FaultLines.{fault_lines}
use Rattle.recovery_listing.specs.Listing.{has_fault}
use Rattle.recovery_listing.specs.Noting.{with_losses}
use Rattle.recovery_listing.specs.SureLaws.{faulty_more, noted_more}
use Rattle.recovery_listing.specs.Vcd.{HasDumped, asked, begun_with, gets, is_begun}
use Rattle.recovery_listing.specs.declared.going_on.GoingOn.{GoingOn}
use Rattle.recovery_listing.specs.declared.vcd.RecoveringDump.{RecoveringDump}

-- what is asked by a clock
abbrev by_clock : GoingOn Plan → Option ℕ → GoingOn VcdPlan
by_clock how hz = record { plan = record { plan = how.plan; hz = hz }; guesses = how.guesses }

put : (old new : RecoveringDump × Pages) (given : List (Event (Heard Packet))) → gets old given new →
    strict.gets (old.0.noting.receiver, (begun_with old).text) (with_losses old.0.noting.source given)
    (new.0.noting.receiver, new.1.text)
put old new given g =
    took_read strict.gets (old.0.noting.receiver, (begun_with old).text) (new.0.noting.receiver, new.1.text)
    (with_losses old.0.noting.source given) g.noting.receiver

pub same : (old new : RecoveringDump × Pages) (given : List (Event (Heard Packet))) (how : GoingOn Plan) →
    gets old given new → asked new.0 how ≡ asked old.0 how
same old new given how g = ap (by_clock how) (put old new given g).hz

-- the header is put where no byte was read
head_is : (p : VcdPlan) (seen : List ℕ) (b : Bool) → b ≡ is_begun seen →
    (if b then [] else header p.hz) ≡ beginning p seen
head_is p [] b q = ap (λ (b : Bool). if b then [] else header p.hz) q
head_is p (x ∷ seen) b q = ap (λ (b : Bool). if b then [] else header p.hz) q

some_begun : (seen front : List ℕ) → 0 < length front → is_begun (seen ++ front) ≡ true
some_begun [] [] h = absurd (omega arith)
some_begun [] (x ∷ front) h = refl
some_begun (x ∷ seen) front h = refl

module _ (old new : RecoveringDump × Pages) (given : List (Event (Heard Packet))) (how : GoingOn Plan)
    (seen front : List ℕ) (g : gets old given new) (some : 0 < length front)
    (more : events_of how (seen ++ front) ≡ events_of how seen ++ given) (h : HasDumped old.0 how seen) where
  abbrev source : Option ℕ
  source = source_of how.plan

  abbrev hz : Option ℕ
  hz = dumping.hz_of old.0.noting.receiver.dump

  abbrev before : List ItmPacket
  before = packets_in source (events_of how seen)

  abbrev own : List ItmPacket
  own = itm_packets old.0.noting.receiver.source (with_losses old.0.noting.source given)

  own_is : own ≡ packets_in source given
  own_is = ap (λ (s : Option ℕ). itm_packets s (with_losses old.0.noting.source given)) h.own
      ∙ ap (λ (s : Option ℕ). itm_packets source (with_losses s given)) h.source

  packets_are : before ++ own ≡ packets_in source (events_of how (seen ++ front))
  packets_are = ap (λ (l : List ItmPacket). before ++ l) own_is
      ∙ sym (ap (packets_in source) more ∙ packets_more source (events_of how seen) given)

  read : HasDumped new.0 how (seen ++ front)
  read = record {
    source = g.noting.same ∙ h.source;
    own = (put old new given g).source ∙ h.own;
    dump = subst (λ (l : List ItmPacket). dumping.Stands new.0.noting.receiver.dump l) packets_are
        ((put old new given g).stands before h.dump);
    begun = g.begun ∙ sym (some_begun seen front some);
    faulty = g.noting.faulty ∙ ap (λ (f : Bool). f || has_fault (sure_events given)) h.faulty
        ∙ sym (faulty_more how seen front given more);
  }

  pub goes : GoesOn (HasDumped new.0 how) (dump_meaning (asked old.0 how)) (noted_dump (asked old.0 how)) seen front
      old.1 new.1
  goes =
      let p = asked old.0 how in
      let start = beginning p.plan seen in
      record {
        read = read;
        more = start ++ lines_after hz before (packets_in source given);
        grown = dump_grows p seen front given some more;
        gained = (put old new given g).text before h.dump
            ∙ ap (λ (l : List ItmPacket).
            (old.1.text ++ (if old.0.is_begun then [] else header hz)) ++ lines_after hz before l) own_is
            ∙ ap (λ (l : List ℕ). (old.1.text ++ l) ++ lines_after hz before (packets_in source given))
            (head_is p.plan seen old.0.is_begun h.begun)
            ∙ append_assoc old.1.text start (lines_after hz before (packets_in source given));
        told = fault_lines (sure_events given);
        noted = noted_more how seen front given more;
        noting = g.noting.notes;
      }

pub goes_on : (old new : RecoveringDump × Pages) (given : List (Event (Heard Packet))) (how : GoingOn Plan)
    (seen front : List ℕ) → gets old given new → 0 < length front →
    events_of how (seen ++ front) ≡ events_of how seen ++ given → HasDumped old.0 how seen →
    GoesOn (HasDumped new.0 how) (dump_meaning (asked old.0 how)) (noted_dump (asked old.0 how)) seen front old.1 new.1
goes_on old new given how seen front g some more h = goes old new given how seen front g some more h
