use Rattle.std.proofs.Common.{◌∙◌, List, ap, sym, subst, refl, false}
use Rattle.itm_grammar.specs.declared.packet.ItmPacket.{ItmPacket}
use Rattle.recovery_engine.specs.Engine.{guesses_of, plan_of}
use Rattle.recovery_engine.proofs.Growing.{nothing_first}
use Rattle.capture_actions.specs.PortText.{source_of}
use Rattle.value_dump.specs.Dumping as dumping
use Rattle.recovery_listing.specs.Dump.{packets_in}
use Rattle.recovery_listing.specs.Listing.{has_fault}
use Rattle.recovery_listing.specs.PortTextLaws.{noted_none}
use Rattle.recovery_listing.proofs.vcd.Recovering+RecoveringDump.dumping.Goals as goal

pub returns-clause-stands : goal.returns-clause-stands
returns-clause-stands c =
    let plan = plan_of c.new.result in
    record {
      read = c.new.ensures.fresh;
      told = record {
        source = c.looked_at-source.ensures ∙ sym (ap source_of c.new.ensures.plan);
        own = c.looked_at-own.ensures ∙ sym (ap source_of c.new.ensures.plan);
        dump = subst (λ (l : List ItmPacket). dumping.Stands c.new-dump.result l)
            (sym (ap (packets_in (source_of plan)) (nothing_first (guesses_of c.new.result) plan)))
            c.new-dump.ensures.stands;
        begun = refl;
        faulty = sym (ap has_fault (nothing_first false plan));
      };
    }

pub returns-clause-silent : goal.returns-clause-silent
returns-clause-silent c = noted_none (plan_of c.new.result)
