use Rattle.std.proofs.Common.{◌∙◌, ap, sym, false}
use Rattle.recovery_engine.specs.Engine.{plan_of}
use Rattle.recovery_engine.proofs.Growing.{nothing_first}
use Rattle.capture_actions.specs.PortText.{source_of}
use Rattle.recovery_listing.specs.Listing.{has_fault}
use Rattle.recovery_listing.specs.PortTextLaws.{noted_none}
use Rattle.recovery_listing.proofs.text.Recovering+Noting+PortValues.over.Goals as goal

pub returns-clause-stands : goal.returns-clause-stands
returns-clause-stands c = record {
  read = c.new.ensures.fresh;
  told = record {
    source = c.looked_at-own.ensures ∙ sym (ap source_of c.new.ensures.plan);
    faulty = sym (ap has_fault (nothing_first false (plan_of c.new.result)));
  };
}

pub returns-clause-silent : goal.returns-clause-silent
returns-clause-silent c = noted_none (plan_of c.new.result)
