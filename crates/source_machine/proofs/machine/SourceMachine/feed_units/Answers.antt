use Rattle.std.proofs.Common.{ap, subst, sym, ◌∙◌, List}
use Rattle.source_machine.specs.Names.{Placed, Stream, Itm}
use Rattle.source_machine.specs.declared.machine.SourceMachine.{SourceMachine}
use Rattle.source_machine.specs.declared.machine.SourceMachine.TheVariants.{Itm as ItmMachine, Stp as StpMachine}
use Rattle.source_machine.specs.Units.{reading_on, reads_on, StandsOn, TakesUnits}
use Rattle.source_machine.specs.UnitLaws.{shows_units}
use Rattle.source_machine.proofs.Reading.{seen_same, stp_order, stp_own}
use Rattle.source_machine.proofs.UnitTaking.{itm_takes, stp_takes}
use Rattle.source_machine.proofs.machine.SourceMachine.feed_units.Goals as goal

pub returns-in-Itm-clause-mode : goal.returns-in-Itm-clause-mode
returns-in-Itm-clause-mode c =
    seen_same Itm _ _ c.feed.ensures.same ∙ ap reading_on (sym c.in-Itm.is)

pub returns-in-Stp-clause-mode : goal.returns-in-Stp-clause-mode
returns-in-Stp-clause-mode c =
    stp_own c.in-Stp.decoder c.feed_nibbles.new.self c.feed_nibbles.ensures.same.0 c.feed_nibbles.ensures.same.1
    ∙ ap reading_on (sym c.in-Stp.is)

pub returns-in-Stp-clause-reads : goal.returns-in-Stp-clause-reads
returns-in-Stp-clause-reads c =
    stp_order _ _ c.feed_nibbles.ensures.same.0 ∙ ap reads_on (sym c.in-Stp.is)

pub returns-in-Itm-clause-takes : goal.returns-in-Itm-clause-takes
returns-in-Itm-clause-takes c = λ n s.
    let t = subst (λ (m : SourceMachine). StandsOn m n) c.in-Itm.is s in
    subst (λ (m : SourceMachine). TakesUnits m (ItmMachine c.feed.new.self) n c.args.at c.args.byte c.itm_step.result)
    (sym c.in-Itm.is)
    (itm_takes c.in-Itm.decoder c.feed.new.self n c.args.at c.args.byte c.feed.result
    c.itm_step.result c.itm_step.ensures
    (c.feed.ensures.list n t) (c.feed.ensures.step n t)
    (ap (λ (r : List Placed → Stream _). (r n).fault) (ap reading_on (sym c.in-Itm.is))
    ∙ (shows_units c.args.self.now n s c.requires.live).0))

pub returns-in-Stp-clause-takes : goal.returns-in-Stp-clause-takes
returns-in-Stp-clause-takes c = λ n s.
    let t = subst (λ (m : SourceMachine). StandsOn m n) c.in-Stp.is s in
    subst (λ (m : SourceMachine). TakesUnits m
    (StpMachine c.feed_nibbles.new.self) n c.args.at c.args.byte c.stp_step.result) (sym c.in-Stp.is)
    (stp_takes c.in-Stp.decoder c.feed_nibbles.new.self n c.args.at c.args.byte c.feed_nibbles.result
    c.stp_step.result c.stp_step.ensures
    (c.feed_nibbles.ensures.takes n t))
