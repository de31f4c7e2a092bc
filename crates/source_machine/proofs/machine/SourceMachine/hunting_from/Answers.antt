use Rattle.std.proofs.Common.{ap, sym, ◌∙◌}
use Rattle.source_machine.specs.Names.{Itm, packets_in}
use Rattle.source_machine.specs.Units.{reads_on}
use Rattle.source_machine.proofs.Reading.{seen_same, stp_order, stp_mode}
use Rattle.source_machine.proofs.machine.SourceMachine.hunting_from.Goals as goal

pub returns-in-Stp-clause-reads : goal.returns-in-Stp-clause-reads
returns-in-Stp-clause-reads c =
    stp_order _ _ (c.hunting_from.ensures.order ∙ c.order.ensures) ∙ ap reads_on (sym c.in-Stp.is)

pub returns-in-Stp-clause-mode : goal.returns-in-Stp-clause-mode
returns-in-Stp-clause-mode c = stp_mode _ _ _ c.hunting_from.ensures.mode

pub returns-in-Itm-clause-mode : goal.returns-in-Itm-clause-mode
returns-in-Itm-clause-mode c =
    seen_same Itm _ _ (c.feed.ensures.same ∙ ap packets_in c.hunting-decoder.ensures.mode)
