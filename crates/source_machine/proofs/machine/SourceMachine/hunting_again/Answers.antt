use Rattle.std.proofs.Common.{ap, sym, ◌∙◌, List, Bool}
use Rattle.source_machine.specs.Names.{Placed, Order, items_at, Itm, Stp, stream_as, packets_in}
use Rattle.source_machine.specs.Units.{reads_on}
use Rattle.source_machine.proofs.machine.SourceMachine.hunting_again.Goals as goal

pub returns-in-Stp-clause-reads : goal.returns-in-Stp-clause-reads
returns-in-Stp-clause-reads c =
    ap (λ (o : Order). λ (h : Bool). λ (u : List Placed). stream_as Stp (items_at o h u))
    (c.hunting-in-Stp.ensures.order ∙ c.order.ensures)
    ∙ ap reads_on (sym c.in-Stp.is)

pub returns-in-Itm-clause-mode : goal.returns-in-Itm-clause-mode
returns-in-Itm-clause-mode c =
    ap (λ (h : Bool). λ (u : List Placed). stream_as Itm (packets_in h u)) c.hunting.ensures.mode

pub returns-in-Stp-clause-mode : goal.returns-in-Stp-clause-mode
returns-in-Stp-clause-mode c =
    ap (λ (h : Bool). λ (u : List Placed). stream_as Stp (items_at c.hunting-in-Stp.result.order h u))
    c.hunting-in-Stp.ensures.mode
