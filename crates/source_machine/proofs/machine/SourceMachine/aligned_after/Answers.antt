use Rattle.std.proofs.Common.{ap, sym, ◌∙◌, List, Bool, false, subst, ◌≡◌, [], None, refl}
use Rattle.source_machine.specs.Names.{Itm, Order, Placed, Stp, given_as, items_at, nibbles_after, packets_in}
use Rattle.source_machine.specs.Names.{stream_as}
use Rattle.source_machine.specs.Units.{kind_of, reads_on, units_after}
use Rattle.source_machine.specs.declared.machine.SourceMachine.{SourceMachine}
use Rattle.source_machine.proofs.Reading.{stp_order, stp_mode}
use Rattle.source_machine.proofs.machine.SourceMachine.aligned_after.Goals as goal

pub returns-in-Stp-clause-reads : goal.returns-in-Stp-clause-reads
returns-in-Stp-clause-reads c =
    stp_order _ _ (c.aligned_after.ensures.order ∙ c.order-order.ensures) ∙ ap reads_on (sym c.in-Stp.is)

pub returns-in-Stp-clause-mode : goal.returns-in-Stp-clause-mode
returns-in-Stp-clause-mode c = stp_mode _ _ _ c.aligned_after.ensures.mode

pub returns-in-Stp-clause-given : goal.returns-in-Stp-clause-given
returns-in-Stp-clause-given c =
    subst (λ (m : SourceMachine). (reads_on m false (units_after (kind_of m) c.args.half c.args.at c.args.byte)).given
    ≡ []) (sym c.in-Stp.is)
    (ap (given_as Stp)
    (subst (λ (o : Order). (items_at o false (nibbles_after c.args.half c.args.at c.args.byte)).given ≡ [])
    c.order-order.ensures c.aligned_after.ensures.given))

pub returns-in-Stp-clause-sound : goal.returns-in-Stp-clause-sound
returns-in-Stp-clause-sound c =
    subst (λ (m : SourceMachine). (reads_on m false (units_after (kind_of m) c.args.half c.args.at c.args.byte)).fault
    ≡ None) (sym c.in-Stp.is)
    (subst (λ (o : Order). (items_at o false (nibbles_after c.args.half c.args.at c.args.byte)).fault ≡ None)
    c.order-order.ensures c.aligned_after.ensures.sound)

pub returns-in-Itm-clause-given : goal.returns-in-Itm-clause-given
returns-in-Itm-clause-given c =
    subst (λ (m : SourceMachine). (reads_on m false (units_after (kind_of m) c.args.half c.args.at c.args.byte)).given
    ≡ []) (sym c.in-Itm.is) refl

pub returns-in-Itm-clause-sound : goal.returns-in-Itm-clause-sound
returns-in-Itm-clause-sound c =
    subst (λ (m : SourceMachine). (reads_on m false (units_after (kind_of m) c.args.half c.args.at c.args.byte)).fault
    ≡ None) (sym c.in-Itm.is) refl

pub returns-in-Itm-clause-mode : goal.returns-in-Itm-clause-mode
returns-in-Itm-clause-mode c =
    ap (λ (h : Bool). λ (u : List Placed). stream_as Itm (packets_in h u)) c.aligned.ensures.mode
