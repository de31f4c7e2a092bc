use Rattle.std.proofs.Common.{ap, subst, sym, ◌∙◌, [], ◌∷◌, ◌++◌}
use Rattle.source_machine.specs.Names.{byte_at, Grows, packets_in, is_hunter, Itm, Stp, stream_as}
use Rattle.source_machine.specs.declared.machine.SourceMachine.{SourceMachine}
use Rattle.source_machine.specs.Machine.{reading_of, Stands}
use Rattle.source_machine.specs.SeenLaws.{grows_as}
use Rattle.source_machine.proofs.Reading.{seen_same}
use Rattle.source_machine.proofs.machine.SourceMachineMachine.feed.Goals as goal

pub returns-in-Itm-clause-same : goal.returns-in-Itm-clause-same
returns-in-Itm-clause-same c =
    seen_same Itm _ _ c.feed.ensures.same ∙ ap reading_of (sym c.in-Itm.is)

pub returns-in-Stp-clause-same : goal.returns-in-Stp-clause-same
returns-in-Stp-clause-same c =
    seen_same Stp _ _ c.feed-in-Stp.ensures.same ∙ ap reading_of (sym c.in-Stp.is)

pub returns-in-Itm-clause-step : goal.returns-in-Itm-clause-step
returns-in-Itm-clause-step c = λ u s.
    let next = u ++ byte_at c.args.at c.args.byte ∷ [] in
    let hunts = is_hunter c.in-Itm.decoder in
    subst (λ (m : SourceMachine). Grows (reading_of m u) (reading_of m next) c.args.at c.itm_step.result) (sym c.in-Itm.is)
    (subst (λ step. Grows (stream_as Itm (packets_in hunts u)) (stream_as Itm (packets_in hunts next)) c.args.at step) (sym c.itm_step.ensures)
    (grows_as Itm (packets_in hunts u) (packets_in hunts next) c.args.at c.feed.result
    (c.feed.ensures.step u (subst (λ (m : SourceMachine). Stands m u) c.in-Itm.is s))))

pub returns-in-Itm-clause-list : goal.returns-in-Itm-clause-list
returns-in-Itm-clause-list c = λ u s. c.feed.ensures.list u (subst (λ (m : SourceMachine). Stands m u) c.in-Itm.is s)
