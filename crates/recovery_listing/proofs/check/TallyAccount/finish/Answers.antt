use Rattle.std.proofs.Common.{◌∙◌, ◌++◌, ℕ, List, ap, subst}
use Rattle.source_events.specs.declared.event.Event.{Event}
use Rattle.source_events.specs.declared.packet.Packet.{Packet}
use Rattle.stretch_readings.specs.declared.heard.Heard.{Heard}
use Rattle.recovery_engine.specs.Heard.{HasHeard}
use Rattle.recovery_listing.specs.Account.{read_by}
use Rattle.recovery_listing.specs.Counting.{plan_of}
use Rattle.recovery_listing.specs.Summary.{summary}
use Rattle.recovery_listing.specs.SureLaws.{events_sure}
use Rattle.recovery_listing.proofs.check.TallyAccount.finish.Goals as goal

pub returns-clause-ended : goal.returns-clause-ended
returns-clause-ended c = λ seen read s.
    let engine = c.args.engine.now in
    c.put_summary.ensures seen
    (record {
      read = read;
      heard = subst (λ (es : List (Event (Heard Packet))). HasHeard c.args.self.now.heard es)
          (events_sure (read_by engine) seen s.sure) s.heard;
    })
    ∙ ap (λ (l : List ℕ). l ++ summary (plan_of engine) seen) c.requires.empty
