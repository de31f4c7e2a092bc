-- How the account of `check` with kinds goes on: proofs that its `impl` cites.
use Rattle.std.proofs.Common.{◌≡◌, ◌<◌, ◌∙◌, ℕ, List, [], ◌++◌, length, refl, sym, subst}
use Rattle.source_events.specs.declared.event.Event.{Event}
use Rattle.source_events.specs.declared.packet.Packet.{Packet}
use Rattle.source_events.specs.declared.plan.Plan.{Plan}
use Rattle.stretch_readings.specs.declared.heard.Heard.{Heard}
use Rattle.capture_actions.specs.KindCounts.{HasCounted}
use Rattle.recovery_engine.specs.Heard.{HasHeard}
use Rattle.recovery_listing.specs.Account.{GoesOn, Pages, events_of}
use Rattle.recovery_listing.specs.KindTally.{HasSorted, asked, gets}
use Rattle.recovery_listing.specs.Kinds.{kinds_meaning_on, kinds_summary}
use Rattle.recovering_machines.specs.Hearing.{seen_in}
use Rattle.recovering_machines.specs.HearingLaws.{seen_append}
use Rattle.recovery_listing.specs.MeaningLaws.{end_goes_on}
use Rattle.recovery_listing.specs.declared.going_on.GoingOn.{GoingOn}
use Rattle.recovery_listing.specs.declared.kinds.KindTally.{KindTally}

pub same : (old new : KindTally × Pages) (given : List (Event (Heard Packet))) (how : GoingOn Plan) →
    gets old given new → asked new.0 how ≡ asked old.0 how
same old new given how g = refl

pub goes_on : (old new : KindTally × Pages) (given : List (Event (Heard Packet))) (how : GoingOn Plan)
    (seen front : List ℕ) → gets old given new → 0 < length front →
    events_of how (seen ++ front) ≡ events_of how seen ++ given → HasSorted old.0 how seen →
    GoesOn (HasSorted new.0 how) (kinds_meaning_on (asked old.0 how)) (λ bytes. []) seen front old.1 new.1
goes_on old new given how seen front g some more h =
    end_goes_on (HasSorted new.0 how) (kinds_summary how.plan) seen front old.1 new.1 g.silent (record {
      sure = h.sure;
      plan = g.same ∙ h.plan;
      heard = subst (λ (es : List (Event (Heard Packet))). HasHeard new.0.counts.heard es) (sym more)
          (g.counts.heard (events_of how seen) h.heard);
      kinds = subst (λ (es : List (Event (Heard Packet))). HasCounted new.0.counts.kinds (seen_in es)) (sym more)
          (subst (λ (es : List (Event Packet)). HasCounted new.0.counts.kinds es)
          (sym (seen_append (events_of how seen) given)) (g.counts.kinds (seen_in (events_of how seen)) h.kinds));
    })
