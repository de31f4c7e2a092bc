-- How the account of `check` goes on: proofs that its `impl` cites.
use Rattle.std.proofs.Common.{◌≡◌, ◌<◌, ℕ, List, [], ◌++◌, length, refl, sym, subst}
use Rattle.source_events.specs.declared.event.Event.{Event}
use Rattle.source_events.specs.declared.packet.Packet.{Packet}
use Rattle.source_events.specs.declared.plan.Plan.{Plan}
use Rattle.stretch_readings.specs.declared.heard.Heard.{Heard}
use Rattle.recovery_engine.specs.Heard.{HasHeard}
use Rattle.recovery_listing.specs.Account.{GoesOn, Pages, events_of}
use Rattle.recovery_listing.specs.Check.{HasCounted, asked, gets}
use Rattle.recovery_listing.specs.MeaningLaws.{end_goes_on}
use Rattle.recovery_listing.specs.Summary.{check_meaning, summary}
use Rattle.recovery_listing.specs.declared.check.Tally.{Tally}
use Rattle.recovery_listing.specs.declared.going_on.GoingOn.{GoingOn}

pub same : (old new : Tally × Pages) (given : List (Event (Heard Packet))) (how : GoingOn Plan) →
    gets old given new → asked new.0 how ≡ asked old.0 how
same old new given how g = refl

pub goes_on : (old new : Tally × Pages) (given : List (Event (Heard Packet))) (how : GoingOn Plan)
    (seen front : List ℕ) → gets old given new → 0 < length front →
    events_of how (seen ++ front) ≡ events_of how seen ++ given → HasCounted old.0 how seen →
    GoesOn (HasCounted new.0 how) (check_meaning (asked old.0 how)) (λ bytes. []) seen front old.1 new.1
goes_on old new given how seen front g some more h =
    end_goes_on (HasCounted new.0 how) (summary how.plan) seen front old.1 new.1 g.silent (record {
      sure = h.sure;
      heard = subst (λ (es : List (Event (Heard Packet))). HasHeard new.0.heard es) (sym more)
          (g.heard (events_of how seen) h.heard);
    })
