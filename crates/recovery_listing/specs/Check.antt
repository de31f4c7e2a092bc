-- What the account of `check` that goes on after faults stands for.
use Rattle.std.specs.Prelude.{◌≡◌, ℕ, List, false}
use Rattle.source_events.specs.declared.event.Event.{Event}
use Rattle.source_events.specs.declared.packet.Packet.{Packet}
use Rattle.source_events.specs.declared.plan.Plan.{Plan}
use Rattle.stretch_readings.specs.declared.heard.Heard.{Heard}
use Rattle.recovery_engine.specs.Heard as heard
use Rattle.recovery_engine.specs.Heard.{HasHeard}
use Rattle.recovery_listing.specs.Account.{Pages, events_of}
use Rattle.recovery_listing.specs.Recovering as action
use Rattle.recovery_listing.specs.Recovering.{how_of}
use Rattle.recovery_listing.specs.declared.check.Tally.{Tally}
use Rattle.recovery_listing.specs.declared.going_on.GoingOn.{GoingOn}
use Rattle.recovery_listing.specs.declared.recovering.Recovering.{Recovering}

-- what is asked of a capture that is read so
abbrev pub asked : Tally → GoingOn Plan → Plan
asked tally how = how.plan

-- it has counted the events of these bytes, which were read without guesses
pub record HasCounted (tally : Tally) (how : GoingOn Plan) (seen : List ℕ) : Type 0 where
  pub sure : how.guesses ≡ false
  pub heard : HasHeard tally.heard (events_of how seen)

-- it has counted these events, too, and nothing was written or noted
pub record TallyGets (old : Tally × Pages) (es : List (Event (Heard Packet))) (new : Tally × Pages) : Type 0 where
  pub heard : heard.gets (old.0.heard, tt) es (new.0.heard, tt)
  pub silent : new.1 ≡ old.1

abbrev pub gets : Tally × Pages → List (Event (Heard Packet)) → Tally × Pages → Type 0
gets old es new = TallyGets old es new

-- it is after so many bytes
abbrev pub IsAt : Tally → ℕ → Type 0
IsAt tally count = tally.bytes ≡ count

-- what the action was asked for, and what it stands for
abbrev pub plan_of : Recovering Tally → Plan
plan_of check = asked check.account (how_of check)

abbrev pub Stands : Recovering Tally → List ℕ → Type 0
Stands check seen = action.Stands HasCounted check seen

abbrev pub IsLive : Recovering Tally → Type 0
IsLive check = IsAt check.account (action.taken_by check)
