-- What the account of `show` that goes on after faults stands for, and what it was given.
use Rattle.std.specs.Prelude.{◌≡◌, ℕ, List}
use Rattle.source_events.specs.declared.event.Event.{Event}
use Rattle.source_events.specs.declared.packet.Packet.{Packet}
use Rattle.source_events.specs.declared.plan.Plan.{Plan}
use Rattle.stretch_readings.specs.declared.heard.Heard.{Heard}
use Rattle.capture_actions.specs.declared.list_plan.ListPlan.{ListPlan}
use Rattle.recovery_listing.specs.Account.{Pages, events_of}
use Rattle.recovery_listing.specs.Lister as lister
use Rattle.recovery_listing.specs.Recovering as action
use Rattle.recovery_listing.specs.Recovering.{how_of}
use Rattle.recovery_listing.specs.declared.going_on.GoingOn.{GoingOn}
use Rattle.recovery_listing.specs.declared.lister.RecoveringLister.{RecoveringLister}
use Rattle.recovery_listing.specs.declared.recovering.Recovering.{Recovering}

-- what is listed of a capture that is read by this plan
abbrev pub with_plan : Plan → ListPlan → ListPlan
with_plan plan p = record { plan = plan; only = p.only; window = p.window }

-- what is asked of a capture that is read so
abbrev pub asked : RecoveringLister → GoingOn Plan → GoingOn ListPlan
asked l how = record { plan = with_plan how.plan (lister.plan_of l); guesses = how.guesses }

-- it lists by the plan that is read by, with guesses where they are read, and has taken the events of these bytes
pub record HasListed (l : RecoveringLister) (how : GoingOn Plan) (seen : List ℕ) : Type 0 where
  pub plan : (lister.plan_of l).plan ≡ how.plan
  pub guesses : l.guess_clocks.kept ≡ how.guesses
  pub events : lister.Stands l (events_of how seen)

-- the lines of these events were put, and nothing was noted
pub record ShowGets (old : RecoveringLister × Pages) (es : List (Event (Heard Packet)))
    (new : RecoveringLister × Pages) : Type 0 where
  pub listed : lister.gets (old.0, old.1.text) es (new.0, new.1.text)
  pub silent : new.1.notes ≡ old.1.notes

abbrev pub gets : RecoveringLister × Pages → List (Event (Heard Packet)) → RecoveringLister × Pages → Type 0
gets old es new = ShowGets old es new

-- what the action was asked for, and what it stands for
abbrev pub plan_of : Recovering RecoveringLister → GoingOn ListPlan
plan_of show = asked show.account (how_of show)

abbrev pub Stands : Recovering RecoveringLister → List ℕ → Type 0
Stands show seen = action.Stands HasListed show seen
