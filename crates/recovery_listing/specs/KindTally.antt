-- What the account of `check` with kinds that goes on after faults stands for, and what it owes.
use Rattle.std.specs.Prelude.{◌≡◌, ℕ, List, [], false, Option, None, Some}
use Rattle.source_events.specs.declared.event.Event.{Event}
use Rattle.source_events.specs.declared.packet.Packet.{Packet}
use Rattle.source_events.specs.declared.plan.Plan.{Plan}
use Rattle.source_events.specs.declared.tails.Tails.{Tails}
use Rattle.stretch_readings.specs.declared.heard.Heard.{Heard}
use Rattle.trace_stream.specs.Debt.{Debt}
use Rattle.trace_text.specs.EndText.{tails_text}
use Rattle.capture_actions.specs.KindCounts.{HasCounted}
use Rattle.capture_actions.specs.KindLines.{owed}
use Rattle.recovery_engine.specs.Heard.{HasHeard}
use Rattle.recovery_listing.specs.Account.{Pages, events_of}
use Rattle.recovery_listing.specs.HeardKinds.{HeardKindsGets}
use Rattle.recovering_machines.specs.Hearing.{seen_in}
use Rattle.recovery_listing.specs.Recovering as action
use Rattle.recovery_listing.specs.Recovering.{how_of}
use Rattle.recovery_listing.specs.declared.going_on.GoingOn.{GoingOn}
use Rattle.recovery_listing.specs.declared.kinds.KindTally.{KindTally}
use Rattle.recovery_listing.specs.declared.recovering.Recovering.{Recovering}

-- what is asked of a capture that is read so
abbrev pub asked : KindTally → GoingOn Plan → Plan
asked tally how = how.plan

-- it has counted the events of these bytes, which were read by its plan without guesses
pub record HasSorted (tally : KindTally) (how : GoingOn Plan) (seen : List ℕ) : Type 0 where
  pub sure : how.guesses ≡ false
  pub plan : tally.plan ≡ how.plan
  pub heard : HasHeard tally.counts.heard (events_of how seen)
  pub kinds : HasCounted tally.counts.kinds (seen_in (events_of how seen))

-- it has counted these events, too, and nothing was written or noted
pub record KindTallyGets (old : KindTally × Pages) (es : List (Event (Heard Packet))) (new : KindTally × Pages)
    : Type 0 where
  pub same : new.0.plan ≡ old.0.plan
  pub counts : HeardKindsGets old.0.counts es new.0.counts
  pub silent : new.1 ≡ old.1

abbrev pub gets : KindTally × Pages → List (Event (Heard Packet)) → KindTally × Pages → Type 0
gets old es new = KindTallyGets old es new

-- it is after so many bytes
abbrev pub IsAt : KindTally → ℕ → Type 0
IsAt tally count = tally.bytes ≡ count

-- what comes after the lines of all sources
abbrev pub last_of : Option Tails → List ℕ
last_of None = []
last_of (Some tails) = tails_text tails

-- what is still to be put
abbrev pub debt_of : KindTally → Debt
debt_of tally = owed tally.plan tally.counts.kinds tally.lines (last_of tally.tails)

-- what the action was asked for, and what it stands for
abbrev pub plan_of : Recovering KindTally → Plan
plan_of check = asked check.account (how_of check)

abbrev pub Stands : Recovering KindTally → List ℕ → Type 0
Stands check seen = action.Stands HasSorted check seen

abbrev pub IsLive : Recovering KindTally → Type 0
IsLive check = IsAt check.account (action.taken_by check)
