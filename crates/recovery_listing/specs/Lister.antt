-- What puts the lines of a recovering report stands for, and what it was given.
use Rattle.std.specs.Prelude.{◌≡◌, ℕ, List, [], ◌++◌}
use Rattle.source_events.specs.declared.event.Event.{Event}
use Rattle.source_events.specs.declared.packet.Packet.{Packet}
use Rattle.source_events.specs.declared.plan.SourceKind.{SourceKind}
use Rattle.stretch_readings.specs.declared.heard.Heard.{Heard}
use Rattle.recovery_report.specs.Report.{sure_events}
use Rattle.capture_actions.specs.declared.list_plan.ListPlan.{ListPlan}
use Rattle.capture_actions.specs.Filter.{plan_by, HasSeen}
use Rattle.capture_actions.specs.Lister as strict
use Rattle.capture_actions.specs.SourceClocks.{AllStand}
use Rattle.recovery_listing.specs.Listing.{clocked_from, has_fault}
use Rattle.recovering_machines.specs.Hearing.{seen_in}
use Rattle.recovery_listing.specs.GuessClocks.{Follow, Suit}
use Rattle.recovery_listing.specs.Near.{guess_clocked, near_lines_after}
use Rattle.recovery_listing.specs.declared.lister.RecoveringLister.{RecoveringLister}

-- what it was asked for
abbrev pub plan_of : RecoveringLister → ListPlan
plan_of lister = plan_by lister.lister.plan lister.lister.filter

-- Its clocks and its window have taken those of these events that are sure, and it knows whether there is a fault among
-- them; its clocks of guesses have taken the guesses too.
pub record Stands (lister : RecoveringLister) (es : List (Event (Heard Packet))) : Type 0 where
  pub clocks : AllStand lister.lister.clocks (clocked_from [] (sure_events es))
  pub guesses : Follow lister.guess_clocks (guess_clocked es)
  pub seen : HasSeen lister.lister.filter (seen_in (sure_events es))
  pub faulty : lister.is_faulty ≡ has_fault (sure_events es)

-- It put the lines of these events, which follow all that it stands for; of guesses, where they are asked for. An
-- outlet's value is the list of its bytes.
pub record ListerGets (old : RecoveringLister × List ℕ) (es : List (Event (Heard Packet)))
    (new : RecoveringLister × List ℕ) : Type 0 where
  pub same : plan_of new.0 ≡ plan_of old.0
  pub kept : new.0.guess_clocks.kept ≡ old.0.guess_clocks.kept
  pub stands : (before : List (Event (Heard Packet))) → Stands old.0 before → Stands new.0 (before ++ es)
  pub text : (before : List (Event (Heard Packet))) → Stands old.0 before → Suit old.0.guess_clocks.kept es →
      new.1 ≡ old.1 ++ near_lines_after (plan_of old.0) before es

abbrev pub gets : RecoveringLister × List ℕ → List (Event (Heard Packet)) → RecoveringLister × List ℕ → Type 0
gets old es new = ListerGets old es new

-- packets of this source, which is of this kind, are listed from their parts
abbrev pub Lists : RecoveringLister → ℕ → SourceKind → Type 0
Lists lister source kind = strict.Lists lister.lister source kind

-- how many more events it has room for
abbrev pub room : RecoveringLister × List ℕ → ℕ
room s = strict.room (s.0.lister, s.1)
