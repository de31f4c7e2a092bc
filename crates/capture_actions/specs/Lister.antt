-- What the receiver of `show` was given, and how much more it has room for.
use Rattle.std.specs.Prelude.{◌≡◌, ℕ, ◌+◌, ◌-◌, ◌/◌, List, ◌++◌, length, None, Some, true, false}
use Rattle.capture_actions.specs.Names.{Event, Packet, SourceKind, Stp, TEXT_ROOM, OUTLET_ROOM}
use Rattle.source_events.specs.declared.plan.SourceKind.TheVariants.{Itm}
use Rattle.trace_text.specs.declared.lines.TheConstants.{EVENT_ROOM}
use Rattle.capture_actions.specs.Faulty.{is_stp}
use Rattle.capture_actions.specs.Filter.{plan_by, HasSeen}
use Rattle.capture_actions.specs.Listing.{lines_from}
use Rattle.capture_actions.specs.SourceClocks.{AllStand}
use Rattle.capture_actions.specs.declared.lister.Lister.{Lister}

-- It put the lines of these events, which follow those that its clocks have taken and those that its filter has seen.
-- (The clocks may have begun anew since.) An outlet's value is the list of its bytes.
pub record ListerGets (old : Lister × List ℕ) (es : List (Event Packet)) (new : Lister × List ℕ) : Type 0 where
  pub kept : new.0.plan ≡ old.0.plan
  pub asked : plan_by new.0.plan new.0.filter ≡ plan_by old.0.plan old.0.filter
  pub clocks : (before : List (Event Packet)) → AllStand old.0.clocks before → AllStand new.0.clocks (before ++ es)
  pub seen : (before : List (Event Packet)) → HasSeen old.0.filter before → HasSeen new.0.filter (before ++ es)
  pub text : (clocked seen : List (Event Packet)) → AllStand old.0.clocks clocked → HasSeen old.0.filter seen →
      new.1 ≡ old.1 ++ lines_from (plan_by old.0.plan old.0.filter) clocked seen es

abbrev pub gets : Lister × List ℕ → List (Event Packet) → Lister × List ℕ → Type 0
gets old es new = ListerGets old es new

-- Packets of this source are listed from their parts: there is no window, and by the plan it sends none of the other
-- kind.
abbrev pub ListsItm : Lister → ℕ → Type 0
ListsItm lister source = (lister.filter.window ≡ None) × (is_stp lister.plan (Some source) ≡ false)

abbrev pub ListsStp : Lister → ℕ → Type 0
ListsStp lister source = (lister.filter.window ≡ None) × (is_stp lister.plan (Some source) ≡ true)

-- of this kind
abbrev pub Lists : Lister → ℕ → SourceKind → Type 0
Lists lister source Itm = ListsItm lister source
Lists lister source Stp = ListsStp lister source

-- A line takes at most the room of an event, and is put where a text has room.
abbrev pub room : Lister × List ℕ → ℕ
room s = (OUTLET_ROOM + EVENT_ROOM - TEXT_ROOM - length s.1) / EVENT_ROOM
