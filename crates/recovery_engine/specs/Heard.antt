-- What counters of events have counted.
use Rattle.std.specs.Prelude.{◌≡◌, ◌≤◌, ℕ, ◌-◌, List, [], ◌∷◌, ◌++◌, ◌&&◌, Bool, true, false, Some, IsOk}
use Rattle.std.specs.List.{count_by}
use Rattle.trace_values.specs.declared.limits.TheConstants.{COUNT_ROOM}
use Rattle.source_events.specs.declared.event.Event.{Event}
use Rattle.source_events.specs.declared.event.What.{What}
use Rattle.source_events.specs.declared.event.What.TheVariants.{Packet as Said}
use Rattle.source_events.specs.declared.packet.Packet.{Packet}
use Rattle.source_events.specs.Merge.{is_of}
use Rattle.recovery_engine.specs.PerSource.{number_of}
use Rattle.stretch_readings.specs.declared.heard.Heard.{Heard}
use Rattle.stretch_readings.specs.declared.heard.Heard.TheVariants.{Read}
use Rattle.recovering_machines.specs.Hearing.{as_strict}
use Rattle.recovery_report.specs.Counts.{faults_in}
use Rattle.recovery_engine.specs.declared.heard_counts.HeardCounts.{HeardCounts}

-- a packet, and no guess
abbrev pub is_packet : What (Heard Packet) → Bool
is_packet (Said (Read packet)) = true
is_packet what = false

-- how many packets of a source these events are
abbrev pub packets_in : ℕ → List (Event (Heard Packet)) → ℕ
packets_in x es = count_by (λ e. is_of (Some x) e.source && is_packet e.what) es

-- the packets of each source in these events, and the faults
pub record HasHeard (counts : HeardCounts) (es : List (Event (Heard Packet))) : Type 0 where
  pub packets : (id : ℕ) → id ≤ 126 → number_of counts.packets id ≡ packets_in id es
  pub faults : counts.faults ≡ faults_in es

-- how many of them it has counted
abbrev pub heard_of : HeardCounts → ℕ
heard_of counts = counts.events

-- how many more it counts
abbrev pub room : HeardCounts × Unit {0} → ℕ
room s = COUNT_ROOM - heard_of s.0

-- whatever it had counted, it counted these events, too
abbrev pub gets : HeardCounts × Unit {0} → List (Event (Heard Packet)) → HeardCounts × Unit {0} → Type 0
gets old es new = (before : List (Event (Heard Packet))) → HasHeard old.0 before → HasHeard new.0 (before ++ es)

-- counters stay as they are with these events: none is a packet or a fault
abbrev pub AreUnread : List (Event (Heard Packet)) → Type 0
AreUnread es = (counts : HeardCounts) → gets (counts, tt) es (counts, tt)

-- none of these events is a fault
abbrev pub AreSound : List (Event (Heard Packet)) → Type 0
AreSound [] = Unit {0}
AreSound (e ∷ es) = IsOk (as_strict e.what) × AreSound es
