-- What `check` writes: how many synchronisations and frames a port has, how much each source sent, and the end lines.
use Rattle.std.specs.Prelude.{ℕ, List, [], ◌++◌, flat_map, Option, Some, None, ◌==◌, if◌then◌else◌, false}
use Rattle.std.specs.List.{range_with_len}
use Rattle.capture_actions.specs.Names.{Reason, ID_COUNT, Place, Placed, placed, Meaning, Plan, port_counts_of}
use Rattle.capture_actions.specs.Names.{source_counts_of, tails_of, fault_of, port_counts_text, tails_text, fault_line}
use Rattle.source_counts.specs.declared.counts.Counts.{Counts}
use Rattle.source_events.specs.declared.tails.PortCounts.{PortCounts}
use Rattle.source_events.specs.declared.tails.Tails.{Tails}
use Rattle.trace_text.specs.CountText.{source_counts_line}
use Rattle.capture_actions.specs.Faulty.{is_stp, IsFaulty}

-- the line of a source that sent a byte
abbrev pub source_text : ℕ → Counts → List ℕ
source_text id counts = if counts.bytes == 0 then [] else source_counts_line id counts.bytes counts.items

-- the lines of the first IDs, as many as this, whose counts these are
unfoldable pub sources_text : (ℕ → Counts) → ℕ → List ℕ
sources_text counts ids = flat_map (λ id. source_text id (counts id)) (range_with_len 0 ids)

-- the counts of the port and of all sources, 0 to 126, and the end lines
abbrev pub counts_by : PortCounts → (ℕ → Counts) → Tails → List ℕ
counts_by port counts tails =
    port_counts_text port.fulls port.halves port.frames ++ (sources_text counts ID_COUNT ++ tails_text tails)

abbrev pub counts_text : Plan → List Placed → List ℕ
counts_text plan u = counts_by (port_counts_of plan u) (source_counts_of plan u) (tails_of plan u)

abbrev pub summary_by : Plan → List Placed → Option (Place × (Reason × Option ℕ)) → List ℕ
summary_by plan u None = counts_text plan u
summary_by plan u (Some fault) = fault_line (is_stp plan fault.1.1) fault

-- the summary: the counts and the end lines, or the line of the fault alone in their place
abbrev pub summary : Plan → List ℕ → List ℕ
summary plan bytes = summary_by plan (placed bytes) (fault_of plan (placed bytes))

-- all that `check` makes of the bytes of a capture: nothing is written before the end
abbrev pub check_meaning : Plan → Meaning
check_meaning plan = record { faulty = IsFaulty plan; text = λ bytes. []; ending = summary plan; due = false }
