-- What `show` writes: the lines of the events of a capture's report, and the end lines or the line of its fault.
use Rattle.std.specs.Prelude.{ℕ, List, [], ◌∷◌, ◌++◌, flat_map, filter, Option, Some, None, Bool, true, not, ◌&&◌, ◌||◌}
use Rattle.std.specs.Prelude.{if◌then◌else◌, false}
use Rattle.capture_actions.specs.Names.{Reason, Place, Placed, placed, Meaning, ItmPacket, Event, What, Packet, Itm}
use Rattle.capture_actions.specs.Names.{Plan, is_of, is_item, tails_of, report_of, fault_of, Bounds, Choice, holds}
use Rattle.capture_actions.specs.Names.{holds_any, Remark, None as NoRemark, event_line, fault_line, tails_text}
use Rattle.source_events.specs.declared.event.What.TheVariants.{Packet as Said}
use Rattle.item_tap.specs.Windows.{passes}
use Rattle.capture_actions.specs.declared.list_plan.ListPlan.{ListPlan}
use Rattle.capture_actions.specs.Faulty.{is_stp, IsFaulty}
use Rattle.capture_actions.specs.Remarks.{remark_by}

-- the ITM packet that an event is
abbrev pub itm_packet : What Packet → List ItmPacket
itm_packet (Said (Itm packet)) = packet ∷ []
itm_packet what = []

-- the ITM packets of a source among some events, in order
abbrev pub itm_packets : Option ℕ → List (Event Packet) → List ItmPacket
itm_packets source es = flat_map (λ e. if is_of source e.source then itm_packet e.what else []) es

-- what is beside an event, after these packets of its source: the times that its own packets up to it tell
abbrev pub remark_of : List ItmPacket → What Packet → Remark
remark_of before (Said (Itm packet)) = remark_by (before ++ packet ∷ []) packet
remark_of before what = NoRemark

-- the events that are no notices of locks
abbrev pub items_in : List (Event Packet) → List (Event Packet)
items_in es = filter (λ e. is_item e.what) es

-- an event meets one of the choices, if there are any
abbrev pub meets : Option (List Choice) → Event Packet → Bool
meets None e = true
meets (Some choices) e = holds_any choices e

-- an event after these is within the window, if there is one; a window does not see notices
abbrev pub is_within : Option Bounds → List (Event Packet) → Event Packet → Bool
is_within None before e = true
is_within (Some bounds) before e = passes (holds bounds.first) (holds bounds.last) (items_in before) e

-- an event is listed where it is within the window and meets one of the choices; the notice of a lock always is
abbrev pub is_listed : Option (List Choice) → Option Bounds → List (Event Packet) → Event Packet → Bool
is_listed only window before e = is_within window before e && meets only e || not (is_item e.what)

-- The line of an event, where the clocks have taken some events and the window has seen some; none where it is not
-- listed.
abbrev pub line_by : ListPlan → List (Event Packet) → List (Event Packet) → Event Packet → List ℕ
line_by p clocked seen e =
    if is_listed p.only p.window seen e
    then event_line (is_stp p.plan e.source) e (remark_of (itm_packets e.source clocked) e.what)
    else []

-- the line of an event after those before it
abbrev pub line_after : ListPlan → List (Event Packet) → Event Packet → List ℕ
line_after p before e = line_by p before before e

-- the lines of events, in order, where the clocks have taken some events and the window has seen some
abbrev pub lines_from : ListPlan → List (Event Packet) → List (Event Packet) → List (Event Packet) → List ℕ
lines_from p clocked seen [] = []
lines_from p clocked seen (e ∷ es) =
    line_by p clocked seen e ++ lines_from p (clocked ++ e ∷ []) (seen ++ e ∷ []) es

-- the lines of events after those before them
abbrev pub lines_after : ListPlan → List (Event Packet) → List (Event Packet) → List ℕ
lines_after p before es = lines_from p before before es

-- the lines of the events of the report
abbrev pub listed : ListPlan → List ℕ → List ℕ
listed p bytes = lines_from p [] [] (report_of p.plan (placed bytes))

-- what comes after them: the end lines, or the line of the fault alone in their place
abbrev pub ending_by : Plan → List Placed → Option (Place × (Reason × Option ℕ)) → List ℕ
ending_by plan u None = tails_text (tails_of plan u)
ending_by plan u (Some fault) = fault_line (is_stp plan fault.1.1) fault

abbrev pub ending : ListPlan → List ℕ → List ℕ
ending p bytes = ending_by p.plan (placed bytes) (fault_of p.plan (placed bytes))

-- the whole listing
abbrev pub listing : ListPlan → List ℕ → List ℕ
listing p bytes = listed p bytes ++ ending_by p.plan (placed bytes) (fault_of p.plan (placed bytes))

-- all that `show` makes of the bytes of a capture
abbrev pub show_meaning : ListPlan → Meaning
show_meaning p = record { faulty = IsFaulty p.plan; text = listed p; ending = ending p; due = false }
