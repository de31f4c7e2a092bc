-- The lines of guesses: of what a source that hunts after a fault may have said.
use Rattle.std.specs.Prelude.{ℕ, List, [], Option, None, Some, Bool, true, ◌&&◌, if◌then◌else◌}
use Rattle.item_tap.specs.Windows.{is_open_after}
use Rattle.trace_text.specs.LineText.{doubted}
use Rattle.capture_actions.specs.Names.{Bounds, Event, Packet, event_line, holds}
use Rattle.capture_actions.specs.declared.list_plan.ListPlan.{ListPlan}
use Rattle.capture_actions.specs.Faulty.{is_stp}
use Rattle.capture_actions.specs.Listing.{items_in, itm_packets, meets, remark_of}

-- A window, if there is one, is open after these events, which it has seen. It does not see guesses: none opens or
-- closes it, and one is within it where it is open.
abbrev pub is_open : Option Bounds → List (Event Packet) → Bool
is_open None seen = true
is_open (Some bounds) seen = is_open_after (holds bounds.first) (holds bounds.last) (items_in seen)

-- The line of a guess, where the clocks of guesses have taken some events and the window has seen some, with its mark;
-- none where the window is closed, or it meets none of the choices.
abbrev pub guess_by : ListPlan → List (Event Packet) → List (Event Packet) → Event Packet → List ℕ
guess_by p clocked seen e =
    if is_open p.window seen && meets p.only e
    then doubted (event_line (is_stp p.plan e.source) e (remark_of (itm_packets e.source clocked) e.what))
    else []
