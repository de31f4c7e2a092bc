-- What is asked of a listing, and what its window has seen.
use Rattle.std.specs.Prelude.{ℕ, List, Option, Some, None, ⊤, Bool, true}
use Rattle.capture_actions.specs.Names.{Event, Packet, Plan, Bounds, Choice, holds, Content, holds_any_in}
use Rattle.item_tap.specs.declared.window.Window.{Window}
use Rattle.item_tap.specs.Seen as seen
use Rattle.capture_actions.specs.declared.filter.ContentKind.{ContentKind}
use Rattle.capture_actions.specs.declared.filter.ContentKind.TheVariants.{Stp, Raw, Trigger}
use Rattle.item_tap.specs.declared.content.Content.TheVariants.{Stp as ofStp, Raw as ofRaw, Trigger as ofTrigger}
use Rattle.capture_actions.specs.declared.filter.Filter.{Filter}
use Rattle.capture_actions.specs.declared.list_plan.ListPlan.{ListPlan}
use Rattle.capture_actions.specs.Listing.{items_in}

abbrev pub ChoiceWindow : Type 0
ChoiceWindow = Window Choice Choice Choice Choice

-- what this source gives, or the port, meets one of the choices, if there are any
abbrev pub wants : Option (List Choice) → Option ℕ → Content → Bool
wants None source content = true
wants (Some choices) source content = holds_any_in choices source content

-- what a choice sees of what a source gives that has nothing more of which it asks
abbrev pub content_by : ContentKind → Content
content_by Stp = ofStp
content_by Raw = ofRaw
content_by Trigger = ofTrigger

-- the choices of a window, if there is one
abbrev pub bounds_in : Option ChoiceWindow → Option Bounds
bounds_in None = None
bounds_in (Some window) = Some (seen.bounds_of window)

-- it has seen these events, all but the notices of locks
abbrev pub SawAll : Option ChoiceWindow → List (Event Packet) → Type 0
SawAll None es = ⊤
SawAll (Some window) es = seen.HasSeen holds holds window (items_in es)

-- what is asked of the listing of a capture that is read by this plan
abbrev pub plan_by : Plan → Filter → ListPlan
plan_by plan filter = record { plan = plan; only = filter.only; window = bounds_in filter.window }

abbrev pub HasSeen : Filter → List (Event Packet) → Type 0
HasSeen filter es = SawAll filter.window es
