-- Which events pass a window, which opens at events for which one rule holds and closes after those for which another
-- does.
use Rattle.std.specs.Prelude.{◌≡◌, Bool, true, false, not, List, [], ◌∷◌, ◌++◌, ◌&&◌, ◌||◌, ◌⊎◌}
use Rattle.std.specs.List.{list_all}
use Rattle.source_events.specs.declared.event.Event.{Event}
use Rattle.source_events.specs.declared.packet.Packet.{Packet}

-- The window is open after some events: there is one among them for which the first rule holds, such that the last
-- holds neither for it nor for any event after it.
pub record IsOpenAfter (first last : Event Packet → Bool) (es : List (Event Packet)) : Type 0 where
  pub front : List (Event Packet)
  pub opening : Event Packet
  pub between : List (Event Packet)
  pub parts : es ≡ front ++ opening ∷ between
  pub opens : first opening ≡ true
  pub stays : list_all (λ e. not (last e)) (opening ∷ between) ≡ true

-- An event passes after those before it: the first rule holds for it, or for an earlier event such that the last holds
-- neither for that event nor for any between the two.
abbrev pub Passes : (Event Packet → Bool) → (Event Packet → Bool) → List (Event Packet) → Event Packet → Type 0
Passes first last before e = (first e ≡ true) ⊎ IsOpenAfter first last before

-- the same, computed
abbrev pub is_open_after : (Event Packet → Bool) → (Event Packet → Bool) → List (Event Packet) → Bool
is_open_after first last [] = false
is_open_after first last (e ∷ es) =
    first e && list_all (λ x. not (last x)) (e ∷ es) || is_open_after first last es

abbrev pub passes : (Event Packet → Bool) → (Event Packet → Bool) → List (Event Packet) → Event Packet → Bool
passes first last before e = first e || is_open_after first last before
