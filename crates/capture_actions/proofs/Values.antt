-- The values that software wrote to a port, event by event.
use Rattle.std.proofs.Common.{◌≡◌, ℕ, List, [], ◌∷◌, ◌++◌, refl, ◌∙◌, ap, flat_map, filter, append-nil}
use Rattle.std.proofs.Common.{Option, Bool, true, false, cond}
use Rattle.std.proofs.lemmas.Grind.{flat_map-append}
use Rattle.std.specs.Prelude.{◌==◌, ◌&&◌}
use Rattle.itm_grammar.specs.Shortest.{bytes_of}
use Rattle.itm_grammar.specs.Spelling.{byte_count}
use Rattle.itm_grammar.specs.declared.packet.ItmPacket.TheVariants.{Sync, Overflow, Software, Hardware, Local}
use Rattle.itm_grammar.specs.declared.packet.ItmPacket.TheVariants.{GlobalFirst, GlobalSecond, Extension}
use Rattle.item_tap.specs.declared.choice.Choice.TheVariants.{Port}
use Rattle.item_tap.specs.Choices.{holds_in}
use Rattle.source_events.specs.declared.event.What.TheVariants.{Locked, Packet as Said, Trigger}
use Rattle.source_events.specs.declared.packet.Packet.TheVariants.{Stp as StpOf}
use Rattle.capture_actions.specs.Names.{Event, What, Packet, Itm, Raw, is_of, holds, content_of}
use Rattle.capture_actions.specs.Listing.{itm_packet, itm_packets}
use Rattle.capture_actions.specs.PortText.{value_of, written_by, values_in}

module _ (port : ℕ) where
  -- what an event has of the port is its value, if it was written there
  of_port : (source : Option ℕ) (what : What Packet) →
      flat_map (value_of port) (itm_packet what)
      ≡ cond (holds_in (Port port) source (content_of what)) (written_by what) []
  of_port source (Locked skipped) = refl
  of_port source (Raw bytes) = refl
  of_port source (Trigger byte) = refl
  of_port source (Said (StpOf item)) = refl
  of_port source (Said (Itm Sync)) = refl
  of_port source (Said (Itm Overflow)) = refl
  of_port source (Said (Itm (Software n size value))) =
      append-nil (cond (n == port) (bytes_of (byte_count size) value) [])
  of_port source (Said (Itm (Hardware disc size value))) = refl
  of_port source (Said (Itm (Local lateness delta))) = refl
  of_port source (Said (Itm (GlobalFirst len value change wrap))) = refl
  of_port source (Said (Itm (GlobalSecond wide value))) = refl
  of_port source (Said (Itm (Extension dwt value))) = refl

  abbrev all_written : List (Event Packet) → List ℕ
  all_written es = flat_map (λ (e : Event Packet). written_by e.what) es

  chosen : (is : Bool) (e : Event Packet) (rest : List (Event Packet)) →
      cond is (written_by e.what) [] ++ all_written rest ≡ all_written (cond is (e ∷ rest) rest)
  chosen true e rest = refl
  chosen false e rest = refl

  -- an event, by whether it is of the source
  one : (mine : Bool) (e : Event Packet) (rest : List (Event Packet)) →
      flat_map (value_of port) (cond mine (itm_packet e.what) []) ++ all_written rest
      ≡ all_written (cond (mine && holds (Port port) e) (e ∷ rest) rest)
  one false e rest = refl
  one true e rest =
      ap (λ (l : List ℕ). l ++ all_written rest) (of_port e.source e.what) ∙ chosen (holds (Port port) e) e rest

  -- the values are those of the events that are chosen
  pub values_chosen : (source : Option ℕ) (es : List (Event Packet)) →
      values_in source port es ≡ all_written (filter (λ e. is_of source e.source && holds (Port port) e) es)
  values_chosen source [] = refl
  values_chosen source (e ∷ es) =
      flat_map-append (value_of port) (cond (is_of source e.source) (itm_packet e.what) []) (itm_packets source es)
      ∙ ap (λ (l : List ℕ). flat_map (value_of port) (cond (is_of source e.source) (itm_packet e.what) []) ++ l)
      (values_chosen source es)
      ∙ one (is_of source e.source) e (filter (λ x. is_of source x.source && holds (Port port) x) es)
