-- What a list of events is given adds up: proofs that its `impl` cites.
use Rattle.std.proofs.Common.{◌∙◌, ◌++◌, [], List, sym, ap, append_assoc, append-nil}
use Rattle.std.proofs.lemmas.List.Elements.{All-append, All-nil}
use Rattle.arrayvec.specs.ArrayVec.{ArrayVec}
use Rattle.source_events.specs.Fitting.{EventFits, PacketFits}
use Rattle.source_events.specs.declared.event.Event.{Event}
use Rattle.source_events.specs.declared.packet.Packet.{Packet}
use Rattle.recovering_machines.specs.Events.{list_gets}
use Rattle.recovering_machines.specs.Hearing.{AddsUp}

-- given nothing it is as before
list_gets_none : (s : ArrayVec (Event Packet) × Unit {0}) → list_gets s [] s
list_gets_none s = (sym (append-nil s.0.items), All-nil (λ (e : Event Packet). EventFits PacketFits e))

-- given some events and then more, it has all of them
list_gets_more : (a b c : ArrayVec (Event Packet) × Unit {0}) (es fs : List (Event Packet)) →
    list_gets a es b → list_gets b fs c → list_gets a (es ++ fs) c
list_gets_more a b c es fs h k = (
  k.0 ∙ ap (λ (l : List (Event Packet)). l ++ fs) h.0 ∙ append_assoc a.0.items es fs,
  All-append (λ (e : Event Packet). EventFits PacketFits e) es fs h.1 k.1,
)

pub list_adds_up : AddsUp list_gets
list_adds_up = record { none = list_gets_none; more = list_gets_more }
