-- What counters of events are given adds up: proofs that their `impl` cites.
use Rattle.std.proofs.Common.{List, [], ◌++◌, sym, subst, append_assoc, append-nil}
use Rattle.source_events.specs.declared.event.Event.{Event}
use Rattle.source_events.specs.declared.packet.Packet.{Packet}
use Rattle.stretch_readings.specs.declared.heard.Heard.{Heard}
use Rattle.recovery_engine.specs.declared.heard_counts.HeardCounts.{HeardCounts}
use Rattle.recovery_engine.specs.Heard.{HasHeard, gets}
use Rattle.recovering_machines.specs.Hearing.{AddsUp}

-- given nothing they are as before
gets_none : (s : HeardCounts × Unit {0}) → gets s [] s
gets_none s = λ before k. subst (λ l. HasHeard s.0 l) (sym (append-nil before)) k

-- given some events and then more, they have counted all of them
gets_more : (a b c : HeardCounts × Unit {0}) (es fs : List (Event (Heard Packet))) → gets a es b → gets b fs c →
    gets a (es ++ fs) c
gets_more a b c es fs h k = λ before j.
    subst (λ l. HasHeard c.0 l) (append_assoc before es fs) (k (before ++ es) (h before j))

pub adds_up : AddsUp gets
adds_up = record { none = gets_none; more = gets_more }
