-- What a funnel passes on of segments of bytes (this project's profile).
use Rattle.std.specs.Prelude.{List, [], ◌∷◌, ◌++◌, map}
use Rattle.port_formatter.specs.Names.{Tagged, acts, offers, Act, Drain, Place, Turned, empty, Turns}
use Rattle.trace_funnel.specs.declared.tagged.Tagged.{Tagged as Given}
use Rattle.port_formatter.specs.Segments.{Segments}

-- bytes as a funnel takes them, and as frames have them
abbrev pub to_funnel : List Tagged → List Given
to_funnel bytes = map (λ x. record { id = x.id; byte = x.byte }) bytes

abbrev pub from_funnel : List Given → List Tagged
from_funnel bytes = map (λ x. record { id = x.id; byte = x.byte }) bytes

-- the bytes of a segment are offered one after the other, and at its end there is a drain
abbrev pub bytes_acts : List Tagged → List Act
bytes_acts bytes = offers (to_funnel bytes)

abbrev pub whole_acts : List Tagged → List Act
whole_acts bytes = bytes_acts bytes ++ Drain ∷ []

abbrev pub act_by : Turns → List Place → List Act → Turned
act_by t ps done = acts t.hold t.depth ps done

-- Ended segments as they are passed on, by a funnel with these places, and then an unfinished one. The places go on
-- from one to the next.
abbrev pub passed_from : Turns → List Place → List (List Tagged) → List Tagged → Segments
passed_from t ps [] begun = record { ended = []; begun = from_funnel (act_by t ps (bytes_acts begun)).out }
passed_from t ps (segment ∷ ended) begun =
    let a = act_by t ps (whole_acts segment) in
    let more = passed_from t a.places ended begun in
    record { ended = from_funnel a.out ∷ more.ended; begun = more.begun }

abbrev pub passed : Turns → Segments → Segments
passed t s = passed_from t (empty t.order) s.ended s.begun

-- segments that are all ended
abbrev pub all_passed : Turns → List (List Tagged) → List (List Tagged)
all_passed t segments = (passed_from t (empty t.order) segments []).ended

-- and its places after them
abbrev pub places_from : Turns → List Place → List (List Tagged) → List Tagged → List Place
places_from t ps [] begun = (act_by t ps (bytes_acts begun)).places
places_from t ps (segment ∷ ended) begun = places_from t (act_by t ps (whole_acts segment)).places ended begun

abbrev pub places_after : Turns → Segments → List Place
places_after t s = places_from t (empty t.order) s.ended s.begun
