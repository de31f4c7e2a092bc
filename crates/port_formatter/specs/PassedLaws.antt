-- What a funnel passes on grows with what is offered to it.
use Rattle.std.proofs.Common.{◌≡◌, List, [], ◌∷◌, ◌++◌, ◌∙◌, ap, append_assoc}
use Rattle.std.proofs.lemmas.List.{map-append}
use Rattle.port_formatter.specs.Names.{Tagged, Act, Offer, Drain, offers, Place, Turned, Turns}
use Rattle.trace_funnel.proofs.Acting.{acts_append}
use Rattle.trace_funnel.specs.declared.tagged.Tagged.{Tagged as Given}
use Rattle.port_formatter.specs.Passed.{to_funnel, from_funnel, bytes_acts, whole_acts, act_by, passed_from}
use Rattle.port_formatter.specs.Passed.{places_from}
use Rattle.port_formatter.specs.Segments.{Segments, with_bytes, after_flush}

offers_more : (a b : List Tagged) → bytes_acts (a ++ b) ≡ bytes_acts a ++ bytes_acts b
offers_more a b =
    ap offers (map-append (λ x. record { id = x.id; byte = x.byte }) a b)
    ∙ map-append Offer (to_funnel a) (to_funnel b)

pub from_more : (a b : List Given) → from_funnel (a ++ b) ≡ from_funnel a ++ from_funnel b
from_more a b = map-append (λ x. record { id = x.id; byte = x.byte }) a b

-- more is done after these
done_more : (t : Turns) (ps : List Place) (done more : List Act) →
    from_funnel (act_by t ps (done ++ more)).out
    ≡ from_funnel (act_by t ps done).out ++ from_funnel (act_by t (act_by t ps done).places more).out
done_more t ps done more =
    ap (λ (w : Turned). from_funnel w.out) (acts_append t.hold t.depth done more ps)
    ∙ from_more (act_by t ps done).out (act_by t (act_by t ps done).places more).out

done_places : (t : Turns) (ps : List Place) (done more : List Act) →
    (act_by t ps (done ++ more)).places ≡ (act_by t (act_by t ps done).places more).places
done_places t ps done more = ap (λ (w : Turned). w.places) (acts_append t.hold t.depth done more ps)

-- what a funnel passes on of bytes that are offered after these segments, and of a drain
abbrev pub more_passed : Turns → List Place → List (List Tagged) → List Tagged → List Act → List Tagged
more_passed t ps ended begun done = from_funnel (act_by t (places_from t ps ended begun) done).out

-- bytes go into the unfinished segment: what is passed on goes on there
pub passed_bytes : (t : Turns) (ps : List Place) (ended : List (List Tagged)) (begun bytes : List Tagged) →
    passed_from t ps ended (begun ++ bytes)
    ≡ with_bytes (passed_from t ps ended begun) (more_passed t ps ended begun (bytes_acts bytes))
passed_bytes t ps [] begun bytes =
    ap (λ (l : List Tagged). let s : Segments = record { ended = []; begun = l } in s)
    (ap (λ (l : List Act). from_funnel (act_by t ps l).out) (offers_more begun bytes)
    ∙ done_more t ps (bytes_acts begun) (bytes_acts bytes))
passed_bytes t ps (segment ∷ ended) begun bytes =
    let a = act_by t ps (whole_acts segment) in
    ap (λ (s : Segments). let r : Segments = record { ended = from_funnel a.out ∷ s.ended; begun = s.begun } in r)
    (passed_bytes t a.places ended begun bytes)

pub places_bytes : (t : Turns) (ps : List Place) (ended : List (List Tagged)) (begun bytes : List Tagged) →
    places_from t ps ended (begun ++ bytes) ≡ (act_by t (places_from t ps ended begun) (bytes_acts bytes)).places
places_bytes t ps [] begun bytes =
    ap (λ (l : List Act). (act_by t ps l).places) (offers_more begun bytes)
    ∙ done_places t ps (bytes_acts begun) (bytes_acts bytes)
places_bytes t ps (segment ∷ ended) begun bytes =
    places_bytes t (act_by t ps (whole_acts segment)).places ended begun bytes

-- and where it ends there is a drain
pub passed_ends : (t : Turns) (ps : List Place) (ended : List (List Tagged)) (begun : List Tagged) →
    passed_from t ps (ended ++ begun ∷ []) []
    ≡ after_flush (with_bytes (passed_from t ps ended begun) (more_passed t ps ended begun (Drain ∷ [])))
passed_ends t ps [] begun =
    ap (λ (l : List Tagged). let s : Segments = record { ended = l ∷ []; begun = [] } in s)
    (done_more t ps (bytes_acts begun) (Drain ∷ []))
passed_ends t ps (segment ∷ ended) begun =
    let a = act_by t ps (whole_acts segment) in
    ap (λ (s : Segments). let r : Segments = record { ended = from_funnel a.out ∷ s.ended; begun = s.begun } in r)
    (passed_ends t a.places ended begun)

pub places_ends : (t : Turns) (ps : List Place) (ended : List (List Tagged)) (begun : List Tagged) →
    places_from t ps (ended ++ begun ∷ []) [] ≡ (act_by t (places_from t ps ended begun) (Drain ∷ [])).places
places_ends t ps [] begun = done_places t ps (bytes_acts begun) (Drain ∷ [])
places_ends t ps (segment ∷ ended) begun = places_ends t (act_by t ps (whole_acts segment)).places ended begun

-- bytes, and then the end
pub passed_whole : (t : Turns) (ps : List Place) (ended : List (List Tagged)) (begun bytes : List Tagged) →
    (more : List Tagged) × (passed_from t ps (ended ++ (begun ++ bytes) ∷ []) []
    ≡ after_flush (with_bytes (passed_from t ps ended begun) more))
passed_whole t ps ended begun bytes =
    let p = passed_from t ps ended begun in
    let put = more_passed t ps ended begun (bytes_acts bytes) in
    let last = more_passed t ps ended (begun ++ bytes) (Drain ∷ []) in (
      put ++ last,
      passed_ends t ps ended (begun ++ bytes)
          ∙ ap (λ (s : Segments). after_flush (with_bytes s last)) (passed_bytes t ps ended begun bytes)
          ∙ ap (λ (l : List Tagged). after_flush (record { ended = p.ended; begun = l }))
          (append_assoc p.begun put last),
    )
