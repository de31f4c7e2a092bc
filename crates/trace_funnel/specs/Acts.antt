-- What a funnel is asked to do, from its beginning on.
use Rattle.std.specs.Prelude.{ℕ, List, [], ◌∷◌, ◌++◌, map, ◌==◌, Bool, true, ◌&&◌}
use Rattle.std.specs.List.{list_any}
use Rattle.trace_funnel.specs.declared.tagged.Tagged.{Tagged}
use Rattle.trace_funnel.specs.Turns.{Place, Turned, turn, offer, drain}

-- an offer of this byte to the place of its source, a turn, or a drain
pub data Act : Type 0 where
  Offer : Tagged → Act
  Turn : Act
  Drain : Act

-- one of these, by a funnel that holds and queues so many bytes
abbrev pub act : ℕ → ℕ → List Place → Act → Turned
act hold depth ps (Offer x) = offer hold depth ps x.id x.byte
act hold depth ps Turn = turn hold ps
act hold depth ps Drain = drain hold ps

-- and one after the other
abbrev pub acts : ℕ → ℕ → List Place → List Act → Turned
acts hold depth ps [] = record { out = []; places = ps }
acts hold depth ps (a ∷ rest) =
    let t = act hold depth ps a in let more = acts hold depth t.places rest in
    record { out = t.out ++ more.out; places = more.places }

-- the bytes that are offered
abbrev pub offered : List Act → List Tagged
offered [] = []
offered (Offer x ∷ rest) = x ∷ offered rest
offered (Turn ∷ rest) = offered rest
offered (Drain ∷ rest) = offered rest

-- each is of a source of the order
abbrev pub are_of : List ℕ → List Tagged → Bool
are_of ids [] = true
are_of ids (x ∷ t) = list_any (λ id. id == x.id) ids && are_of ids t

-- offers of these bytes
abbrev pub offers : List Tagged → List Act
offers t = map Offer t
