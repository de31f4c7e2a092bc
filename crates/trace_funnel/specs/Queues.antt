-- What the queues of a funnel stand for.
use Rattle.std.specs.Prelude.{◌≡◌, ℕ, List, ◌∷◌, ◌++◌, length, map, take}
use Rattle.std.specs.List.{AllByRecursion}
use Rattle.trace_funnel.specs.declared.queue.Queue.{Queue}
use Rattle.trace_funnel.specs.Turns.{Place, waits, served}

-- the place of a queue
abbrev pub place_of : Queue → Place
place_of q = record { id = q.id; queue = q.bytes.items; waited = q.waited }

abbrev pub places_of : List Queue → List Place
places_of qs = map place_of qs

-- how many bytes a queue may have
abbrev pub room_of : Queue → ℕ
room_of q = q.bytes.capacity

abbrev pub rooms_of : List Queue → List ℕ
rooms_of qs = map room_of qs

-- each may have so many
abbrev pub HaveRoom : ℕ → List Queue → Type 0
HaveRoom depth qs = AllByRecursion (λ room. room ≡ depth) (rooms_of qs)

-- the places in their order after a turn of p, which stands between these
abbrev pub after_turn : ℕ → List Place → Place → List Place → List Place
after_turn hold front p back =
    let n = length (take hold p.queue) in map (waits n) front ++ (served hold p ∷ map (waits n) back)
