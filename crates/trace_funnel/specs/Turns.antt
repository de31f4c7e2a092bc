-- A funnel passes the bytes of several sources on in turns (this project's profile). Each place of its order has a
-- queue of bytes, and the number of bytes that other places gave while it waited.
use Rattle.std.specs.Prelude.{ℕ, zero, suc, ◌+◌, List, [], ◌∷◌, ◌++◌, length, map, take, drop, Bool, true, false, not}
use Rattle.std.specs.Prelude.{nat_lt, ◌==◌, if◌then◌else◌, Option, None, Some}
use Rattle.trace_funnel.specs.declared.tagged.Tagged.{Tagged}

-- a place: its source's ID, its queue, and its waited number
pub record Place : Type 0 where
  pub id : ℕ
  pub queue : List ℕ
  pub waited : ℕ

-- The places of a funnel stand in a list from the next one on, going round: so the next is always the first.

abbrev pub is_busy : Place → Bool
is_busy p = nat_lt 0 (length p.queue)

-- the places before the first busy one, that one, and those behind it
pub record Found : Type 0 where
  pub before : List Place
  pub place : Place
  pub behind : List Place

abbrev pub found_on : Bool → Place → List Place → Option Found → Option Found
found_on true p ps o = Some (record { before = []; place = p; behind = ps })
found_on false p ps None = None
found_on false p ps (Some f) = Some (record { before = p ∷ f.before; place = f.place; behind = f.behind })

abbrev pub first_busy : List Place → Option Found
first_busy [] = None
first_busy (p ∷ ps) = found_on (is_busy p) p ps (first_busy ps)

-- a place while another gives this many bytes: it waits if it is busy
abbrev pub waits : ℕ → Place → Place
waits n p = if is_busy p then record { id = p.id; queue = p.queue; waited = p.waited + n } else p

-- a place after its turn
abbrev pub served : ℕ → Place → Place
served hold p = record { id = p.id; queue = drop hold p.queue; waited = 0 }

-- these bytes, tagged with an ID
abbrev pub tagged : ℕ → List ℕ → List Tagged
tagged id bytes = map (λ byte. record { id = id; byte = byte }) bytes

-- what a place gives in its turn
abbrev pub given : ℕ → Place → List Tagged
given hold p = tagged p.id (take hold p.queue)

-- what was given, and the places after that
pub record Turned : Type 0 where
  pub out : List Tagged
  pub places : List Place

-- a turn: the first busy place, going round, gives its first bytes, as many as are held at most, and the next place is
-- the one behind it
abbrev pub turn_of : ℕ → List Place → Option Found → Turned
turn_of hold ps None = record { out = []; places = ps }
turn_of hold ps (Some f) = let n = length (take hold f.place.queue) in record {
  out = given hold f.place;
  places = map (waits n) f.behind ++ (map (waits n) f.before ++ served hold f.place ∷ []);
}

abbrev pub turn : ℕ → List Place → Turned
turn hold ps = turn_of hold ps (first_busy ps)

-- the queue of an ID, and its waited number
abbrev pub queue_of : ℕ → List Place → List ℕ
queue_of id [] = []
queue_of id (p ∷ ps) = if p.id == id then p.queue else queue_of id ps

abbrev pub waited_of : ℕ → List Place → ℕ
waited_of id [] = 0
waited_of id (p ∷ ps) = if p.id == id then p.waited else waited_of id ps

-- a byte more at the end of a queue
abbrev pub longer : ℕ → Place → Place
longer byte p = record { id = p.id; queue = p.queue ++ byte ∷ []; waited = p.waited }

-- the places with a byte more in the queue of an ID
abbrev pub put : ℕ → ℕ → List Place → List Place
put id byte ps = map (λ p. if p.id == id then longer byte p else p) ps

-- turns while a test holds, at most this many
abbrev pub turns_while : (List Place → Bool) → ℕ → ℕ → List Place → Turned
turns_while test hold zero ps = record { out = []; places = ps }
turns_while test hold (suc most) ps =
    if test ps then (let t = turn hold ps in let more = turns_while test hold most t.places in
    record { out = t.out ++ more.out; places = more.places }) else record { out = []; places = ps }

-- the queue of an ID has as many bytes as it may have
abbrev pub is_full : ℕ → ℕ → List Place → Bool
is_full depth id ps = not (nat_lt (length (queue_of id ps)) depth)

-- an offer of a byte: turns until the ID's queue has room, and then the byte at its end. As many turns as there are
-- places are enough: the law of funnels says so.
abbrev pub offer : ℕ → ℕ → List Place → ℕ → ℕ → Turned
offer hold depth ps id byte =
    let t = turns_while (is_full depth id) hold (length ps) ps in
    record { out = t.out; places = put id byte t.places }

-- how many bytes are in all queues
abbrev pub load : List Place → ℕ
load [] = 0
load (p ∷ ps) = length p.queue + load ps

-- a drain: turns until all queues are empty. As many turns as there are bytes are enough.
abbrev pub drain : ℕ → List Place → Turned
drain hold ps = turns_while (λ qs. nat_lt 0 (load qs)) hold (load ps) ps

-- the places of an order, with nothing in them
abbrev pub empty : List ℕ → List Place
empty ids = map (λ id. record { id = id; queue = []; waited = 0 }) ids
