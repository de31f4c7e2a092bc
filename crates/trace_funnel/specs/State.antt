-- What a funnel stands for.
use Rattle.std.specs.Prelude.{◌≡◌, ◌≤◌, ℕ, List, length, slice_index}
use Rattle.trace_funnel.specs.Turns.{Place, Turned, turn, offer, queue_of, waited_of, empty}
use Rattle.trace_funnel.specs.Kept.{count}

-- the IDs of its places in their order, how many bytes a turn gives at most, how many a queue has at most, and its
-- places from the next one on, going round
pub record State : Type 0 where
  pub order : List ℕ
  pub hold : ℕ
  pub depth : ℕ
  pub places : List Place

-- one of this order, in which nothing is
abbrev pub fresh : List ℕ → ℕ → ℕ → State
fresh ids hold depth = record { order = ids; hold = hold; depth = depth; places = empty ids }

-- the same with these places
abbrev pub with_places : State → List Place → State
with_places f ps = record { order = f.order; hold = f.hold; depth = f.depth; places = ps }

-- the ID of the place of this number
abbrev pub id_at : State → ℕ → ℕ
id_at f place = slice_index f.order place

-- its queue, and its waited number
abbrev pub queue_at : State → ℕ → List ℕ
queue_at f place = queue_of (id_at f place) f.places

abbrev pub waited_at : State → ℕ → ℕ
waited_at f place = waited_of (id_at f place) f.places

-- a turn, and an offer of a byte to this place
abbrev pub turn_by : State → Turned
turn_by f = turn f.hold f.places

abbrev pub offer_by : State → ℕ → ℕ → Turned
offer_by f place byte = offer f.hold f.depth f.places (id_at f place) byte

-- one of at most sixteen places has this number, and its queue is within the depth
pub record HasPlace (f : State) (place : ℕ) : Type 0 where
  pub one : count (id_at f place) f.places ≡ 1
  pub few : length f.places ≤ 16
  pub short : length (queue_at f place) ≤ f.depth
  pub some : 1 ≤ f.hold
  pub deep : 1 ≤ f.depth
