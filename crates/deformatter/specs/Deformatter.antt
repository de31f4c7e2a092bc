-- What a deformatter stands for, and what it shows.
use Rattle.std.specs.Prelude.{◌≡◌, ℕ, List, Bool, true, Option}
use Rattle.deformatter.specs.Names.{Mode, Placed, StandsIn, hunts, is_locked, skipped_of, Full, State, start, rule}
use Rattle.deformatter.specs.Names.{state, pattern}
use Rattle.port_sync.specs.Aligner as aligner
use Rattle.deformatter.specs.Phase.{mode_in}
use Rattle.deformatter.specs.Reading.{port_stream, id_in}
use Rattle.deformatter.specs.Rule.{count_of}
use Rattle.deformatter.specs.Unfinished.{placed_of, halves_of}
use Rattle.deformatter.specs.declared.deformatter.Deformatter.{Deformatter}

-- where it is in its hunt
abbrev pub mode_of : Deformatter → Mode
mode_of d = mode_in d.phase d.hunter d.skipped

-- the state of the unfinished item
abbrev pub state_of : Deformatter → State
state_of d = state (aligner.left_of d.aligner) (placed_of d.frame) (halves_of d.frame) (aligner.part_of d.aligner)
    d.first_at

-- the ID in force
abbrev pub id_of : Deformatter → Option ℕ
id_of d = d.id

-- it was made to hunt
abbrev pub is_hunter : Deformatter → Bool
is_hunter d = hunts (mode_of d)

-- it has met no fault
abbrev pub is_live : Deformatter → Bool
is_live d = aligner.is_live d.aligner

-- its reading has begun
abbrev pub has_locked : Deformatter → Bool
has_locked d = is_locked (mode_of d)

-- how many bytes are after the last whole item
abbrev pub tail_of : Deformatter → ℕ
tail_of d = count_of (state_of d)

-- how many bytes are before its reading
abbrev pub skipped_by : Deformatter → ℕ
skipped_by d = skipped_of (mode_of d)

-- Before its lock it keeps how far the hunt has come; else it is live exactly where the reading of the list has no
-- fault, and keeps the unfinished item of that reading, and the ID in force.
pub record Stands (d : Deformatter) (u : List Placed) : Type 0 where
  pub reads : StandsIn pattern Full rule start (mode_of d) (is_live d) (state_of d) u
  pub id : is_live d ≡ true → id_of d ≡ id_in (port_stream (is_hunter d) u)
