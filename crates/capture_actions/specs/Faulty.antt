-- Faults of the report of a capture, and the line that stands for one.
use Rattle.std.specs.Prelude.{◌≡◌, ℕ, ◌<◌, List, [], ◌∷◌, ◌++◌, ◌==◌, Option, Some, None, is_none, get_or, Bool, false}
use Rattle.std.specs.Prelude.{if◌then◌else◌}
use Rattle.std.specs.List.{list_any}
use Rattle.capture_actions.specs.Names.{placed, ID_COUNT, Plan, fault_of}

-- the source sends STP packets
abbrev pub is_stp : Plan → Option ℕ → Bool
is_stp plan None = false
is_stp plan (Some x) = list_any (λ y. y == x) plan.stp

-- these are for each ID whether its source does
abbrev pub IsTable : Plan → List Bool → Type 0
IsTable plan table = (x : ℕ) (d : Bool) → x < ID_COUNT → get_or table x d ≡ is_stp plan (Some x)

-- the report of these bytes has a fault
abbrev pub IsFaulty : Plan → List ℕ → Type 0
IsFaulty plan bytes = is_none (fault_of plan (placed bytes)) ≡ false

-- the shortest front that is not sound, from this one on: all, where each is
abbrev pub front_from : (List ℕ → Bool) → List ℕ → List ℕ → List ℕ
front_from is_sound front [] = front
front_from is_sound front (byte ∷ rest) =
    if is_sound front then front_from is_sound (front ++ byte ∷ []) rest else front

-- the bytes of a capture that are read: those up to the one with which the fault of its report is certain, or all
abbrev pub read_of : Plan → List ℕ → List ℕ
read_of plan bytes = front_from (λ front. is_none (fault_of plan (placed front))) [] bytes
