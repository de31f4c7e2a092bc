-- What a funnel keeps of the bytes of each source, and how long a place waits.
use Rattle.std.specs.Prelude.{◌≡◌, ℕ, ◌+◌, ◌*◌, ◌≤◌, List, [], ◌∷◌, length, false, ◌==◌, if◌then◌else◌}
use Rattle.trace_funnel.specs.declared.tagged.Tagged.{Tagged}
use Rattle.trace_funnel.specs.Turns.{Place, is_busy}

-- the bytes of an ID, in order
abbrev pub bytes_for : ℕ → List Tagged → List ℕ
bytes_for id [] = []
bytes_for id (x ∷ t) = if x.id == id then x.byte ∷ bytes_for id t else bytes_for id t

-- how many places have this ID
abbrev pub count : ℕ → List Place → ℕ
count id [] = 0
count id (p ∷ ps) = if p.id == id then count id ps + 1 else count id ps

-- no ID has two places
abbrev pub Apart : List Place → Type 0
Apart ps = (id : ℕ) → count id ps ≤ 1

-- A place waited while at most as many places as are behind it gave what may be held; one that has no bytes does not
-- wait.
abbrev pub AreBounded : ℕ → List Place → Type 0
AreBounded hold [] = Unit {0}
AreBounded hold (p ∷ ps) = (p.waited ≤ length ps * hold) × (is_busy p ≡ false → p.waited ≡ 0) × AreBounded hold ps
