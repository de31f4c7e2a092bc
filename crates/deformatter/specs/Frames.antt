-- A frame that is taken at once.
use Rattle.std.specs.Prelude.{◌≡◌, ℕ, ◌+◌, List, [], ◌∷◌, ◌++◌, true, Option, None}
use Rattle.deformatter.specs.Names.{Place, Placed, units_of, cells, Frame, start, offsets_of}
use Rattle.deformatter.specs.Reading.{PortStream, cells_in, fulls_of, frames_of}
use Rattle.deformatter.specs.Growth.{Reads, hunting}
use Rattle.deformatter.specs.Deformatter.{has_locked, state_of}
use Rattle.deformatter.specs.declared.deformatter.Deformatter.{Deformatter}

-- it reads, and nothing of a frame or a synchronisation is there
abbrev pub IsBetween : Deformatter → Type 0
IsBetween d = (has_locked d ≡ true) × (state_of d ≡ start)

-- the place of the last of these bytes
abbrev pub last_place : List Placed → Place
last_place [] = record { at = 0; half = 0 }
last_place (x ∷ []) = x.place
last_place (x ∷ (y ∷ w)) = last_place (y ∷ w)

-- With the bytes w of a frame, its own 16 (f) and those of `inner` half synchronisations between them, the reading grew
-- by that frame. Its cells follow this ID.
pub record GrowsByFrame (old new : PortStream) (w f : List Placed) (inner : ℕ) (id : Option ℕ) : Type 0 where
  pub items : new.items ≡ old.items ++ (Frame f inner, last_place w) ∷ []
  pub cells : cells_in new ≡ cells_in old ++ cells (units_of f) (offsets_of f) id
  pub halves : new.halves ≡ old.halves + inner
  pub fulls : fulls_of new ≡ fulls_of old
  pub frames : frames_of new ≡ frames_of old + 1
  pub fault : new.fault ≡ None
  pub hunt : Reads (hunting old) (hunting new)
