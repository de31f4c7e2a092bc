-- The frame whose halfwords aren't all there yet.
use Rattle.std.specs.Prelude.{ℕ, List, [], ◌∷◌, take}
use Rattle.deformatter.specs.Names.{Placed, byte_at}
use Rattle.deformatter.specs.declared.unfinished.Unfinished.{Unfinished}

-- bytes with their offsets
abbrev pub zipped : List ℕ → List ℕ → List Placed
zipped [] bytes = []
zipped (a ∷ offsets) [] = []
zipped (a ∷ offsets) (b ∷ bytes) = byte_at a b ∷ zipped offsets bytes

-- its bytes so far
abbrev pub placed_of : Unfinished → List Placed
placed_of frame = zipped (take frame.len frame.offsets) (take frame.len frame.bytes)

-- how many bytes it has
abbrev pub len_of : Unfinished → ℕ
len_of frame = frame.len

-- how many half synchronisations are between its bytes
abbrev pub halves_of : Unfinished → ℕ
halves_of frame = frame.halves
