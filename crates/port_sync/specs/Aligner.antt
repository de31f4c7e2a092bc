-- What an aligner keeps.
use Rattle.std.specs.Prelude.{ℕ, Bool}
use Rattle.port_sync.specs.declared.aligner.Aligner.{Aligner}
use Rattle.port_sync.specs.declared.aligner.Part.{Part}

-- how many halfwords of the frame follow the next one; 7 between frames
abbrev pub left_of : Aligner → ℕ
left_of aligner = aligner.left

-- what of a halfword or a synchronisation is there
abbrev pub part_of : Aligner → Part
part_of aligner = aligner.part

-- no byte was bad
abbrev pub is_live : Aligner → Bool
is_live aligner = aligner.live
