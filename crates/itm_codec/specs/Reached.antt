-- The unfinished packet that bytes leave.
use Rattle.std.specs.Prelude.{ℕ, List}
use Rattle.itm_codec.specs.Names.{Walked, Within, walk, ItmPacket, Partial, rule}

-- what a walk leaves unfinished; where it leaves nothing, this
abbrev pub left_by : Partial → Walked Partial ItmPacket → Partial
left_by s (Within t) = t
left_by s walked = s

-- what is unfinished after these bytes
abbrev pub reached : Partial → List ℕ → Partial
reached s r = left_by s (walk rule s r)
