-- Items as they are put, with marks where the bytes are flushed.
use Rattle.std.specs.Prelude.{List, [], ◌∷◌}
use Rattle.stp_encoder.specs.Names.{StpItem}

-- an item, or a flush
pub data Put : Type 0 where
  Of : StpItem → Put
  Flush : Put

-- the items that are put
abbrev pub items_in : List Put → List StpItem
items_in [] = []
items_in (Of item ∷ puts) = item ∷ items_in puts
items_in (Flush ∷ puts) = items_in puts

-- items without a flush
abbrev pub unmarked : List StpItem → List Put
unmarked [] = []
unmarked (item ∷ items) = Of item ∷ unmarked items
