-- What is written, read again.
use Rattle.std.specs.Prelude.{◌≡◌, List, map, false, None}
use Rattle.stp_encoder.specs.Names.{Placed, Kept, Order, StpItem}
use Rattle.stp_codec.specs.Reading.{items_at}

-- These nibbles, read from the first on, are exactly the items, each with its place and its timestamp: there is no
-- fault, and no nibble of an unfinished packet is left.
pub record ReadsBack (order : Order) (items : List StpItem) (n : List Placed) : Type 0 where
  pub given : map (λ x. x.0) (items_at order false n).given ≡ map Kept items
  pub no_fault : (items_at order false n).fault ≡ None
  pub no_tail : (items_at order false n).held ≡ 0
