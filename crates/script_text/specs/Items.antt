-- The items of words, by the table.
use Rattle.std.specs.Prelude.{ℕ, List, Option, option_map}
use Rattle.script_text.specs.Names.{ItmPacket, DwtItem, StpItem}
use Rattle.script_text.specs.declared.shapes.Shape.{Shape}
use Rattle.script_text.specs.declared.shapes.Shape.TheVariants.{Itm, Dwt, Stp, Raw}
use Rattle.script_text.specs.declared.itm_shapes.ItmShape.{ItmShape}
use Rattle.script_text.specs.declared.dwt_shapes.DwtShape.{DwtShape}
use Rattle.script_text.specs.declared.stp_shapes.StpShape.{StpShape}
use Rattle.script_text.specs.declared.items.Item.{Item}
use Rattle.script_text.specs.declared.items.Item.TheVariants as items
use Rattle.script_text.specs.Table.{said_in, itm_row, dwt_row, stp_row, raw_row}

unfoldable pub itm_of : ItmShape → List (List ℕ) → Option ItmPacket
itm_of shape words = said_in (itm_row shape) words

unfoldable pub dwt_of : DwtShape → List (List ℕ) → Option DwtItem
dwt_of shape words = said_in (dwt_row shape) words

unfoldable pub stp_of : StpShape → List (List ℕ) → Option StpItem
stp_of shape words = said_in (stp_row shape) words

abbrev pub raw_of : List (List ℕ) → Option (List ℕ)
raw_of words = said_in raw_row words

-- the item of a shape and of these words
abbrev pub item_of : Shape → List (List ℕ) → Option Item
item_of (Itm shape) words = option_map items.Itm (itm_of shape words)
item_of (Dwt shape) words = option_map items.Dwt (dwt_of shape words)
item_of (Stp shape) words = option_map items.Stp (stp_of shape words)
item_of Raw words = option_map items.Raw (raw_of words)
