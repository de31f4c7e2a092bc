-- What the lines of a script give each source (this project's profile), and the bytes of their items.
use Rattle.std.specs.Prelude.{ℕ, List, [], ◌∷◌, map, flat_map, ◌==◌, if◌then◌else◌, filter}
use Rattle.std.specs.List.{list_any, range_with_len}
use Rattle.script_rebuild.specs.Names.{short, Hardware, packet, Order, StpItem, Put, unmarked, put_bytes, end_bytes}
use Rattle.script_rebuild.specs.Names.{Tagged, Item, Itm, Dwt, Stp, Raw, Line, Nothing, Of, Line2, One, Flush, Trigger}
use Rattle.itm_grammar.specs.declared.packet.Size.{Size}
use Rattle.itm_grammar.specs.declared.packet.ItmPacket.{ItmPacket}
use Rattle.stp_encoder.specs.Puts.{Flush as FlushPut}

-- == What lines give each source

-- what a line gives where this is what items give: a flush and a trigger give nothing of that
abbrev pub by_item : {A : Type 0} → (Line → List A) → Line2 → List A
by_item given (One line) = given line
by_item given Flush = []
by_item given (Trigger byte) = []

-- the hardware source packet of a discriminator, a size and a value
abbrev pub hardware : ℕ × Size × ℕ → ItmPacket
hardware p = Hardware p.0 p.1 p.2

-- the ITM packets that a line gives a source: its packet, or the hardware packet that its DWT item is the meaning of
abbrev pub packets_of : Item → List ItmPacket
packets_of (Itm p) = p ∷ []
packets_of (Dwt item) = hardware (packet item) ∷ []
packets_of (Stp item) = []
packets_of (Raw bytes) = []

abbrev pub packets_by : ℕ → Line → List ItmPacket
packets_by x Nothing = []
packets_by x (Of id item) = if id == x then packets_of item else []

abbrev pub given_packets : ℕ → List Line2 → List ItmPacket
given_packets x lines = flat_map (by_item (packets_by x)) lines

-- the STP items
abbrev pub items_of : Item → List StpItem
items_of (Itm p) = []
items_of (Dwt item) = []
items_of (Stp item) = item ∷ []
items_of (Raw bytes) = []

abbrev pub items_by : ℕ → Line → List StpItem
items_by x Nothing = []
items_by x (Of id item) = if id == x then items_of item else []

abbrev pub given_items : ℕ → List Line2 → List StpItem
given_items x lines = flat_map (by_item (items_by x)) lines

-- and as they are put, with a mark at each flush
abbrev pub puts_by : ℕ → Line2 → List Put
puts_by x (One line) = unmarked (items_by x line)
puts_by x Flush = FlushPut ∷ []
puts_by x (Trigger byte) = []

abbrev pub given_puts : ℕ → List Line2 → List Put
given_puts x lines = flat_map (puts_by x) lines

-- the bytes of a source that is not mapped: of source 125 those of its triggers
abbrev pub raw_of : Item → List ℕ
raw_of (Itm p) = []
raw_of (Dwt item) = []
raw_of (Stp item) = []
raw_of (Raw bytes) = bytes

abbrev pub raw_by : ℕ → Line → List ℕ
raw_by x Nothing = []
raw_by x (Of id item) = if id == x then raw_of item else []

abbrev pub bytes_by : ℕ → Line2 → List ℕ
bytes_by x (One line) = raw_by x line
bytes_by x Flush = []
bytes_by x (Trigger byte) = if 125 == x then byte ∷ [] else []

abbrev pub given_bytes : ℕ → List Line2 → List ℕ
given_bytes x lines = flat_map (bytes_by x) lines

-- == The bytes of their items

-- the bytes of an item of a source that was given this before: the shortest bytes of its packet, the bytes that the
-- encoder adds, or the bytes themselves
abbrev pub item_bytes : Order → List Put → Item → List ℕ
item_bytes order before (Itm p) = short p
item_bytes order before (Dwt item) = short (hardware (packet item))
item_bytes order before (Stp item) = put_bytes order before item
item_bytes order before (Raw bytes) = bytes

abbrev pub tagged : ℕ → List ℕ → List Tagged
tagged id bytes = map (λ byte. record { id = id; byte = byte }) bytes

-- what a line puts where each source was given this before
abbrev pub bytes_with : Order → (ℕ → List Put) → Line → List Tagged
bytes_with order given Nothing = []
bytes_with order given (Of id item) = tagged id (item_bytes order (given id) item)

-- of each of these STP sources the nibble that is kept then, with a NULL above it
abbrev pub ends_with : Order → (ℕ → List Put) → List ℕ → List Tagged
ends_with order given ids = flat_map (λ x. tagged x (end_bytes order (given x))) ids

-- IDs in increasing order
unfoldable pub in_order : List ℕ → List ℕ
in_order ids = filter (λ x. list_any (λ y. y == x) ids) (range_with_len 1 126)
