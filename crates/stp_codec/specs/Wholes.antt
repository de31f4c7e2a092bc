-- Nibbles of a piece that end a packet.
use Rattle.std.specs.Prelude.{◌≡◌, ℕ, nat_lt, ◌-◌, ◌/◌, ◌%◌, ◌+◌, List, [], ◌∷◌, take, drop, flat_map, ◌==◌}
use Rattle.std.specs.Prelude.{if◌then◌else◌}
use Rattle.std.specs.Prelude.{None}
use Rattle.stp_codec.specs.Names.{Next, Go, End, Fail, Placed, Stream, high_of, Walked, Within, Whole}
use Rattle.stp_codec.specs.Names.{Beyond, Broken, after, walk, Order, StpPacket, StpItem, Partial, Start, rule}
use Rattle.stp_codec.specs.Names.{number_with}

-- the nibbles of bytes, the low one of each first
abbrev pub nibbles_in : List ℕ → List ℕ
nibbles_in bytes = flat_map (λ b. b % 16 ∷ (b / 16 % 16 ∷ [])) bytes

-- those from this one on, up to that one
abbrev pub between : List ℕ → ℕ → ℕ → List ℕ
between nibbles start end = take (end - start) (drop start nibbles)

-- the number that this many nibbles make with more of them, where they made `value` without
abbrev pub number_from : Order → ℕ → ℕ → List ℕ → ℕ
number_from order count value [] = value
number_from order count value (b ∷ r) = number_from order (count + 1) (number_with order count value b) r

-- after what the rule says, these nibbles end this packet
abbrev pub Ends : Order → Next Partial StpPacket → List ℕ → StpPacket → Type 0
Ends order next r packet = after next (λ t. walk (rule order) t r) r ≡ Whole packet

-- the state to which a walk leads, where it leads to one
abbrev pub state_of : Walked Partial StpPacket → Partial
state_of (Within t) = t
state_of (Whole packet) = Start
state_of Beyond = Start
state_of (Broken reason) = Start

-- what is unfinished after these nibbles
abbrev pub reached : Order → Partial → List ℕ → Partial
reached order s r = state_of (walk (rule order) s r)

-- none of these nibbles ends it, and none is a fault
abbrev pub Fronts : Order → Partial → List ℕ → Type 0
Fronts order s r = walk (rule order) s r ≡ Within (reached order s r)

-- the rule says that this is unfinished
abbrev pub GoesOn : Next Partial StpPacket → Type 0
GoesOn next = (t : Partial) × (next ≡ Go t)

-- what is left of a byte after this half of it: its high nibble after the low one, and else nothing
abbrev pub left_of : ℕ → ℕ → ℕ → List Placed
left_of half at byte = if half == 0 then high_of at byte ∷ [] else []

-- nothing is given, and there is no fault
abbrev pub IsQuiet : Stream StpItem → Stream StpItem → Type 0
IsQuiet old new = (new.given ≡ old.given) × (new.fault ≡ None)

-- a nibble of which the rule says this leaves this unfinished: where it ends a packet, nothing
abbrev pub Leaves : Next Partial StpPacket → Partial → Type 0
Leaves (Go t) partial = t ≡ partial
Leaves (End packet) partial = partial ≡ Start
Leaves (Fail reason) partial = ⊥

-- what such a nibble leaves of a packet that it begins, and what stands where none came: nothing
abbrev pub left_after : Next Partial StpPacket → Partial
left_after (Go t) = t
left_after (End packet) = Start
left_after (Fail reason) = Start

abbrev pub left_by : Order → ℕ → Partial
left_by order first = left_after (rule order Start first)

-- The unfinished packet without the bytes that wait, of which this is the first nibble where it has no more (0 where it
-- has none), and this the state where it has.
abbrev pub begun : Order → ℕ → Partial → Partial
begun order first partial = if nat_lt first 16 then left_by order first else partial
