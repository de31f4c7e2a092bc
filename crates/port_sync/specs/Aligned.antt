-- The table of halfwords and synchronisations (CoreSight Architecture Specification, Arm IHI 0029E (version 3.0),
-- chapter 'Trace Formatter', its section on frames), and what the port's grammar says by it. Which bytes are faults is
-- this project's profile.
use Rattle.std.specs.Prelude.{◌≡◌, ◌≢◌, ℕ, ◌+◌, ◌-◌, List, [], ◌∷◌, ◌++◌, Bool, true, false, not, ◌==◌, if◌then◌else◌}
use Rattle.trace_values.specs.declared.fault.Reason.TheVariants.{BadSync, SyncInFrame}
use Rattle.trace_values.specs.declared.next.Next.{Next}
use Rattle.trace_values.specs.declared.next.Next.TheVariants.{Go, End, Fail}
use Rattle.trace_values.specs.Placed.{Placed, byte_at}
use Rattle.frame_grammar.specs.Port as port
use Rattle.frame_grammar.specs.Port.{PortItem, State, word_ended}
use Rattle.port_sync.specs.declared.aligner.Half.{Half}
use Rattle.port_sync.specs.declared.aligner.Half.TheVariants.{Pair, HalfSync, FullSync, Waiting, Bad}
use Rattle.port_sync.specs.declared.aligner.Part.{Part}
use Rattle.port_sync.specs.declared.aligner.Part.TheVariants.{Between, First, One, Two, Three}

-- what a byte ends after this part, where this many halfwords of the frame follow the next one (7 between frames)
abbrev pub said : ℕ → Part → ℕ → Half
said left Between b = Waiting
said left (First a) b = Pair a b
said left One b =
    if b == 0x7F then HalfSync
    else (if b == 0xFF then (if left == 7 then Waiting else Bad SyncInFrame) else Bad BadSync)
said left Two b = if b == 0xFF then Waiting else Bad BadSync
said left Three b = if b == 0x7F then FullSync else Bad BadSync

-- the part that a byte begins or lengthens
abbrev pub longer : Part → ℕ → Part
longer Between b = if b == 0xFF then One else First b
longer (First a) b = First a
longer One b = Two
longer Two b = Three
longer Three b = Three

-- the part and the halfwords left, after this answer
abbrev pub part_after : Half → Part → ℕ → Part
part_after (Pair a b) part byte = Between
part_after HalfSync part byte = Between
part_after FullSync part byte = Between
part_after Waiting part byte = longer part byte
part_after (Bad e) part byte = part

abbrev pub left_after : Half → ℕ → ℕ
left_after (Pair a b) left = if left == 0 then 7 else left - 1
left_after HalfSync left = left
left_after FullSync left = left
left_after Waiting left = left
left_after (Bad e) left = left

abbrev pub is_bad : Half → Bool
is_bad (Bad e) = true
is_bad x = false

-- a halfword does not begin with FF, and two or three FF are between frames
abbrev pub is_fit : ℕ → Part → Bool
is_fit left Between = true
is_fit left (First a) = not (a == 0xFF)
is_fit left One = true
is_fit left Two = left == 7
is_fit left Three = left == 7

-- no halfword begins with FF, and full synchronisations are between frames
abbrev pub IsSoundAnswer : ℕ → Half → Type 0
IsSoundAnswer left (Pair a b) = a ≢ 0xFF
IsSoundAnswer left FullSync = left ≡ 7
IsSoundAnswer left half = Unit {0}

-- how many bytes of a part are there
abbrev pub size_of : Part → ℕ
size_of Between = 0
size_of (First a) = 1
size_of One = 1
size_of Two = 2
size_of Three = 3

-- the part in the port's grammar, where its first byte is at this offset
abbrev pub placed_part : Part → ℕ → port.Part
placed_part Between at = port.Between
placed_part (First a) at = port.First (byte_at at a)
placed_part One at = port.One
placed_part Two at = port.Two
placed_part Three at = port.Three

-- the grammar's state: the halfwords left, the frame's bytes, the half synchronisations between them, and the part
abbrev pub state : ℕ → List Placed → ℕ → Part → ℕ → State
state left bytes halves part at = record { left = left; bytes = bytes; halves = halves; part = placed_part part at }

-- what is there of an item: the halfwords left, the frame's bytes, the half synchronisations between them, the part,
-- and the offset of its first byte
pub record Begun : Type 0 where
  pub left : ℕ
  pub bytes : List Placed
  pub halves : ℕ
  pub part : Part
  pub at : ℕ

abbrev pub state_in : Begun → State
state_in b = state b.left b.bytes b.halves b.part b.at

-- what the grammar's rule says of a byte at the offset here, by what the byte ends
abbrev pub outcome : Begun → ℕ → ℕ → Half → Next State PortItem
outcome b here byte (Pair first second) =
    word_ended b.left (b.bytes ++ (byte_at b.at first ∷ (byte_at here second ∷ []))) b.halves
outcome b here byte HalfSync =
    if b.left == 7 then End port.Half
    else Go (record { left = b.left; bytes = b.bytes; halves = b.halves + 1; part = port.Between })
outcome b here byte FullSync = End port.Full
outcome b here byte Waiting = Go (state b.left b.bytes b.halves (longer b.part byte) here)
outcome b here byte (Bad e) = Fail e
