-- The port grammar (CoreSight Architecture Specification, Arm IHI 0029E (version 3.0), chapter 'Trace Formatter', its
-- section on frames): full synchronisations ('frame synchronization packet', FF FF FF 7F), half ones ('halfword
-- synchronization packet', FF 7F), and frames of eight halfwords.
use Rattle.std.specs.Prelude.{◌≡◌, ◌≢◌, ℕ, zero, suc, ◌+◌, List, [], ◌∷◌, ◌++◌, ◌==◌, ◌&&◌, if◌then◌else◌}
use Rattle.frame_grammar.specs.Names.{Reason, BadSync, SyncInFrame, Next, Go, End, Fail, Placed, units_of}

-- a full synchronisation, a half one between frames, or a frame: its 16 bytes, and how many half synchronisations are
-- between them
pub data PortItem : Type 0 where
  Full : PortItem
  Half : PortItem
  Frame : List Placed → ℕ → PortItem

-- FF 7F, this many times
abbrev pub half_spelling : ℕ → List ℕ
half_spelling zero = []
half_spelling (suc n) = 0xFF ∷ (0x7F ∷ half_spelling n)

-- r is this many half synchronisations, then the halfword a b, whose first byte is not FF, and then w
pub record IsWord (halves : ℕ) (a b : Placed) (r w : List Placed) : Type 0 where
  pub before : List Placed
  pub halves_are : units_of before ≡ half_spelling halves
  pub proper : a.unit ≢ 0xFF
  pub parts : r ≡ before ++ (a ∷ (b ∷ w))

-- r is n halfwords with the bytes f, and before each any number of half synchronisations, this many in all
abbrev pub IsWords : ℕ → ℕ → List Placed → List Placed → Type 0
IsWords zero halves f r = (halves ≡ 0) × (f ≡ []) × (r ≡ [])
IsWords (suc n) halves f r =
    (here : ℕ) × (later : ℕ) × (a : Placed) × (b : Placed) × (g : List Placed) × (w : List Placed) ×
    IsWord here a b r w × (halves ≡ here + later) × (f ≡ a ∷ (b ∷ g)) × IsWords n later g w

-- a frame is a halfword and seven more, with half synchronisations between them only
abbrev pub IsFrame : ℕ → List Placed → List Placed → Type 0
IsFrame halves f r =
    (a : Placed) × (b : Placed) × (g : List Placed) × (w : List Placed) × IsWord 0 a b r w × (f ≡ a ∷ (b ∷ g))
    × IsWords 7 halves g w

-- which bytes spell an item
abbrev pub Spells : PortItem → List Placed → Type 0
Spells Full r = units_of r ≡ 0xFF ∷ (0xFF ∷ (0xFF ∷ (0x7F ∷ [])))
Spells Half r = units_of r ≡ 0xFF ∷ (0x7F ∷ [])
Spells (Frame f halves) r = IsFrame halves f r

-- how many of the halfwords, from the first byte on, are FF 7F
abbrev pub half_words : List Placed → ℕ
half_words [] = 0
half_words (x ∷ []) = 0
half_words (x ∷ (y ∷ r)) = if x.unit == 0xFF && y.unit == 0x7F then half_words r + 1 else half_words r

-- the last unit; of none, 0
abbrev pub last_unit : List Placed → ℕ
last_unit [] = 0
last_unit (x ∷ []) = x.unit
last_unit (x ∷ (y ∷ r)) = last_unit (y ∷ r)

-- Why no item goes on so, where these are the bytes up to the one that breaks it: a frame, which FF does
-- not begin, is broken by the second FF of a full synchronisation, and else a synchronisation is broken. What faults
-- there are is this project's profile.
abbrev pub why : List Placed → Reason
why [] = BadSync
why (x ∷ r) = if x.unit == 0xFF then BadSync else (if last_unit r == 0xFF then SyncInFrame else BadSync)

-- what of a halfword or a synchronisation is there: nothing, a halfword's first byte, or this many FF
pub data Part : Type 0 where
  Between : Part
  First : Placed → Part
  One : Part
  Two : Part
  Three : Part

-- What is kept of an unfinished item: how many halfwords of its frame follow the next one (7 between
-- frames), the frame's bytes so far and the half synchronisations between them, and the unfinished part.
pub record State : Type 0 where
  pub left : ℕ
  pub bytes : List Placed
  pub halves : ℕ
  pub part : Part

-- nothing is there
abbrev pub start : State
start = record { left = 7; bytes = []; halves = 0; part = Between }

abbrev pub with_part : State → Part → State
with_part s part = record { left = s.left; bytes = s.bytes; halves = s.halves; part = part }

-- after a whole halfword
abbrev pub word_ended : ℕ → List Placed → ℕ → Next State PortItem
word_ended zero f halves = End (Frame f halves)
word_ended (suc left) f halves = Go (record { left = left; bytes = f; halves = halves; part = Between })

-- after FF 7F
abbrev pub half_ended : State → Next State PortItem
half_ended s =
    if s.left == 7 then End Half
    else Go (record { left = s.left; bytes = s.bytes; halves = s.halves + 1; part = Between })

-- one more byte after this part
abbrev pub part_rule : Part → State → Placed → Next State PortItem
part_rule Between s x = if x.unit == 0xFF then Go (with_part s One) else Go (with_part s (First x))
part_rule (First a) s x = word_ended s.left (s.bytes ++ (a ∷ (x ∷ []))) s.halves
part_rule One s x =
    if x.unit == 0x7F then half_ended s
    else (if x.unit == 0xFF then (if s.left == 7 then Go (with_part s Two) else Fail SyncInFrame) else Fail BadSync)
part_rule Two s x = if x.unit == 0xFF then Go (with_part s Three) else Fail BadSync
part_rule Three s x = if x.unit == 0x7F then End Full else Fail BadSync

-- the grammar's rule
abbrev pub rule : State → Placed → Next State PortItem
rule s x = part_rule s.part s x
