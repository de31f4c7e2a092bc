-- The signals of a value dump, and what the packets of an ITM source tell of them (ARMv7-M Architecture Reference
-- Manual, Arm DDI 0403E, appendix D4 'Debug ITM and DWT Packet Protocol').
use Rattle.std.specs.Prelude.{ℕ, ◌+◌, ◌%◌, List, [], ◌∷◌, ◌++◌, Option, None, Some, Bool, true, false, ◌==◌, ◌||◌}
use Rattle.std.specs.Prelude.{if◌then◌else◌, flat_map, map, codes, decimal, count_by}
use Rattle.std.specs.List.{list_any, range_with_len, slice_split}
use Rattle.value_dump.specs.Names.{ItmPacket, Software, Hardware, Overflow, Local, DwtItem, Exception, Sample, Asleep}
use Rattle.value_dump.specs.Names.{Read, Written, Enter, Exit, Return, name}

-- a signal, and how many bits it has
pub record Signal : Type 0 where
  pub name : List ℕ
  pub width : ℕ

abbrev pub signal : List ℕ → ℕ → Signal
signal name width = record { name = name; width = width }

-- signals of 32 bits with this name, and after it their number
abbrev pub numbered : List ℕ → ℕ → List Signal
numbered name count = map (λ n. signal (name ++ decimal n) 32) (range_with_len 0 count)

-- All signals: a signal's number is its place here, from 0 on. They are the exception that was entered or returned to,
-- the last sample of the program counter, whether the processor was asleep at the last one, what software wrote to
-- each stimulus port, the data value of each comparator, and one that changes at each local timestamp before which
-- packets were lost since the one before.
abbrev pub signals : List Signal
signals =
    signal (codes "exception") 9
    ∷ signal (codes "pc") 32
    ∷ signal (codes "asleep") 1
    ∷ (numbered (codes "port") 32 ++ (numbered (codes "cmp") 4 ++ signal (codes "lost") 1 ∷ []))

-- the numbers of signals by their names
abbrev pub exception : ℕ
exception = 0

abbrev pub pc : ℕ
pc = 1

abbrev pub asleep : ℕ
asleep = 2

abbrev pub port : ℕ → ℕ
port n = 3 + n

abbrev pub cmp : ℕ → ℕ
cmp n = 35 + n

abbrev pub lost : ℕ
lost = 39

-- those of one bit
abbrev pub is_bit : ℕ → Bool
is_bit number = number == asleep || number == lost

-- which signals a hardware packet tells by what it means, each with its value; that an exception is exited tells not
-- which one goes on
abbrev pub told_by_item : DwtItem → List (ℕ × ℕ)
told_by_item (Exception number Enter) = (exception, number) ∷ []
told_by_item (Exception number Exit) = []
told_by_item (Exception number Return) = (exception, number) ∷ []
told_by_item (Sample counter) = (pc, counter) ∷ (asleep, 0) ∷ []
told_by_item Asleep = (asleep, 1) ∷ []
told_by_item (Read comparator size value) = (cmp comparator, value) ∷ []
told_by_item (Written comparator size value) = (cmp comparator, value) ∷ []
told_by_item item = []

-- and which a packet tells
abbrev pub told_by : ItmPacket → List (ℕ × ℕ)
told_by (Software number size value) = (port number, value) ∷ []
told_by (Hardware disc size value) = told_by_item (name disc size value)
told_by packet = []

-- the last value that is told of a signal, or what was known before, if none is
abbrev pub last_told : ℕ → Option ℕ → List (ℕ × ℕ) → Option ℕ
last_told number known [] = known
last_told number known (told ∷ more) = last_told number (if told.0 == number then Some told.1 else known) more

-- it says that packets were lost
abbrev pub is_overflow : ItmPacket → Bool
is_overflow Overflow = true
is_overflow packet = false

-- it is a local timestamp
abbrev pub is_local : ItmPacket → Bool
is_local (Local lateness delta) = true
is_local packet = false

-- how many of the stretches between local timestamps have a loss: the first is that before the first timestamp, and the
-- last that after the last
abbrev pub losses : List ItmPacket → ℕ
losses packets = count_by (list_any is_overflow) (slice_split is_local packets)

-- The value of a signal after these packets, if it is known. That of losses is 0 at first, and each stretch that has a
-- loss changes it, however many it has.
abbrev pub value_after : List ItmPacket → ℕ → Option ℕ
value_after packets number =
    if number == lost then Some (losses packets % 2) else last_told number None (flat_map told_by packets)
