-- The lines of a value dump (IEEE 1364-2005, clause 18 'Value change dump (VCD) files', section 18.2 'Format of the
-- four-state VCD file').
use Rattle.std.specs.Prelude.{ℕ, ◌+◌, ◌*◌, ◌/◌, ◌^◌, List, [], ◌∷◌, ◌++◌, Option, None, Some, if◌then◌else◌, codes}
use Rattle.std.specs.Prelude.{decimal, Bool, true, false}
use Rattle.std.specs.Fmt.{digits_onto}
use Rattle.value_dump.specs.Signals.{is_bit}

-- the identifier code of a signal: one printable character, from `!` on
abbrev pub code_of : ℕ → ℕ
code_of number = 33 + number

-- a number in binary without leading zeros, if it has at most 32 bits
unfoldable pub binary : ℕ → List ℕ
binary value = digits_onto 32 2 false value []

-- the line of a signal's value: a scalar's value and code, or a vector's with a space between them
abbrev pub value_line : ℕ → ℕ → List ℕ
value_line number value =
    if is_bit number
    then binary value ++ code_of number ∷ codes "\n"
    else codes "b" ++ (binary value ++ (codes " " ++ code_of number ∷ codes "\n"))

-- the line of the value of a signal, if there is one
abbrev pub line_of : ℕ → Option ℕ → List ℕ
line_of number None = []
line_of number (Some value) = value_line number value

-- the line of a time
abbrev pub time_line : ℕ → List ℕ
time_line time = codes "#" ++ (decimal time ++ codes "\n")

-- the line of a time, and after it others, if there are any
abbrev pub timed : ℕ → List ℕ → List ℕ
timed time [] = []
timed time (byte ∷ lines) = time_line time ++ byte ∷ lines

-- these lines, and before them that of the time where it was not put
abbrev pub lines_with : Bool → ℕ → List ℕ → List ℕ
lines_with is_timed time lines = if is_timed then lines else timed time lines

-- there are some
abbrev pub are_some : List ℕ → Bool
are_some [] = false
are_some (byte ∷ lines) = true

-- These ticks in nanoseconds, rounded down, by a clock of so many Hz. With no such clock one tick is one nanosecond.
abbrev pub nanoseconds : Option ℕ → ℕ → ℕ
nanoseconds None ticks = ticks
nanoseconds (Some hz) ticks = ticks * 10 ^ 9 / hz
