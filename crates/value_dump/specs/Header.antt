-- What a value dump begins with (IEEE 1364-2005, clause 18 'Value change dump (VCD) files', section 18.2 'Format of the
-- four-state VCD file'): the declarations of all signals, and their values before the first packet.
use Rattle.std.specs.Prelude.{ℕ, List, [], ◌∷◌, ◌++◌, Option, None, Some, if◌then◌else◌, flat_map, codes, decimal}
use Rattle.std.specs.List.{enumerate_from}
use Rattle.value_dump.specs.Signals.{Signal, signals, is_bit, value_after}
use Rattle.value_dump.specs.Lines.{code_of, value_line}

-- how times are meant
abbrev pub comment : Option ℕ → List ℕ
comment None = codes "$comment 1 ns stands for one tick of the local timestamps $end\n"
comment (Some hz) = codes "$comment local timestamps by a clock of " ++ (decimal hz ++ codes " Hz $end\n")

abbrev pub variable : ℕ × Signal → List ℕ
variable (number, signal) =
    codes "$var wire " ++ (decimal signal.width
    ++ (codes " " ++ (code_of number ∷ codes " " ++ (signal.name ++ codes " $end\n"))))

-- the line of a signal's value, if it is known, or that it is not
abbrev pub known_line : ℕ → Option ℕ → List ℕ
known_line number None =
    if is_bit number then codes "x" ++ code_of number ∷ codes "\n" else codes "bx " ++ code_of number ∷ codes "\n"
known_line number (Some value) = value_line number value

abbrev pub initial : ℕ × Signal → List ℕ
initial (number, signal) = known_line number (value_after [] number)

unfoldable pub declarations : List ℕ
declarations =
    codes "$scope module itm $end\n"
    ++ (flat_map variable (enumerate_from 0 signals)
    ++ (codes "$upscope $end\n$enddefinitions $end\n$dumpvars\n"
    ++ (flat_map initial (enumerate_from 0 signals) ++ codes "$end\n")))

abbrev pub header : Option ℕ → List ℕ
header hz = codes "$timescale 1 ns $end\n" ++ (comment hz ++ declarations)
