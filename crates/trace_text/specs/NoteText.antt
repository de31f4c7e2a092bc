-- The lines of the notes.
use Rattle.std.specs.Prelude.{ℕ, List, ◌++◌, codes, decimal, Bool, true, false}
use Rattle.hex.specs.Hex.{encode_lower}

-- `last H`: these bytes in hexadecimal
abbrev pub last_line : List ℕ → List ℕ
last_line recent = codes "last " ++ (encode_lower recent ++ codes "\n")

-- `limit N`
abbrev pub limit_line : ℕ → List ℕ
limit_line limit = codes "limit " ++ (decimal limit ++ codes "\n")

-- 0 or 1
abbrev pub flag : Bool → List ℕ
flag false = codes "0"
flag true = codes "1"

-- `skipped S dropped D patterns P`: the bits that realigning did not write, before the first pattern and at the ends of
-- segments, and how many patterns there were
abbrev pub slipped_line : ℕ → ℕ → ℕ → List ℕ
slipped_line skipped dropped patterns =
    codes "skipped " ++ (decimal skipped
    ++ (codes " dropped " ++ (decimal dropped ++ (codes " patterns " ++ (decimal patterns ++ codes "\n")))))

-- `pointer P full F dropped D`: a trace buffer's write pointer, whether each of its places was written, as 0 or 1, and
-- how many bytes were overwritten
abbrev pub buffer_line : ℕ → Bool → ℕ → List ℕ
buffer_line pointer full dropped =
    codes "pointer " ++ (decimal pointer
    ++ (codes " full " ++ (flag full ++ (codes " dropped " ++ (decimal dropped ++ codes "\n")))))

-- `image isn't N bytes`
abbrev pub image_line : ℕ → List ℕ
image_line size = codes "image isn't " ++ (decimal size ++ codes " bytes\n")

-- `line N R NAME`: the first fault of a script, with the number of its line, and the fault's number and name
abbrev pub script_fault_line : ℕ → ℕ → List ℕ → List ℕ
script_fault_line line number name =
    codes "line " ++ (decimal line ++ (codes " " ++ (decimal number ++ (codes " " ++ (name ++ codes "\n")))))
