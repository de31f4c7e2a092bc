-- A plain reader of a value change dump (IEEE 1364-2005, clause 18 'Value change dump (VCD) files', section 18.2
-- 'Format of the four-state VCD file'): what the lines of a text, one after the other, say of the time and of the value
-- of a variable, which has a name. It knows nothing of what this crate writes but that each declaration, time and value
-- has a line of its own.
use Rattle.std.specs.Prelude.{ℕ, List, [], ◌∷◌, Option, None, Some, Bool, ◌==◌, nat_lt, if◌then◌else◌, codes, map}
use Rattle.std.specs.List.{list_any, slice_split}
use Rattle.std.specs.Str.{bytes_eq}
use Rattle.std.specs.Str.Parse.{digits_value}

-- the lines of a text, and the words of a line
abbrev pub lines_in : List ℕ → List (List ℕ)
lines_in text = slice_split (λ b. b == 10) text

abbrev pub words_in : List ℕ → List (List ℕ)
words_in line = slice_split (λ b. b == 32) line

-- what a line says: the time from here on; the value that the variable with a code has now, in binary; that a name is
-- the variable's with a code; or none of these
pub data Said : Type 0 where
  Time : (time : ℕ) → Said
  Value : (code value : List ℕ) → Said
  Variable : (code name : List ℕ) → Said
  Nothing : Said

-- it is one of these characters
abbrev pub is_among : List ℕ → ℕ → Bool
is_among characters c = list_any (λ b. b == c) characters

-- `bVALUE CODE`, of which these are the words without the letter
abbrev pub vector : List (List ℕ) → Said
vector (value ∷ code ∷ []) = Value code value
vector words = Nothing

-- `$var TYPE SIZE CODE NAME $end`, of which these are the words after the first, and all of them
abbrev pub variable : List (List ℕ) → Said
variable (kind ∷ size ∷ code ∷ name ∷ words) = Variable code name
variable words = Nothing

abbrev pub declared : List (List ℕ) → Said
declared [] = Nothing
declared (key ∷ words) = if bytes_eq key (codes "$var") then variable words else Nothing

-- a time after `#`, a vector after `b` or `B`, a scalar's value and its code with nothing between, or a declaration
abbrev pub said_by : List ℕ → Said
said_by [] = Nothing
said_by (first ∷ rest) =
    if is_among (codes "#") first
    then Time (digits_value 10 rest)
    else (if is_among (codes "bB") first
    then vector (words_in rest)
    else (if is_among (codes "01xXzZ") first
    then Value rest (first ∷ [])
    else declared (words_in (first ∷ rest))))

abbrev pub said_in : List ℕ → List Said
said_in text = map said_by (lines_in text)

-- the number of binary digits; with one that is unknown or of high impedance it is not known
abbrev pub number_of : List ℕ → Option ℕ
number_of value = if list_any (is_among (codes "xXzZ")) value then None else Some (digits_value 2 value)

-- the time after what is said, by that before it
abbrev pub time_in : Option ℕ → List Said → Option ℕ
time_in time [] = time
time_in time (Time new ∷ more) = time_in (Some new) more
time_in time (said ∷ more) = time_in time more

-- the value of the variable with a code, by that before it
abbrev pub value_in : List ℕ → Option ℕ → List Said → Option ℕ
value_in code value [] = value
value_in code value (Value other new ∷ more) =
    value_in code (if bytes_eq other code then number_of new else value) more
value_in code value (said ∷ more) = value_in code value more

-- the code of the variable with a name, if it was declared
abbrev pub code_in : List ℕ → Option (List ℕ) → List Said → Option (List ℕ)
code_in name code [] = code
code_in name code (Variable new other ∷ more) =
    code_in name (if bytes_eq other name then Some new else code) more
code_in name code (said ∷ more) = code_in name code more

-- what a reader has at the end of a text: the time, and the value of the variable with a name, where it is known
abbrev pub time_read : List ℕ → Option ℕ
time_read text = time_in None (said_in text)

abbrev pub value_with : Option (List ℕ) → List Said → Option ℕ
value_with None said = None
value_with (Some code) said = value_in code None said

abbrev pub value_read : List ℕ → List ℕ → Option ℕ
value_read name text = value_with (code_in name None (said_in text)) (said_in text)

-- What is said up to a time: all before the first later one.
abbrev pub said_until : ℕ → List Said → List Said
said_until time [] = []
said_until time (Time new ∷ more) = if nat_lt time new then [] else Time new ∷ said_until time more
said_until time (said ∷ more) = said ∷ said_until time more

-- so the value of the variable with a name at a time, as a viewer shows it, where it is known
abbrev pub value_shown : List ℕ → ℕ → List ℕ → Option ℕ
value_shown name time text = value_with (code_in name None (said_in text)) (said_until time (said_in text))
