-- The timestamps of STP items.
use Rattle.std.specs.Prelude.{ℕ, ◌-◌, ◌^◌, ◌==◌, nat_lt, List, length, codes, if◌then◌else◌, Option, Some, None}
use Rattle.std.specs.Prelude.{option_map, bytes_eq}
use Rattle.std.specs.Option.{option_map_or}
use Rattle.script_text.specs.Names.{Stamp, number_named, text_after}
use Rattle.stp_grammar.specs.declared.item.Stamp.TheVariants.{None as NoStamp, Natural, Gray, Raw}
use Rattle.script_text.specs.Steps.{◌>>=◌}
use Rattle.script_text.specs.Words.{word_of}
use Rattle.script_text.specs.Numbers.{hexadecimal_named}

-- the size of a timestamp whose word has this many nibbles
abbrev pub size_with : ℕ → Option ℕ
size_with count =
    if nat_lt count 13 then Some count
    else if count == 14 then Some 13
    else if count == 16 then Some 14
    else None

-- a timestamp of the nibbles of its word, and no more or fewer
unfoldable pub raw_named : List ℕ → Option Stamp
raw_named digits = do
  size ← size_with (length digits)
  word ← hexadecimal_named (length digits) digits
  Some (Raw size word)

-- a time has 64 bits
abbrev pub time_named : List ℕ → Option ℕ
time_named text = number_named 0 (2 ^ 64 - 1) text

-- `-` for none, `n=N` natural, `g=N` Gray, or `r=` and the nibbles of the word
abbrev pub stamp_named : List ℕ → Option Stamp
stamp_named text =
    if bytes_eq text (codes "-") then Some NoStamp
    else option_map_or (λ time. option_map Natural (time_named time)) (text_after (codes "n=") text)
    (option_map_or (λ time. option_map Gray (time_named time)) (text_after (codes "g=") text)
    (option_map_or raw_named (text_after (codes "r=") text) None))

-- the timestamp that the word of this number is
abbrev pub stamp_at : List (List ℕ) → ℕ → Option Stamp
stamp_at words k = stamp_named (word_of words k)
