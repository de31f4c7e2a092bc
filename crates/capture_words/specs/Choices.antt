-- The texts of choices of events, of lists of them, of windows, and of lists of IDs.
use Rattle.std.specs.Prelude.{◌≤◌, ℕ, List, codes, decimal, ◌++◌, ◌∷◌, length, map}
use Rattle.std.specs.List.{All, join_with_byte}
use Rattle.clap.specs.Words.{Text}
use Rattle.item_tap.specs.declared.bounds.Bounds.{Bounds}
use Rattle.item_tap.specs.declared.choice.Choice.{Choice}
use Rattle.item_tap.specs.declared.choice.Choice.TheVariants.{OfKind, Source, Port, Comparator, Time}
use Rattle.item_tap.specs.declared.choice.Kind.{Kind}
use Rattle.item_tap.specs.declared.choice.Kind.TheVariants.{Itm, Dwt, Stp, Raw, Trigger}

abbrev pub kind_text : Kind → Text
kind_text Itm = codes "itm"
kind_text Dwt = codes "dwt"
kind_text Stp = codes "stp"
kind_text Raw = codes "raw"
kind_text Trigger = codes "trigger"

abbrev pub choice_text : Choice → Text
choice_text (OfKind kind) = kind_text kind
choice_text (Source x) = codes "id=" ++ decimal x
choice_text (Port n) = codes "port=" ++ decimal n
choice_text (Comparator n) = codes "cmp=" ++ decimal n
choice_text Time = codes "time"

-- a source is from 1 to 126, since the null source, 0, gives no events, a stimulus port from 0 to 31, and a comparator
-- from 0 to 3
abbrev pub IsChoice : Choice → Type 0
IsChoice (OfKind kind) = Unit {0}
IsChoice (Source x) = (1 ≤ x) × (x ≤ 126)
IsChoice (Port n) = n ≤ 31
IsChoice (Comparator n) = n ≤ 3
IsChoice Time = Unit {0}

-- the text of choices: theirs with commas, 2C, between, from one to eight
abbrev pub choices_text : List Choice → Text
choices_text choices = join_with_byte 44 (map choice_text choices)

abbrev pub AreChoices : List Choice → Type 0
AreChoices choices = All IsChoice choices × (1 ≤ length choices) × (length choices ≤ 8)

-- the text of a window: its two choices with a comma, 2C, between them
abbrev pub window_text : Bounds → Text
window_text window = choice_text window.first ++ 44 ∷ choice_text window.last

abbrev pub IsWindow : Bounds → Type 0
IsWindow window = IsChoice window.first × IsChoice window.last

-- the text of IDs: their numbers with commas, 2C, between
abbrev pub ids_text : List ℕ → Text
ids_text ids = join_with_byte 44 (map decimal ids)

-- from one to so many, each from 1 to `greatest`
abbrev pub AreIds : ℕ → ℕ → List ℕ → Type 0
AreIds most greatest ids = All (λ x. (1 ≤ x) × (x ≤ greatest)) ids × (1 ≤ length ids) × (length ids ≤ most)
