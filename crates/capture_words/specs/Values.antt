-- What the texts of the action and of the options say.
use Rattle.std.specs.Prelude.{ℕ, List, codes, Bool, true, false, Option, Some, None, Result, if◌then◌else◌, ◌==◌}
use Rattle.std.specs.Prelude.{[], ◌∷◌, ok_or, option_and_then, option_map, map, length, nat_le}
use Rattle.std.specs.Str.{bytes_eq}
use Rattle.std.specs.List.{before_first, after_first, slice_split}
use Rattle.clap.specs.Words.{Text, Row, first_of}
use Rattle.stp_grammar.specs.declared.packet.Order.{Order}
use Rattle.stp_grammar.specs.declared.packet.Order.TheVariants.{Msn, Lsn}
use Rattle.item_tap.specs.declared.bounds.Bounds.{Bounds}
use Rattle.item_tap.specs.declared.choice.Choice.{Choice}
use Rattle.item_tap.specs.declared.choice.Choice.TheVariants.{OfKind, Source, Port, Comparator, Time}
use Rattle.item_tap.specs.declared.choice.Kind.{Kind}
use Rattle.item_tap.specs.declared.choice.Kind.TheVariants.{Itm as ItmKind, Dwt as DwtKind, Stp as StpKind}
use Rattle.item_tap.specs.declared.choice.Kind.TheVariants.{Raw as RawKind, Trigger as TriggerKind}
use Rattle.decimal_words.specs.Numbers.{number_named, number_after}
use Rattle.capture_words.specs.declared.page.Page.TheVariants.{Help, Version}
use Rattle.capture_words.specs.declared.recover.Recover.{Recover}
use Rattle.capture_words.specs.declared.recover.Recover.TheVariants.{Off, On, Near}
use Rattle.capture_words.specs.declared.usage.UsageFault.{UsageFault}
use Rattle.capture_words.specs.declared.usage.UsageFault.TheVariants.{UnknownAction}
use Rattle.capture_words.specs.declared.values.ActionName.{ActionName}
use Rattle.capture_words.specs.declared.values.ActionName.TheVariants.{Show, Split, Check, Rebuild, Exercise}
use Rattle.capture_words.specs.declared.values.ActionName.TheVariants.{Realign, Ring, Unring, Text as TextName, Funnel}
use Rattle.capture_words.specs.declared.values.ActionName.TheVariants.{Vcd, Print}

-- the action that a text names
abbrev pub action_named : Text → Option ActionName
action_named text =
    if bytes_eq text (codes "show") then Some Show
    else if bytes_eq text (codes "split") then Some Split
    else if bytes_eq text (codes "check") then Some Check
    else if bytes_eq text (codes "rebuild") then Some Rebuild
    else if bytes_eq text (codes "exercise") then Some Exercise
    else if bytes_eq text (codes "realign") then Some Realign
    else if bytes_eq text (codes "ring") then Some Ring
    else if bytes_eq text (codes "unring") then Some Unring
    else if bytes_eq text (codes "text") then Some TextName
    else if bytes_eq text (codes "funnel") then Some Funnel
    else if bytes_eq text (codes "vcd") then Some Vcd
    else if bytes_eq text (codes "help") then Some (Print Help)
    else if bytes_eq text (codes "version") then Some (Print Version)
    else None

-- the order of nibbles that a text names
abbrev pub order_named : Text → Option Order
order_named text =
    if bytes_eq text (codes "msn") then Some Msn else if bytes_eq text (codes "lsn") then Some Lsn else None

-- the bit that a text names
abbrev pub bit_named : Text → Option Bool
bit_named text =
    if bytes_eq text (codes "0") then Some false else if bytes_eq text (codes "1") then Some true else None

-- the kind of events that a text names
abbrev pub kind_named : Text → Option Kind
kind_named text =
    if bytes_eq text (codes "itm") then Some ItmKind
    else if bytes_eq text (codes "dwt") then Some DwtKind
    else if bytes_eq text (codes "stp") then Some StpKind
    else if bytes_eq text (codes "raw") then Some RawKind
    else if bytes_eq text (codes "trigger") then Some TriggerKind
    else None

-- the first of two values that there is
abbrev pub or_else : {T : Type 0} → Option T → Option T → Option T
or_else (Some x) other = Some x
or_else None other = other

-- the times of ITM sources, if the text names them
abbrev pub time_named : Text → Option Choice
time_named text = if bytes_eq text (codes "time") then Some Time else None

-- the choice of events that a text names: a kind, the times, a source from 1 to 126, a stimulus port from 0 to 31, or a
-- comparator from 0 to 3
abbrev pub choice_named : Text → Option Choice
choice_named text =
    or_else (option_map OfKind (kind_named text))
    (or_else (time_named text)
    (or_else (option_map Source (number_after (codes "id=") 1 126 text))
    (or_else (option_map Port (number_after (codes "port=") 0 31 text))
    (option_map Comparator (number_after (codes "cmp=") 0 3 text)))))

-- a window from one choice to another, if there are both
abbrev pub bounds_of : Option Choice → Option Choice → Option Bounds
bounds_of (Some first) (Some last) = Some (record { first = first; last = last })
bounds_of first last = None

-- the window that a text names: the choice before its first comma, and that after it
abbrev pub window_named : Text → Option Bounds
window_named text =
    bounds_of (choice_named (before_first (λ c. c == 44) text)) (choice_named (after_first (λ c. c == 44) text))

abbrev pub action_in : List Row → Result ActionName UsageFault
action_in rows = ok_or (option_and_then action_named (first_of (codes "action") rows)) UnknownAction

-- all values, where there is each
abbrev pub each : {T : Type 0} → List (Option T) → Option (List T)
each [] = Some []
each (x ∷ xs) = option_and_then (λ value. option_map (λ values. value ∷ values) (each xs)) x

abbrev pub at_most : {T : Type 0} → ℕ → List T → Option (List T)
at_most most xs = if nat_le (length xs) most then Some xs else None

-- what the parts of a text name that have commas, 2C, between, at most so many
abbrev pub parts_named : {T : Type 0} → (Text → Option T) → ℕ → Text → Option (List T)
parts_named named most text = option_and_then (at_most most) (each (map named (slice_split (λ c. c == 44) text)))

-- the IDs that a text names: numbers from 1 to `greatest`
abbrev pub ids_named : ℕ → ℕ → Text → Option (List ℕ)
ids_named most greatest = parts_named (number_named 1 greatest) most

-- the choices that a text names
abbrev pub choices_named : Text → Option (List Choice)
choices_named = parts_named choice_named 8

-- whether a text says that reading goes on after a fault
abbrev pub recover_named : Text → Option Recover
recover_named text =
    if bytes_eq text (codes "off") then Some Off
    else if bytes_eq text (codes "on") then Some On
    else if bytes_eq text (codes "near") then Some Near
    else None

-- where reading goes on after a fault, whether what a source that hunts may have said is told as a guess
abbrev pub guesses_of : Recover → Option Bool
guesses_of Off = None
guesses_of On = Some false
guesses_of Near = Some true

-- whether a text says that the items of each kind are counted
abbrev pub switch_named : Text → Option Bool
switch_named text =
    if bytes_eq text (codes "off") then Some false else if bytes_eq text (codes "on") then Some true else None
