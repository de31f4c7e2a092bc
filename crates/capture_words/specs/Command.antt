-- The command: its action and its options, and what clap states of the words that it is given.
use Rattle.std.specs.Prelude.{◌≡◌, List, [], ◌∷◌, codes, true, Some}
use Rattle.clap.specs.Words.{App, Row, Rule, Text, new_app, new_rule, with_rule, matches_of}
use Rattle.clap.specs.Faults.{fault_of}
use Rattle.clap.specs.Kinds.{Kinds}
use Rattle.clap.specs.declared.builder.ArgAction.TheVariants.{Set}
use Rattle.capture_words.specs.declared.option.TheConstants.{ALL_OPTIONS}
use Rattle.capture_words.specs.declared.option.CommandOption.{CommandOption}
use Rattle.capture_words.specs.declared.option.CommandOption.TheVariants.{Frames, Packets, Itm, Stp, StpOrder, Id}
use Rattle.capture_words.specs.declared.option.CommandOption.TheVariants.{Only, Window, Sync, Half, Limit, Items}
use Rattle.capture_words.specs.declared.option.CommandOption.TheVariants.{Lose, Recover, Size, Pointer, Full}
use Rattle.capture_words.specs.declared.option.CommandOption.TheVariants.{Order, Hold, Depth, Port, Hz}
use Rattle.capture_words.specs.declared.option.CommandOption.TheVariants.{Kinds as KindsOption}

-- the name of an option, after the two dashes
abbrev pub option_name : CommandOption → Text
option_name Frames = codes "frames"
option_name Packets = codes "packets"
option_name Itm = codes "itm"
option_name Stp = codes "stp"
option_name StpOrder = codes "stp-order"
option_name Id = codes "id"
option_name Only = codes "only"
option_name Window = codes "window"
option_name Sync = codes "sync"
option_name Half = codes "half"
option_name Limit = codes "limit"
option_name Items = codes "items"
option_name Lose = codes "lose"
option_name Recover = codes "recover"
option_name Size = codes "size"
option_name Pointer = codes "pointer"
option_name Full = codes "full"
option_name Order = codes "order"
option_name Hold = codes "hold"
option_name Depth = codes "depth"
option_name Hz = codes "hz"
option_name KindsOption = codes "kinds"
option_name Port = codes "port"

-- an option has one value, and is given once at most
abbrev pub option_rule : CommandOption → Rule
option_rule option = record (new_rule (option_name option)) { long = Some (option_name option); action = Some Set }

-- the action is a word without dashes, and has to be there
abbrev pub action_rule : Rule
action_rule = record (new_rule (codes "action")) { required = true; action = Some Set }

abbrev pub with_options : List CommandOption → App → App
with_options [] app = app
with_options (option ∷ options) app = with_options options (with_rule app (option_rule option))

-- the command, with its action and its options, and no defaults of clap's
unfoldable pub trace_app : App
trace_app = with_options ALL_OPTIONS (with_rule (new_app (codes "lipparoy")) action_rule)

-- the entries of the words, by clap's function of a simple command's words; the program's name is in front
abbrev pub rows_of_words : List Text → List Row
rows_of_words words = matches_of trace_app (codes "lipparoy" ∷ words)

-- why clap refuses the words
abbrev pub refusals : List Text → Kinds
refusals words = fault_of trace_app (codes "lipparoy" ∷ words)

-- the words are a call of the command
abbrev pub IsCall : List Text → Type 0
IsCall words = refusals words ≡ []
