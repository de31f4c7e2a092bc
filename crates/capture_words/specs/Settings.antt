-- What all options say: the default of each where it is absent, and else what its text names.
use Rattle.std.specs.Prelude.{◌^◌, List, [], ◌∷◌, Option, Some, None, Result, Ok, Err, false, ok_or, option_map}
use Rattle.clap.specs.Words.{Row, Text, first_of}
use Rattle.decimal_words.specs.Numbers.{number_named}
use Rattle.stp_grammar.specs.declared.packet.Order.TheVariants.{Msn}
use Rattle.trace_values.specs.ReadingModes.{frames_named, packets_named}
use Rattle.trace_values.specs.declared.reading_modes.FramesMode.TheVariants.{Hunt as FramesHunt}
use Rattle.trace_values.specs.declared.reading_modes.PacketsMode.TheVariants.{Hunt as PacketsHunt}
use Rattle.capture_words.specs.Command.{option_name}
use Rattle.capture_words.specs.Values.{ids_named, order_named, choices_named, window_named, recover_named, bit_named}
use Rattle.capture_words.specs.Values.{switch_named}
use Rattle.capture_words.specs.declared.option.CommandOption.{CommandOption}
use Rattle.capture_words.specs.declared.option.CommandOption.TheVariants.{Frames, Packets, Itm, Stp, StpOrder, Id}
use Rattle.capture_words.specs.declared.option.CommandOption.TheVariants.{Only, Window, Sync, Half, Limit, Items}
use Rattle.capture_words.specs.declared.option.CommandOption.TheVariants.{Lose, Recover, Size, Pointer, Full, Order}
use Rattle.capture_words.specs.declared.option.CommandOption.TheVariants.{Hold, Depth, Port, Hz, Kinds}
use Rattle.capture_words.specs.declared.recover.Recover.TheVariants.{Off}
use Rattle.capture_words.specs.declared.settings.Settings.{Settings}
use Rattle.capture_words.specs.declared.usage.UsageFault.{UsageFault}
use Rattle.capture_words.specs.declared.usage.UsageFault.TheVariants.{BadValue}

-- no source is mapped, all events are listed, a full synchronisation is before each 64 frames, there are no half ones,
-- 64 GiB are read at most, 12,000 items are made and no byte is lost, and reading ends at a fault
abbrev pub defaults : Settings
defaults = record {
  plan = record { frames = FramesHunt; packets = PacketsHunt; itm = []; stp = []; order = Msn };
  id = None;
  only = None;
  window = None;
  sync = 64;
  half = 0;
  limit = 2 ^ 36;
  items = 12000;
  lose = 0;
  recover = Off;
  size = None;
  pointer = 0;
  full = false;
  order = None;
  hold = 4;
  depth = 256;
  port = 0;
  hz = None;
  kinds = false;
}

-- a setting that may be absent
abbrev pub present : {T : Type 0} → Option T → Option (Option T)
present = option_map (λ x. Some x)

-- the settings with that which the text of an option names, if it names one
abbrev pub said : Settings → CommandOption → Text → Option Settings
said s Frames text = option_map (λ x. record s { plan = record s.plan { frames = x } }) (frames_named text)
said s Packets text = option_map (λ x. record s { plan = record s.plan { packets = x } }) (packets_named text)
said s Itm text = option_map (λ x. record s { plan = record s.plan { itm = x } }) (ids_named 8 111 text)
said s Stp text = option_map (λ x. record s { plan = record s.plan { stp = x } }) (ids_named 8 111 text)
said s StpOrder text = option_map (λ x. record s { plan = record s.plan { order = x } }) (order_named text)
said s Id text = option_map (λ x. record s { id = x }) (present (number_named 0 126 text))
said s Only text = option_map (λ x. record s { only = x }) (present (choices_named text))
said s Window text = option_map (λ x. record s { window = x }) (present (window_named text))
said s Sync text = option_map (λ x. record s { sync = x }) (number_named 0 1000000 text)
said s Half text = option_map (λ x. record s { half = x }) (number_named 0 8 text)
said s Limit text = option_map (λ x. record s { limit = x }) (number_named 1 (2 ^ 36) text)
said s Items text = option_map (λ x. record s { items = x }) (number_named 1 1000000 text)
said s Lose text = option_map (λ x. record s { lose = x }) (number_named 0 1000000 text)
said s Recover text = option_map (λ x. record s { recover = x }) (recover_named text)
said s Size text = option_map (λ x. record s { size = x }) (present (number_named 16 (2 ^ 24) text))
said s Pointer text = option_map (λ x. record s { pointer = x }) (number_named 0 16777215 text)
said s Full text = option_map (λ x. record s { full = x }) (bit_named text)
said s Order text = option_map (λ x. record s { order = x }) (present (ids_named 16 126 text))
said s Hold text = option_map (λ x. record s { hold = x }) (number_named 1 15 text)
said s Depth text = option_map (λ x. record s { depth = x }) (number_named 1 4096 text)
said s Port text = option_map (λ x. record s { port = x }) (number_named 0 31 text)
said s Hz text = option_map (λ x. record s { hz = x }) (present (number_named 1 1000000000000 text))
said s Kinds text = option_map (λ x. record s { kinds = x }) (switch_named text)

-- an option that is absent changes nothing
abbrev pub given : Settings → CommandOption → Option Text → Option Settings
given s option None = Some s
given s option (Some text) = said s option text

infixl 10 ◌>>=◌
-- a fault, or else what is made of the value
abbrev pub ◌>>=◌ : {A B : Type 0} → Result A UsageFault → (A → Result B UsageFault) → Result B UsageFault
Err fault >>= next = Err fault
Ok value >>= next = next value

-- what these options say, one after another, or the first whose value is bad
abbrev pub all_given : List Row → List CommandOption → Settings → Result Settings UsageFault
all_given rows [] s = Ok s
all_given rows (option ∷ options) s =
    ok_or (given s option (first_of (option_name option) rows)) (BadValue option) >>= all_given rows options

-- the options in the order in which their values are looked at
abbrev pub in_order : List CommandOption
in_order =
    Frames ∷ Packets ∷ Itm ∷ Stp ∷ StpOrder ∷ Id ∷ Only ∷ Window ∷ Sync ∷ Half ∷ Limit ∷ Items ∷ Lose ∷ Recover ∷ Size
    ∷ Pointer ∷ Full ∷ Order ∷ Hold ∷ Depth ∷ Port ∷ Hz ∷ Kinds ∷ []

-- what all options say, or the first fault in that order
abbrev pub settings_in : List Row → Result Settings UsageFault
settings_in rows = all_given rows in_order defaults
