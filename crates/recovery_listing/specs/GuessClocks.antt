-- What the clocks of guesses have taken, where guesses are asked for.
use Rattle.std.specs.Prelude.{◌≡◌, List, [], ◌∷◌, Bool, true, false}
use Rattle.source_events.specs.declared.event.Event.{Event}
use Rattle.source_events.specs.declared.packet.Packet.{Packet}
use Rattle.stretch_readings.specs.declared.heard.Heard.{Heard}
use Rattle.recovering_machines.specs.Hearing.{is_guess}
use Rattle.capture_actions.specs.SourceClocks.{AllStand}
use Rattle.recovery_listing.specs.declared.guess_clocks.GuessClocks.{GuessClocks}

-- they have taken these events, if they are kept
abbrev pub Follow : GuessClocks → List (Event Packet) → Type 0
Follow clocks es = clocks.kept ≡ true → AllStand clocks.clocks es

-- none of these events is a guess
abbrev pub NoGuess : List (Event (Heard Packet)) → Type 0
NoGuess [] = Unit {0}
NoGuess (e ∷ es) = (is_guess e.what ≡ false) × NoGuess es

-- these events can be listed with clocks of guesses, or without
abbrev pub Suit : Bool → List (Event (Heard Packet)) → Type 0
Suit true es = Unit {0}
Suit false es = NoGuess es
