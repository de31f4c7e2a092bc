-- What `check` does with events: nothing, for any number of them.
use Rattle.std.specs.Prelude.{ℕ, List, [], ◌++◌, ⊤}
use Rattle.capture_actions.specs.Names.{Event, Packet}
use Rattle.capture_actions.specs.declared.check.Ignored.{Ignored}
use Rattle.capture_actions.specs.declared.kind_counts.TheConstants.{MANY}
use Rattle.stretch_readings.specs.declared.heard.Heard.{Heard}
use Rattle.recovering_machines.specs.Hearing.{AddsUp}

abbrev pub gets : Ignored × Unit {0} → List (Event (Heard Packet)) → Ignored × Unit {0} → Type 0
gets old es new = ⊤

abbrev pub room : Ignored × Unit {0} → ℕ
room s = MANY

gets_none : (s : Ignored × Unit {0}) → gets s [] s
gets_none s = tt

gets_more : (a b c : Ignored × Unit {0}) (es fs : List (Event (Heard Packet))) → gets a es b → gets b fs c →
    gets a (es ++ fs) c
gets_more a b c es fs h k = tt

pub adds_up : AddsUp gets
adds_up = record { none = gets_none; more = gets_more }
