use Rattle.std.proofs.Common.{◌≡◌, ℕ, ◌+◌, ◌<◌, List, [], ◌∷◌, ◌++◌, length, get_or, ◌∙◌, arith}
use Rattle.std.specs.Prelude.{codes, decimal}
use Rattle.std.proofs.lemmas.List.{get_or-append-add, get_or_append_left}
use Rattle.std.proofs.lemmas.List.FromFn.{get_or-map-range_with_len}
use Rattle.value_dump.specs.Signals.{Signal, numbered, signal}
use Rattle.value_dump.proofs.laws.signals_law.Goals as goal

abbrev none : Signal
none = signal [] 0

-- the signals before those of the ports, and those behind them
abbrev before : List Signal
before = signal (codes "exception") 9 ∷ signal (codes "pc") 32 ∷ signal (codes "asleep") 1 ∷ []

abbrev behind : List Signal
behind = numbered (codes "cmp") 4 ++ signal (codes "lost") 1 ∷ []

pub returns-clause-ports : goal.returns-clause-ports
returns-clause-ports c = λ n h.
    get_or-append-add before (numbered (codes "port") 32 ++ behind) n none
    ∙ get_or_append_left (numbered (codes "port") 32) behind none n h
    ∙ get_or-map-range_with_len (λ (k : ℕ). signal (codes "port" ++ decimal k) 32) 0 32 n n none h (omega arith)
