-- What is counted adds up: proofs that the `impl` of its receiver cites.
use Rattle.std.proofs.Common.{List, [], ◌++◌, sym, subst, append_assoc, append-nil}
use Rattle.capture_actions.specs.Names.{Event, Packet}
use Rattle.capture_actions.specs.declared.kind_counts.KindCounts.{KindCounts}
use Rattle.capture_actions.specs.KindCounts.{HasCounted, gets}
use Rattle.recovering_machines.specs.Hearing.{AddsUp}

gets_none : (s : KindCounts × Unit {0}) → gets s [] s
gets_none s = λ before h. subst (λ (es : List (Event Packet)). HasCounted s.0 es) (sym (append-nil before)) h

gets_more : (a b c : KindCounts × Unit {0}) (es fs : List (Event Packet)) → gets a es b → gets b fs c →
    gets a (es ++ fs) c
gets_more a b c es fs g h = λ before k.
    subst (λ (l : List (Event Packet)). HasCounted c.0 l) (append_assoc before es fs) (h (before ++ es) (g before k))

pub adds_up : AddsUp gets
adds_up = record { none = gets_none; more = gets_more }
