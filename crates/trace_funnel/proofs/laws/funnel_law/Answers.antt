use Rattle.std.proofs.Common.{◌+◌, ap, length, arith}
use Rattle.std.specs.Prelude.{not}
use Rattle.std.proofs.lemmas.Bool.{lt-ltb}
use Rattle.trace_funnel.specs.Turns.{queue_of, is_full, turns_while, empty}
use Rattle.trace_funnel.specs.Acts.{acts}
use Rattle.trace_funnel.proofs.Acting.{all_kept, all_given, none_left, acts_wait, acts_room, enough, acts_append}
use Rattle.trace_funnel.proofs.laws.funnel_law.Goals as goal

pub returns-clause-kept : goal.returns-clause-kept
returns-clause-kept c = all_kept

pub returns-clause-drained : goal.returns-clause-drained
returns-clause-drained c = λ hold depth ids done h a o.
    (none_left hold depth done (empty ids) h, all_given hold depth ids done h a o)

pub returns-clause-waits : goal.returns-clause-waits
returns-clause-waits c = acts_wait

pub returns-clause-turns : goal.returns-clause-turns
returns-clause-turns c = λ hold depth ids done id h d a o i.
    let ps = (acts hold depth (empty ids) done).places in
    let made = turns_while (is_full depth id) hold (length ids) ps in
    let room = ap not (lt-ltb (length (queue_of id made.places)) depth (acts_room hold depth ids done id h d a o i)) in
    (room, λ more. enough (is_full depth id) hold (length ids) (length ids + more) ps (omega arith) room)

pub returns-clause-joined : goal.returns-clause-joined
returns-clause-joined c = λ hold depth ps first next. acts_append hold depth first next ps
