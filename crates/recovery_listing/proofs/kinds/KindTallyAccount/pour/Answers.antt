use Rattle.std.proofs.Common.{◌++◌, ◌∙◌, List, ℕ, ap, length, subst, sym, arith, true}
use Rattle.trace_stream.specs.Debt.{Pours}
use Rattle.source_events.specs.declared.plan.Plan.{Plan}
use Rattle.capture_actions.specs.KindLines.{PutsPart, owed}
use Rattle.recovery_listing.specs.KindTally.{last_of}
use Rattle.recovery_listing.proofs.kinds.KindTallyAccount.pour.Goals as goal

pub returns-in-Nothing-clause-poured : goal.returns-in-Nothing-clause-poured
returns-in-Nothing-clause-poured c =
    let old = c.args.self.now in
    let put = subst (λ (p : Plan). PutsPart c.pour.result (owed p old.counts.kinds old.lines)
    (owed p old.counts.kinds c.pour.new.self) c.args.outlet.now c.pour.new.outlet) c.plan.ensures c.pour.ensures in
    put.nothing c.in-Nothing.is (last_of old.tails)

pub returns-in-Source-clause-poured : goal.returns-in-Source-clause-poured
returns-in-Source-clause-poured c =
    let old = c.args.self.now in
    let put = subst (λ (p : Plan). PutsPart c.pour.result (owed p old.counts.kinds old.lines)
    (owed p old.counts.kinds c.pour.new.self) c.args.outlet.now c.pour.new.outlet) c.plan.ensures c.pour.ensures in
    put.source c.in-Source.is (last_of old.tails)

pub put_last-requires : goal.put_last-requires
put_last-requires c =
    let old = c.args.self.now in
    let put = subst (λ (p : Plan). PutsPart c.pour.result (owed p old.counts.kinds old.lines)
    (owed p old.counts.kinds c.pour.new.self) c.args.outlet.now c.pour.new.outlet) c.plan.ensures c.pour.ensures in
    let same = ap length (put.last c.in-Last.is).0 in
    let room = c.requires.room in
    omega (arith, same, room)

pub returns-in-Last-clause-poured : goal.returns-in-Last-clause-poured
returns-in-Last-clause-poured c =
    let old = c.args.self.now in
    let last = last_of old.tails in
    let put = subst (λ (p : Plan). PutsPart c.pour.result (owed p old.counts.kinds old.lines)
    (owed p old.counts.kinds c.pour.new.self) c.args.outlet.now c.pour.new.outlet) c.plan.ensures c.pour.ensures in
    let one = put.last c.in-Last.is in
    subst (λ (l : List ℕ). Pours (owed old.plan old.counts.kinds old.lines last)
    (owed old.plan old.counts.kinds c.pour.new.self last) c.args.outlet.now l true)
    (sym (c.put_last.ensures ∙ ap (λ (l : List ℕ). l ++ last) one.0)) (one.1 last)
