use Rattle.std.proofs.Common.{◌++◌, ◌∙◌, List, ℕ, ap, length, subst, sym, arith, true}
use Rattle.capture_actions.specs.Names.{Pours}
use Rattle.capture_actions.specs.KindCheck.{last_by, plan_of}
use Rattle.capture_actions.specs.KindLines.{owed}
use Rattle.capture_actions.proofs.Parts.{puts_by}
use Rattle.capture_actions.proofs.kind_check.KindCheckAction.pour.Goals as goal

pub returns-in-Nothing-clause-poured : goal.returns-in-Nothing-clause-poured
returns-in-Nothing-clause-poured c =
    let old = c.args.self.now in
    (puts_by _ _ _ old.kinds old.lines c.pour.new.self _ _ c.plan.ensures c.pour.ensures).nothing c.in-Nothing.is
    (last_by (plan_of old) old.reading.stop old.tails)

pub returns-in-Source-clause-poured : goal.returns-in-Source-clause-poured
returns-in-Source-clause-poured c =
    let old = c.args.self.now in
    (puts_by _ _ _ old.kinds old.lines c.pour.new.self _ _ c.plan.ensures c.pour.ensures).source c.in-Source.is
    (last_by (plan_of old) old.reading.stop old.tails)

pub put_last-requires : goal.put_last-requires
put_last-requires c =
    let same = ap length (c.pour.ensures.last c.in-Last.is).0 in let room = c.requires.room in omega arith

pub returns-in-Last-clause-poured : goal.returns-in-Last-clause-poured
returns-in-Last-clause-poured c =
    let old = c.args.self.now in
    let last = last_by (plan_of old) old.reading.stop old.tails in
    let one = (puts_by _ _ _ old.kinds old.lines c.pour.new.self _ _ c.plan.ensures c.pour.ensures).last c.in-Last.is in
    subst (λ (l : List ℕ). Pours (owed (plan_of old) old.kinds old.lines last)
    (owed (plan_of old) old.kinds c.pour.new.self last) c.args.outlet.now l true)
    (sym (c.put_last.ensures ∙ ap (λ (l : List ℕ). l ++ last) one.0)) (one.1 last)
