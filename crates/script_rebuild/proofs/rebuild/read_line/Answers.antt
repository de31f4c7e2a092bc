use Rattle.std.proofs.Common.{◌∙◌, ap, Result}
use Rattle.script_rebuild.specs.Names.{LineFault, answer}
use Rattle.script_rebuild.specs.Script.{in_order}
use Rattle.script_rebuild.specs.ReadingLaws.{says_fault}
use Rattle.script_rebuild.proofs.Sources.{says_same, can_be_put}
use Rattle.script_rebuild.proofs.rebuild.read_line.Goals as goal

pub returns-in-Ok-clause-said : goal.returns-in-Ok-clause-said
returns-in-Ok-clause-said c = λ lines.
    let line = c.read_into.new.said in
    let read = c.read_into.ensures.value ∙ ap (λ (r : Result (Unit {0}) LineFault). answer r line) c.in-Ok.is in
    says_same c.args.plan.now c.args.version lines c.args.text.now line read

pub returns-in-Ok-clause-can : goal.returns-in-Ok-clause-can
returns-in-Ok-clause-can c = can_be_put c.args.plan.now c.read_into.new.said c.in-Ok.ensures.said

pub returns-in-BadLine-clause-can : goal.returns-in-BadLine-clause-can
returns-in-BadLine-clause-can c = c.read_later.ensures.can (in_order c.args.plan.now.stp)

pub returns-in_default : goal.returns-in_default
returns-in_default c = record {
  said = λ lines.
      says_fault c.args.plan.now c.args.version lines c.args.text.now c.in-Err.fault
      (c.read_into.ensures.value ∙ ap (λ (r : Result (Unit {0}) LineFault). answer r c.read_into.new.said) c.in-Err.is)
      c.in_default.not-BadLine;
  can = tt;
}
