use Rattle.std.proofs.Common.{sym, Ok, Err}
use Rattle.script_text.proofs.NewLines.{same_line, new_is_said}
use Rattle.script_text.proofs.version_two.read_line2.Goals as goal

pub returns-in-Ok-clause-value : goal.returns-in-Ok-clause-value
returns-in-Ok-clause-value c =
    sym (same_line c.args.plan.now c.args.line.now (Ok c.in-Ok.said) (sym c.in-Ok.ensures.value) (λ e. cc))

pub returns-in-BadLine-clause-said : goal.returns-in-BadLine-clause-said
returns-in-BadLine-clause-said c = new_is_said c.args.plan.now c.read_new.result c.read_new.ensures.new

pub returns-in_default : goal.returns-in_default
returns-in_default c = record {
  value =
      sym (same_line c.args.plan.now c.args.line.now (Err c.in-Err.fault) (sym c.in-Err.ensures.value)
      (λ e. c.in_default.not-BadLine cc));
  said = tt;
}
