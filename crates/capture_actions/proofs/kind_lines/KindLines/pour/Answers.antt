use Rattle.std.proofs.Common.{◌-◌, refl, arith}
use Rattle.capture_actions.specs.KindLines.{line_of}
use Rattle.capture_actions.proofs.Parts.{puts_nothing, puts_last, puts_source}
use Rattle.capture_actions.proofs.kind_lines.KindLines.pour.Goals as goal

pub returns-then-self-eq0 : goal.returns-then-self-eq0
returns-then-self-eq0 c =
    let old = c.args.self.now in
    puts_nothing (line_of c.args.plan.now c.args.kinds.now old) old.left c.if-self-eq0.true c.args.outlet.now

pub returns-then-self-eq0-2 : goal.returns-then-self-eq0-2
returns-then-self-eq0-2 c =
    let old = c.args.self.now in
    let off = c.if-self-eq0.false in
    puts_last (line_of c.args.plan.now c.args.kinds.now old) old.left (old.left - 1) c.args.outlet.now refl (omega arith)
    c.if-self-eq0-2.true

pub returns : goal.returns
returns c =
    let old = c.args.self.now in
    let off = c.if-self-eq0-2.false in
    puts_source (line_of c.args.plan.now c.args.kinds.now old) old.left (old.left - 1) c.args.outlet.now c.put_source.new.outlet
    refl old.few (omega arith) c.put_source.ensures
