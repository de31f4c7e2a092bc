use Rattle.std.proofs.Common.{◌∙◌, arith}
use Rattle.frame_runs.proofs.After.{after_named, after_none, named_low, top_is}
use Rattle.frame_runs.proofs.named.after_frame.Goals as goal

pub overflow_sub-last : goal.overflow_sub-last
overflow_sub-last c =
    (let t = (top_is c.named.result (named_low c.args.frame.now c.named.result c.named.ensures)).zeros in omega (arith, t))

pub bounds-frame-last : goal.bounds-frame-last
bounds-frame-last c =
    (let t = (top_is c.named.result (named_low c.args.frame.now c.named.result c.named.ensures)).low in omega (arith, t))

pub returns-then-mixed-eq1 : goal.returns-then-mixed-eq1
returns-then-mixed-eq1 c =
    let t = top_is c.named.result (named_low c.args.frame.now c.named.result c.named.ensures) in
    c.new.ensures ∙ after_named c.args.frame.now c.args.id.now c.named.result c.named.ensures t c.if-mixed-eq1.true

pub returns-else-mixed-eq1 : goal.returns-else-mixed-eq1
returns-else-mixed-eq1 c =
    let t = top_is c.named.result (named_low c.args.frame.now c.named.result c.named.ensures) in
    after_none c.args.frame.now c.args.id.now c.named.result c.named.ensures t c.if-mixed-eq1.false
