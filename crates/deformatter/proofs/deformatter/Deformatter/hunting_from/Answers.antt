use Rattle.std.proofs.Common.{◌+◌, ◌∙◌, ap}
use Rattle.deformatter.specs.Names.{pattern, run_after}
use Rattle.deformatter.proofs.Resuming.{seeks_again, seeks_as, stands_hunting}
use Rattle.deformatter.proofs.deformatter.Deformatter.hunting_from.Goals as goal

pub returns-clause-list : goal.returns-clause-list
returns-clause-list c = λ u x b s f.
    let k = c.len-part.result in
    let w = seeks_again c.args.self.now u x k s c.requires.dead f c.len-part.ensures.size in
    stands_hunting _ _ c.new-port.ensures.phase
    (seeks_as k x _ _ _ c.args.byte b (c.push.ensures.run
    ∙ ap (λ n. run_after pattern n c.args.byte) c.after-port.ensures) (ap (λ n. n + 1) c.from.ensures) w)
    c.new-port.ensures.live c.new-port.ensures.state c.new-port.ensures.id
