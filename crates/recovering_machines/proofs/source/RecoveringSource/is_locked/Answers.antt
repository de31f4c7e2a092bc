use Rattle.std.proofs.Common.{◌∙◌}
use Rattle.recovering_machines.proofs.Bytes.{locks}
use Rattle.recovering_machines.proofs.source.RecoveringSource.is_locked.Goals as goal

pub returns : goal.returns
returns c = λ r k. let s = c.args.self.now in c.is_locked.ensures ∙ locks s.machine s.past s.count k.front r k.keeps
