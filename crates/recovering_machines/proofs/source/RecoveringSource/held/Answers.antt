use Rattle.std.proofs.Common.{◌∙◌}
use Rattle.recovering_machines.proofs.Bytes.{shows}
use Rattle.recovering_machines.proofs.source.RecoveringSource.held.Goals as goal

pub returns : goal.returns
returns c = λ r k. let s = c.args.self.now in c.held.ensures ∙ (shows s.machine s.past s.count k.front r k.keeps s.live).1
