use Rattle.std.proofs.Common.{◌∙◌, ◌+◌, ap}
use Rattle.recovering_machines.proofs.Bytes.{shows}
use Rattle.recovering_machines.proofs.source.RecoveringSource.skipped.Goals as goal

pub returns : goal.returns
returns c = λ r k. let s = c.args.self.now in ap (λ n. s.past + s.count + n) c.skipped.ensures
    ∙ (shows s.machine s.past s.count k.front r k.keeps s.live).0
