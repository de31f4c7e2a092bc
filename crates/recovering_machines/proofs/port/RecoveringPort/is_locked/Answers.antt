use Rattle.std.proofs.Common.{◌∙◌, ap}
use Rattle.deformatter.specs.Reading.{port_stream}
use Rattle.recovering_machines.proofs.port.RecoveringPort.is_locked.Goals as goal

pub returns : goal.returns
returns c = λ r k. c.is_locked.ensures.list r.now.units k.stands ∙ ap (λ h. (port_stream h r.now.units).locked) k.mode
