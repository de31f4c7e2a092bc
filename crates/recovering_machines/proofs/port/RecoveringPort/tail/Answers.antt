use Rattle.std.proofs.Common.{◌∙◌, ap}
use Rattle.deformatter.specs.Reading.{port_stream}
use Rattle.recovering_machines.proofs.port.RecoveringPort.tail.Goals as goal

pub returns : goal.returns
returns c = λ r k. c.tail.ensures.list r.now.units k.stands ∙ ap (λ h. (port_stream h r.now.units).tail) k.mode
