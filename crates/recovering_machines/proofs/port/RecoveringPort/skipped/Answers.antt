use Rattle.std.proofs.Common.{◌≡◌, ◌∙◌, ap, sym, arith}
use Rattle.deformatter.specs.Reading.{port_stream}
use Rattle.recovering_machines.specs.Port.{items_by}
use Rattle.recovering_machines.proofs.Feeding.{same}
use Rattle.recovering_machines.proofs.port.RecoveringPort.skipped.Goals as goal

pub returns : goal.returns
returns c = λ r k.
    let a = k.past_is in
    let b = k.count_is in
    let s : c.skipped.result ≡ (items_by r.now.hunts r.now.units).skipped =
    c.skipped.ensures.list r.now.units k.stands ∙ ap (λ h. (port_stream h r.now.units).skipped) k.mode
    ∙ sym (same r.now.hunts r.now.units).2 in
    omega (arith, a, b, s)
