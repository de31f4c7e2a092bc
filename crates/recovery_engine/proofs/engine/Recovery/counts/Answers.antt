use Rattle.std.proofs.Common.{◌∙◌, ℕ, ap, cond}
use Rattle.std.specs.Prelude.{◌==◌}
use Rattle.recovery_report.specs.Port.{recovered}
use Rattle.recovery_engine.proofs.PortCounts.{bare_is, framed_by}
use Rattle.recovery_engine.proofs.engine.Recovery.counts.Goals as goal

pub returns-in-Bare-clause-value : goal.returns-in-Bare-clause-value
returns-in-Bare-clause-value c = λ u k.
    bare_is c.args.self.now.plan.frames c.args.id c.bare_bytes-bytes.result u c.in-Bare.is
    (c.bare_bytes-bytes.ensures ∙ ap (λ (n : ℕ). cond (1 == c.args.id) n 0) k.count)

pub returns-in-Hunt-clause-value : goal.returns-in-Hunt-clause-value
returns-in-Hunt-clause-value c = λ u k.
    let frames = c.args.self.now.plan.frames in
    c.of.ensures.value (recovered frames u) (k.counted (framed_by frames c.in-Hunt.is))
