use Rattle.std.proofs.Common.{sym, ◌∙◌, ap}
use Rattle.trace_values.specs.declared.reading_modes.FramesMode.{FramesMode}
use Rattle.source_counts.specs.Counts.{unattributed_of}
use Rattle.recovery_report.specs.Port.{frames_of, recovered}
use Rattle.recovery_engine.proofs.PortCounts.{bare_unattributed, framed_by}
use Rattle.recovery_engine.proofs.engine.Recovery.unattributed.Goals as goal

pub returns-in-Bare : goal.returns-in-Bare
returns-in-Bare c = λ u k.
    sym (ap (λ (m : FramesMode). unattributed_of (frames_of (recovered m u))) c.in-Bare.is ∙ bare_unattributed u)

pub returns-in-Hunt : goal.returns-in-Hunt
returns-in-Hunt c = λ u k.
    let frames = c.args.self.now.plan.frames in
    c.unattributed.ensures (recovered frames u) (k.counted (framed_by frames c.in-Hunt.is))
