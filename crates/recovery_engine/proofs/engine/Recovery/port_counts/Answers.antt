use Rattle.std.proofs.Common.{◌≡◌, ℕ, sym, ◌∙◌, ap, length}
use Rattle.trace_values.specs.declared.reading_modes.FramesMode.{FramesMode}
use Rattle.source_events.specs.declared.tails.PortCounts.{PortCounts}
use Rattle.recovery_report.specs.Port.{frames_of, fulls_of, halves_of, recovered}
use Rattle.recovery_engine.proofs.PortCounts.{bare_counts, framed_by}
use Rattle.recovery_engine.proofs.engine.Recovery.port_counts.Goals as goal

same_counts : (a b c x y z : ℕ) → a ≡ x → b ≡ y → c ≡ z →
    (let p : PortCounts = record { fulls = a; halves = b; frames = c } in
    let q : PortCounts = record { fulls = x; halves = y; frames = z } in p ≡ q)
same_counts a b c x y z e f g = cc

pub returns-in-Bare : goal.returns-in-Bare
returns-in-Bare c = λ u k.
    let bare = bare_counts u in
    let is = c.in-Bare.is in
    same_counts 0 0 c.args.self.now.count _ _ _
    (sym (ap (λ (m : FramesMode). fulls_of (recovered m u)) is ∙ bare.0))
    (sym (ap (λ (m : FramesMode). halves_of (recovered m u)) is ∙ bare.1))
    (k.count ∙ sym (ap (λ (m : FramesMode). length (frames_of (recovered m u))) is ∙ bare.2))

pub returns-in-Hunt : goal.returns-in-Hunt
returns-in-Hunt c = λ u k.
    let frames = c.args.self.now.plan.frames in
    c.port_counts.ensures (recovered frames u) (k.counted (framed_by frames c.in-Hunt.is))
