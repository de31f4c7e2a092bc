use Rattle.std.proofs.Common.{◌≡◌, ℕ, List, [], length, sym, subst, None}
use Rattle.trace_values.specs.Placed.{placed}
use Rattle.deformatter.specs.PortReading.{port_reading}
use Rattle.source_counts.specs.Counts.{items_of}
use Rattle.source_events.specs.declared.packet.Packet.{Packet}
use Rattle.source_events.specs.Report.{Mapped, stop_in, report}
use Rattle.source_events.specs.Tails.{items_in}
use Rattle.source_events.proofs.Captures.{capture_rises}
use Rattle.source_events.proofs.ReportCounts.{items_counted}
use Rattle.source_events.proofs.laws.items_law.Goals as goal

pub returns : goal.returns
returns c = λ plan bytes x none e.
    subst (λ (ss : List (Mapped Packet)). stop_in ss (port_reading plan.frames (placed bytes)) ≡ None →
    items_in x (report ss plan.frames (placed bytes)) ≡ items_of x (port_reading plan.frames (placed bytes)).frames) (sym none)
    (λ k. items_counted plan.frames (placed bytes) 0 (length bytes) x (capture_rises bytes) k) e
