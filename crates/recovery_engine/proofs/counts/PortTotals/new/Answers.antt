use Rattle.std.proofs.Common.{sym, subst}
use Rattle.source_counts.specs.Kept as kept
use Rattle.recovery_engine.proofs.PortCounts.{none_yet}
use Rattle.recovery_engine.proofs.counts.PortTotals.new.Goals as goal

pub returns-clause-fresh : goal.returns-clause-fresh
returns-clause-fresh c = λ mode.
    let n = none_yet mode in
    record {
      frames = subst (λ l. kept.Stands c.new.result l) (sym n.0) c.new.ensures.fresh;
      fulls = sym n.1;
      halves = sym n.2;
    }
