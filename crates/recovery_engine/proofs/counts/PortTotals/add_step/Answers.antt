use Rattle.std.proofs.Common.{List, arith, subst, sym}
use Rattle.trace_values.specs.declared.cell.Cell.{Cell}
use Rattle.deformatter.specs.Runs.{HaveRuns}
use Rattle.deformatter.specs.declared.step.PortStep.TheVariants.{Frame}
use Rattle.source_counts.specs.Kept as kept
use Rattle.recovery_report.specs.Counts.{CountsGrow}
use Rattle.recovery_report.specs.Port.{frames_of}
use Rattle.recovery_engine.proofs.PortCounts.{have_last}
use Rattle.recovery_engine.proofs.counts.PortTotals.add_step.Goals as goal

pub returns-in-Frame-clause-counted : goal.returns-in-Frame-clause-counted
returns-in-Frame-clause-counted c = λ old new g runs k.
    let cells = c.args.cells.now in
    let grow : CountsGrow old new Frame cells = subst (λ s. CountsGrow old new s cells) c.in-Frame.is g in
    let last = have_last (frames_of old) cells (subst (λ l. HaveRuns l) grow.frames runs) in record {
      frames = subst (λ (l : List (List Cell)). kept.Stands c.add_frame.new.self l) (sym grow.frames) (record {
        bytes = c.add_frame.ensures.bytes (frames_of old) k.frames.bytes;
        items = c.add_frame.ensures.items (frames_of old) last k.frames.items;
      });
      fulls = (let a = k.fulls in let b = grow.fulls in omega (arith, a, b));
      halves = (let a = k.halves in let b = grow.halves in omega (arith, a, b));
    }
