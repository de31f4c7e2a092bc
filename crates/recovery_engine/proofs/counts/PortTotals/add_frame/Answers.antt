use Rattle.std.proofs.Common.{List, arith, subst, sym, ◌∙◌}
use Rattle.trace_values.specs.declared.cell.Cell.{Cell}
use Rattle.source_counts.specs.Kept as kept
use Rattle.recovery_report.specs.Port.{frames_of}
use Rattle.recovery_engine.proofs.counts.PortTotals.add_frame.Goals as goal

pub returns-clause-counted : goal.returns-clause-counted
returns-clause-counted c = λ old new at g k. record {
  frames = subst (λ (l : List (List Cell)). kept.Stands c.add_frame_bytes.new.self l) (sym g.frames) (record {
    bytes = c.add_frame_bytes.ensures.bytes (frames_of old) at k.frames.bytes;
    items = c.add_frame_bytes.ensures.items (frames_of old) at k.frames.items;
  });
  fulls = k.fulls ∙ sym g.fulls;
  halves = (let a = k.halves in let b = g.halves in omega (arith, a, b));
}
