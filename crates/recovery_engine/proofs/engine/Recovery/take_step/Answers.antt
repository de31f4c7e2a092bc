use Rattle.std.proofs.Common.{◌+◌, ◌-◌, List, ◌++◌, refl, sym, ◌∙◌, ap, subst, arith, take}
use Rattle.std.proofs.lemmas.List.{length-append, length-take-le}
use Rattle.trace_values.specs.Placed.{Placed, placed_from}
use Rattle.trace_values.proofs.Placing.{length-placed_from}
use Rattle.recovery_report.specs.Words.{parts_by}
use Rattle.recovery_report.specs.Counts.{CountsGrow}
use Rattle.recovery_report.specs.Port.{recovered}
use Rattle.recovery_report.specs.Report.{Part, parts_in}
use Rattle.recovery_engine.specs.Engine.{Stands}
use Rattle.recovery_engine.specs.Front.{Adds, Kept}
use Rattle.recovery_engine.proofs.Blocks.{framed_counts, framed_late, framed_parts, port_list}
use Rattle.recovery_engine.proofs.Feeding.{next_more, rises_more}
use Rattle.recovery_engine.proofs.Gathering.{report_after, stands_after, took}
use Rattle.recovery_engine.proofs.PortCounts.{recovered_runs}
use Rattle.recovery_engine.proofs.engine.Recovery.take_step.Goals as goal

pub returns : goal.returns
returns g c =
    let self = c.args.self.now in
    let plan = self.plan in
    let port = c.feed_block-taken in
    let at = c.args.at in
    let bytes = take port.result.bytes c.args.piece.now in
    let w = placed_from at bytes in
    let size = length-take-le port.result.bytes c.args.piece.now port.ensures.bytes.1 in
    let cells = c.as_slice-cells.result.now in
    let more : List Part = parts_by 0 (at + (port.result.bytes - 1)) port.result.step cells in
    let takes = took g.V.Receiver.gets more self.slots.items c.as_mut_slice.ensures.value c.take_step.ensures.len
    c.take_step.ensures.takes in
    let now : Kept = record {
      port = port.new.self;
      totals = c.add_step.new.self;
      count = self.count + port.result.bytes;
      next = at + port.result.bytes;
    } in
    let adds : (u : List Placed) → Stands self u → Adds self now more u (u ++ w) = λ u k. record {
      port_is = port_list self.port port.new.self u at bytes plan.frames port.ensures.list k.port;
      counted = λ framed.
          c.add_step.ensures.counted (recovered plan.frames u) (recovered plan.frames (u ++ w))
          (subst (λ l. CountsGrow (recovered plan.frames u) (recovered plan.frames (u ++ w)) port.result.step l)
          (sym c.as_slice-cells.ensures.value)
          (framed_counts self.port at bytes port.result.step port.new.out.items
          port.ensures.fed port.ensures.cells plan.frames u c.requires.framed k.port))
          (recovered_runs plan.frames (u ++ w)) (k.counted framed);
      count_is = (let e = k.count in let l = length-append u w in let p = length-placed_from at bytes in
          omega (arith, e, l, p, size));
      next_is = next_more u at port.result.bytes bytes size port.ensures.bytes.0;
      rising = rises_more u self.next at port.result.bytes bytes size c.requires.offsets.0 k.rising;
      parts =
          framed_parts self.port at bytes port.result.step port.new.out.items port.ensures.fed port.ensures.cells
          plan.frames u port.result.bytes c.requires.framed size k.port
          ∙ ap (λ l. parts_in (recovered plan.frames u)
          ++ parts_by 0 (at + (port.result.bytes - 1)) port.result.step l) (sym c.as_slice-cells.ensures.value);
    } in
    record {
      bytes = port.ensures.bytes;
      plan = refl;
      guesses = refl;
      next = refl;
      list = λ u k. stands_after g.V.Receiver.gets self more takes u (u ++ w) k _ refl refl refl (adds u k);
      given = (
        takes.0,
        takes.1,
        λ u k. report_after g.V.Receiver.gets self more takes u (u ++ w) k now (adds u k),
      );
      late = λ m u k. framed_late self.port at bytes port.result.step port.new.out.items port.ensures.fed port.ensures.cells
          plan.frames u m k.port;
      room = (let a = c.take_step.ensures.room in let b = port.ensures.bytes.0 in omega (arith, a, b));
    }
