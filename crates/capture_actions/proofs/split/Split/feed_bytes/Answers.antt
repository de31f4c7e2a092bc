use Rattle.std.proofs.Common.{List, ◌++◌, take, ◌∙◌, ap, subst}
use Rattle.capture_actions.specs.Names.{Cell, FramesMode, cells_of}
use Rattle.capture_actions.specs.Port.{port_of}
use Rattle.capture_actions.specs.PortGrowth.{Gained}
use Rattle.capture_actions.specs.Split.{bytes_of_id}
use Rattle.capture_actions.specs.SplitLaws.{bytes_of_id-append}
use Rattle.capture_actions.proofs.split.Split.feed_bytes.Goals as goal

pub returns-clause-fed : goal.returns-clause-fed
returns-clause-fed c = λ seen s.
    let plan = c.args.self.now.plan in
    let taken = c.feed_piece-taken in
    let next = seen ++ take taken.result.bytes c.args.piece.now in
    let cells = taken.new.cells.items in
    let read = taken.ensures.read seen s in
    let gained = subst (λ (m : FramesMode). Gained m seen next cells taken.result.is_faulty) c.args.self.now.moded read.1 in
    record {
      read = read.0;
      more = bytes_of_id plan.id cells;
      grown = ap (bytes_of_id plan.id) gained.cells ∙ bytes_of_id-append plan.id (cells_of (port_of plan.frames seen)) cells;
      gained = c.put_cells.ensures ∙ ap (λ (l : List Cell). c.args.outlet.now ++ bytes_of_id plan.id l) c.as_slice.ensures.value;
      fault = gained.fault;
    }
