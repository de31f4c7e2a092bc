use Rattle.std.proofs.Common.{ℕ, List, ◌++◌, length, sym, ◌∙◌, ap, Option}
use Rattle.capture_actions.specs.Names.{placed_from, FramesMode, id_after, offsets_of, without_halves, cells_of}
use Rattle.frame_grammar.proofs.Wholes.{whole_size}
use Rattle.capture_actions.specs.CapturePort.{frames_mode, id_of}
use Rattle.capture_actions.specs.Port.{port_of}
use Rattle.capture_actions.specs.PortGrowth.{whole_cells}
use Rattle.capture_actions.specs.Split.{bytes_of_id}
use Rattle.capture_actions.specs.SplitLaws.{bytes_of_id-append}
use Rattle.capture_actions.proofs.Ports.{not_faulty, frame_cells_more}
use Rattle.capture_actions.proofs.split.Split.feed_frame.Goals as goal

pub returns-clause-fed : goal.returns-clause-fed
returns-clause-fed c = λ seen w s whole.
    let plan = c.args.self.now.plan in
    let mode = frames_mode c.args.self.now.port in
    let moded = c.args.self.now.moded in
    let next = seen ++ w in
    let frame = c.args.frame.now in
    let halves = c.args.halves in
    let cells = whole_cells (length seen) w frame (id_of c.args.self.now.port) in
    let old = port_of mode seen in
    let new = port_of mode next in
    let grew = c.pass_frame.ensures.grew seen w frame halves s whole in
    record {
      read = c.pass_frame.ensures.read seen w frame halves s whole (whole_size w frame halves whole) (c.copy_source_bytes-copied.ensures.after ∙ ap (id_after frame) c.id.ensures);
      more = bytes_of_id plan.id cells;
      grown = ap (λ (m : FramesMode). bytes_of_id plan.id (cells_of (port_of m next))) (sym moded)
          ∙ ap (bytes_of_id plan.id) (frame_cells_more old new halves cells grew)
          ∙ bytes_of_id-append plan.id (cells_of old) cells
          ∙ ap (λ (m : FramesMode). bytes_of_id plan.id (cells_of (port_of m seen)) ++ bytes_of_id plan.id cells) moded;
      gained = c.append_front.ensures
          ∙ ap (λ (l : List ℕ). c.args.outlet.now ++ l)
          (c.copy_source_bytes-copied.ensures.bytes (offsets_of (without_halves (placed_from (length seen) w)))
          ∙ ap (λ (i : Option ℕ). bytes_of_id plan.id (whole_cells (length seen) w frame i)) c.id.ensures);
      fault = not_faulty plan.frames next (ap (λ (m : FramesMode). (port_of m next).fault) (sym moded) ∙ grew.fault);
    }
