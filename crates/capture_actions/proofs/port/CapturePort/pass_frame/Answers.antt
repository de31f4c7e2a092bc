use Rattle.std.proofs.Common.{◌≡◌, ℕ, List, ◌++◌, length, sym, ◌∙◌, ap, subst, Option}
use Rattle.capture_actions.specs.Names.{Placed, placed, placed_from, FramesMode, cells, id_after, offsets_of}
use Rattle.capture_actions.specs.Names.{without_halves, IsWhole, mode_of, port_reading, GrowsByFrame}
use Rattle.trace_values.specs.Placed.{units_of}
use Rattle.deformatter.specs.Reader.{Stands, id_of}
use Rattle.capture_actions.specs.Port.{port_of}
use Rattle.capture_actions.specs.PortGrowth.{whole_cells}
use Rattle.capture_actions.proofs.Ports.{next_bytes, counted_next, fault_none}
use Rattle.capture_actions.proofs.port.CapturePort.pass_frame.Goals as goal

-- the reader's word on a frame, as one on the capture
grown : (mode : FramesMode) (seen w frame : List ℕ) (at halves : ℕ) (id : Option ℕ) → at ≡ length seen → IsWhole w frame halves →
    GrowsByFrame (port_reading mode (placed seen)) (port_reading mode (placed seen ++ placed_from at w)) halves (cells (units_of (without_halves (placed_from at w))) (offsets_of (without_halves (placed_from at w))) id) →
    GrowsByFrame (port_of mode seen) (port_of mode (seen ++ w)) halves (whole_cells (length seen) w frame id)
grown mode seen w frame at halves id e whole g =
    subst (λ (n : ℕ). GrowsByFrame (port_of mode seen) (port_of mode (seen ++ w)) halves (whole_cells n w frame id)) e
    (subst (λ (f : List ℕ). GrowsByFrame (port_of mode seen) (port_of mode (seen ++ w)) halves (cells f (offsets_of (without_halves (placed_from at w))) id)) (whole.frame_is at)
    (subst (λ (u : List Placed). GrowsByFrame (port_of mode seen) (port_reading mode u) halves (cells (units_of (without_halves (placed_from at w))) (offsets_of (without_halves (placed_from at w))) id)) (next_bytes seen w at e) g))

pub returns-clause-grew : goal.returns-clause-grew
returns-clause-grew c = λ seen w frame halves h whole.
    let port = c.args.self.now in
    grown (mode_of port.reader) seen w frame port.count halves (id_of port.reader) h.count whole
    (c.pass_frame.ensures.grows (placed seen) (placed_from port.count w) (without_halves (placed_from port.count w)) halves h.reader (whole.spelled port.count))

pub returns-clause-read : goal.returns-clause-read
returns-clause-read c = λ seen w frame halves h whole size after.
    let port = c.args.self.now in
    let mode = mode_of port.reader in
    let at = port.count in
    let f = without_halves (placed_from at w) in
    let g = grown mode seen w frame at halves (id_of port.reader) h.count whole (c.pass_frame.ensures.grows (placed seen) (placed_from at w) f halves h.reader (whole.spelled at)) in
    record {
      reader = subst (Stands c.pass_frame.new.self) (next_bytes seen w at h.count)
          (c.pass_frame.ensures.list (placed seen) (placed_from at w) f halves h.reader (whole.spelled at) (after ∙ ap (λ (x : List ℕ). id_after x (id_of port.reader)) (sym (whole.frame_is at))));
      count = counted_next seen w at c.args.bytes h.count size;
      fault = h.fault ∙ fault_none port.fault (port_of mode seen).fault h.fault (sym port.alive ∙ c.requires.live) ∙ sym g.fault
          ∙ ap (λ (m : FramesMode). (port_of m (seen ++ w)).fault) (sym c.pass_frame.ensures.same);
    }
