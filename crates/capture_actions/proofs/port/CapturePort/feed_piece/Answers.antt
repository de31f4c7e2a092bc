use Rattle.std.proofs.Common.{◌++◌, List, ℕ, take, sym, ◌∙◌, ap, subst, ◌≡◌, true, None}
use Rattle.std.proofs.lemmas.List.{length-take-le}
use Rattle.capture_actions.specs.Names.{placed, FramesMode, mode_of}
use Rattle.deformatter.specs.Reader as reader
use Rattle.deformatter.specs.Reader.{is_live}
use Rattle.capture_actions.specs.CapturePort.{Stands}
use Rattle.capture_actions.specs.Port.{port_of}
use Rattle.capture_actions.specs.PortGrowth.{Gained}
use Rattle.capture_actions.specs.declared.port.CapturePort.{CapturePort}
use Rattle.capture_actions.proofs.Ports.{next_bytes, counted_next, fault_none, has_grown, fault_is}
use Rattle.capture_actions.proofs.port.CapturePort.feed_piece.Goals as goal

-- a port that has met no fault reads bytes without one
sound : (port : CapturePort) (seen : List ℕ) → Stands port seen → is_live port.reader ≡ true → (port_of (mode_of port.reader) seen).fault ≡ None
sound port seen h l = fault_none port.fault (port_of (mode_of port.reader) seen).fault h.fault (sym port.alive ∙ l)

pub returns-clause-read : goal.returns-clause-read
returns-clause-read c = λ seen h.
    let port = c.args.self.now in
    let mode = mode_of port.reader in
    let bytes = take c.feed_block-taken.result.bytes c.args.piece.now in
    let cells = c.feed_block-taken.new.out.items in
    let grown = has_grown mode seen bytes port.count c.feed_block-taken.result.step cells h.count (sound port seen h c.requires.live) (c.feed_block-taken.ensures.fed (placed seen) h.reader) in (
      record {
        reader = subst (reader.Stands c.feed_block-taken.new.self) (next_bytes seen bytes port.count h.count) (c.feed_block-taken.ensures.list (placed seen) h.reader);
        count = counted_next seen bytes port.count c.feed_block-taken.result.bytes h.count (length-take-le c.feed_block-taken.result.bytes c.args.piece.now c.feed_block-taken.ensures.bytes.1);
        fault = c.fault_in-self.ensures.fault ∙ sym grown.fault ∙ ap (λ (m : FramesMode). (port_of m (seen ++ bytes)).fault) (sym c.feed_block-taken.ensures.same);
      },
      subst (Gained mode seen (seen ++ bytes) cells) (sym (c.is_some.ensures ∙ fault_is c.fault_in-self.result c.feed_block-taken.result.step c.fault_in-self.ensures.none)) grown.gained,
    )
