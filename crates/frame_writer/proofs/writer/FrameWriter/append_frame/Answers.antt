use Rattle.std.proofs.Common.{List, ◌++◌, ◌∙◌, ap}
use Rattle.frame_writer.specs.declared.pair.Pair.{Pair}
use Rattle.frame_writer.specs.Written.{aux_byte, spread}
use Rattle.frame_writer.proofs.Bytes.{frame_is}
use Rattle.frame_writer.proofs.writer.FrameWriter.append_frame.Goals as goal

pub returns-clause-items : goal.returns-clause-items
returns-clause-items c =
    let w = c.args.self.now in
    frame_is w.every w.halves w.frames w.pairs.items c.args.even c.args.aux _ _ _ _ _ c.append_sync.ensures.items
    (c.append_pairs.ensures.items ∙ ap (λ (l : List Pair). c.append_sync.new.out.items ++ spread w.halves l) c.as_slice.ensures.value) c.push.ensures.items
    (c.aux_of.ensures ∙ ap (λ (l : List Pair). aux_byte l c.args.aux) c.as_slice-2.ensures.value) c.push-2.ensures.items
