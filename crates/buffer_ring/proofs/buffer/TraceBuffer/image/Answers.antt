use Rattle.std.proofs.Common.{◌<◌, length, ◌∙◌, arith}
use Rattle.buffer_ring.proofs.Images.{image_exact}
use Rattle.buffer_ring.proofs.buffer.TraceBuffer.image.Goals as goal

pub returns-clause-exact : goal.returns-clause-exact
returns-clause-exact c = λ u s e.
    let w = c.args.self.now in
    let least = w.least in
    let some : 0 < length w.bytes.items = omega (arith, least) in
    c.as_slice.ensures.value ∙ s.bytes ∙ image_exact (length w.bytes.items) u some e
