use Rattle.std.proofs.Common.{take, ◌∙◌, ap, arith}
use Rattle.std.proofs.Math.Nat.{mod-eq_of_lt}
use Rattle.itm_codec.specs.Names.{walk, rule, bytes_of}
use Rattle.itm_codec.specs.Decoder.{partial_of}
use Rattle.itm_codec.proofs.Joining.{word_front}
use Rattle.itm_codec.proofs.decoder.ItmDecoder.with_waiting.Goals as goal

pub returns-clause-part : goal.returns-clause-part
returns-clause-part c =
    let d = c.args.self.now in
    let few = d.few in
    let bytes = ap (take d.waiting) c.to_le_bytes.ensures ∙ word_front d.waiting d.held (omega (arith, few)) ∙ ap (bytes_of d.waiting) (mod-eq_of_lt d.fits) in
    c.cut_packet.ensures.all (partial_of d) (ap (walk rule d.partial) bytes ∙ d.within)
