use Rattle.std.proofs.Common.{arith, rules}
use Rattle.itm_codec.proofs.Joining.{joined, room}
use Rattle.itm_codec.proofs.decoder.ItmDecoder.word_with.Goals as goal

pub overflow_add-result : goal.overflow_add-result
overflow_add-result c =
    let k = room c.args.self.now.waiting c.args.self.now.held c.from_le_bytes.result c.args.self.now.few c.args.self.now.fits in
    omega (arith, k)

pub returns : goal.returns
returns c =
    joined c.args.self.now.waiting c.args.self.now.held c.args.next.now c.from_le_bytes.result c.args.self.now.few c.args.self.now.fits (search rules) (search rules) c.from_le_bytes.ensures
