use Rattle.std.proofs.Common.{rules, arith}
use Rattle.itm_codec.proofs.Places.{filled_few, bytes_are}
use Rattle.itm_codec.proofs.lengths.groups_bytes.Goals as goal

pub overflow_add-result : goal.overflow_add-result
overflow_add-result c = (let k = filled_few c.payload_in-payload.result c.payload_in-payload.ensures.fits in omega (arith, k))

pub returns : goal.returns
returns c = bytes_are c.args.window.now c.payload_in-payload.result (search rules) (search rules) c.payload_in-payload.ensures.is
