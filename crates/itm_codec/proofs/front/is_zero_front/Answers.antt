use Rattle.std.proofs.Common.{rules}
use Rattle.std.proofs.lemmas.Bool.{eqb-true}
use Rattle.itm_codec.proofs.Fronts.{zero_front}
use Rattle.itm_codec.proofs.front.is_zero_front.Goals as goal

pub returns : goal.returns
returns c = λ e.
    zero_front c.args.window.now c.from_le_bytes.result c.first_bits.result c.args.count (search rules) (search rules) c.from_le_bytes.ensures c.requires c.first_bits.ensures (eqb-true _ _ e)
