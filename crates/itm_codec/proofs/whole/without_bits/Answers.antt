use Rattle.itm_codec.proofs.Windows.{seven_bits}
use Rattle.itm_codec.proofs.whole.without_bits.Goals as goal

pub returns : goal.returns
returns c = seven_bits c.args.kept
