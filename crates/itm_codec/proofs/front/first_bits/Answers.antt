use Rattle.itm_codec.proofs.Fronts.{bits_are}
use Rattle.itm_codec.proofs.front.first_bits.Goals as goal

pub returns : goal.returns
returns c = bits_are c.args.count c.requires
