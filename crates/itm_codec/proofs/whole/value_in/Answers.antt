use Rattle.itm_codec.proofs.Windows.{value_is}
use Rattle.itm_codec.proofs.whole.value_in.Goals as goal

pub returns : goal.returns
returns c = value_is c.args.payload c.args.code c.requires.0 c.requires.1
