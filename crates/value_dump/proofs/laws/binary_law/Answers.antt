use Rattle.value_dump.proofs.BinaryDigits.{in_binary}
use Rattle.value_dump.proofs.laws.binary_law.Goals as goal

pub returns : goal.returns
returns c = in_binary
