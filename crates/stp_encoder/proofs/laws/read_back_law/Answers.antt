use Rattle.stp_encoder.proofs.ReadingBack.{nibbles_back, bytes_back}
use Rattle.stp_encoder.proofs.laws.read_back_law.Goals as goal

pub returns-clause-nibbles : goal.returns-clause-nibbles
returns-clause-nibbles c = λ puts h fill n e. nibbles_back c.args.order puts h fill n e

pub returns-clause-bytes : goal.returns-clause-bytes
returns-clause-bytes c = λ puts h u e. bytes_back c.args.order puts h u e
